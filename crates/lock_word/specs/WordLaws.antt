-- What the packed word says of the holds that it encodes.
use Rattle.std.specs.Prelude.{◌≡◌, ℕ, ◌+◌, ◌≤◌, Bool, ◌↔◌, IsTrue}
use Rattle.lock_modes.specs.declared.hold.Hold.{Hold}
use Rattle.lock_modes.specs.Limits.{IsLimit}
use Rattle.lock_modes.specs.Holds.{hold_has}
use Rattle.lock_word.specs.declared.want.ExWant.{ExWant}
use Rattle.lock_word.specs.declared.down.Down.{Down}
use Rattle.lock_word.specs.BarredBags.{BarredBag, IsLegalBarredBag, bars_of, PermitsLockStep, barred_after}
use Rattle.lock_word.specs.Holders.{IsPart}
use Rattle.lock_word.specs.Word.{word_of, word_admits, word_after, amount, step_of_want, step_of_down}

-- the word admits the exchange exactly where what all hold permits the step, and then the new word encodes what all
-- hold after it
pub record IsExchangeOf (announced : Bool) (limit : ℕ) (all : BarredBag) (want : ExWant) : Type 0 where
  pub admits :
      IsTrue (word_admits announced limit (word_of all) want) ↔ PermitsLockStep announced limit all (step_of_want want)
  pub puts : PermitsLockStep announced limit all (step_of_want want)
      → word_after (word_of all) want ≡ word_of (barred_after announced all (step_of_want want))

-- a party that announced itself has its bar among those that are set
abbrev pub ExchangesRefineSteps : Type 0
ExchangesRefineSteps =
    (announced : Bool) (limit : ℕ) (all : BarredBag) (want : ExWant) → IsLimit limit → IsLegalBarredBag limit all
    → bars_of announced ≤ all.bars → IsExchangeOf announced limit all want

abbrev pub SubtractionsRefineSteps : Type 0
SubtractionsRefineSteps =
    (own : Hold) (all : BarredBag) (down : Down) → IsPart own all → IsTrue (hold_has own (step_of_down down))
    → word_of all ≡ word_of (barred_after own.announced all (step_of_down down)) + amount down

abbrev pub EncodingIsInjective : Type 0
EncodingIsInjective =
    (limit : ℕ) (a b : BarredBag) → IsLimit limit → IsLegalBarredBag limit a → IsLegalBarredBag limit b → word_of a ≡ word_of b → a ≡ b
