-- What the rule of the word means.
use Rattle.std.specs.Prelude.{◌≡◌, ℕ}
use Rattle.lock_modes.specs.Limits.{IsLimit}
use Rattle.lock_word.specs.BarredBags.{IsLegalBarredBag}
use Rattle.lock_word.specs.Holders.{all_of}
use Rattle.lock_word.specs.Word.{word_of}
use Rattle.lock_one.specs.Machine.{core_of}
use Rattle.lock_one.specs.Rule.{holds_of}
use Rattle.lock_one.specs.Stored.{word_of_stored}
use Rattle.lock_one_word.specs.Seats.{Table, stored_in, parties_in}

-- the word without the bit of sleepers encodes what all parties hold, which is compatible, with at most one bar
pub record IsLegalState (limit : ℕ) (s : Table) : Type 0 where
  pub range : IsLimit limit
  pub coded : core_of (word_of_stored (stored_in s)) ≡ word_of (all_of (holds_of (parties_in s.views)))
  pub legal : IsLegalBarredBag limit (all_of (holds_of (parties_in s.views)))

-- of every state that a table under this rule has between two steps
abbrev pub EveryStateIsLegal : (ℕ → Table → Type 0) → Type 0
EveryStateIsLegal holds = (limit : ℕ) (s : Table) → holds limit s → IsLegalState limit s
