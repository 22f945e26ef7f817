-- The word of a bag with a bar: it admits what they permit, and each step on it is the same step on them.
use Rattle.std.proofs.Common.{◌≡◌, ℕ, ◌+◌, ◌%◌, ◌/◌, ◌^◌, ◌<◌, ◌≤◌, Bool, true, false, ◌&&◌, ◌||◌, ◌==◌, ◌⊎◌, inl, inr, IsTrue, refl, sym, ap, ◌∙◌, arith, eqb-true, ltb-true, lt-ltb, nat_lt, eq-zero-or-pos}
use Rattle.std.proofs.lemmas.Bool.{and_parts, and_from}
use Rattle.lock_modes.specs.declared.bag.Bag.{Bag}
use Rattle.lock_modes.specs.declared.mode.Mode.{Mode}
use Rattle.lock_modes.specs.declared.lock_step.LockStep.{LockStep}
use Rattle.lock_modes.specs.Modes.{readers, tokens, admits, AreCompatible}
use Rattle.lock_modes.specs.Bar.{passes_bar}
use Rattle.lock_word.specs.BarredBags.{BarredBag, is_barred, IsLegalBarredBag, bars_of, PermitsLockStep, barred_after}
use Rattle.lock_word.specs.declared.want.ExWant.{ExWant}
use Rattle.lock_word.specs.declared.down.Down.{Down}
use Rattle.lock_word.specs.Word.{word_of, readers_of_word, word_admits, word_after, amount, step_of_want, step_of_down, want_of_mode, barred_bag_of_word}
use Rattle.lock_word.specs.WordLaws.{ExchangesRefineSteps, SubtractionsRefineSteps, EncodingIsInjective}
use Rattle.lock_word.proofs.Holders.{Has, has_of_part}

-- an exclusive token is alone, or there is none
pub alone_or_none : (limit : ℕ) (b : Bag) → AreCompatible limit b → (b.exclusive ≡ 0) ⊎ (tokens b ≡ 1)
alone_or_none limit b l = elim (eq-zero-or-pos b.exclusive) [ inl z ↦ inl z | inr p ↦ inr (l.alone p) ]

-- the word as its parts
pub record HasParts (word : ℕ) (all : BarredBag) : Type 0 where
  pub low : readers_of_word word ≡ readers all.bag
  pub upgradable : (word / 2 ^ 32) % 2 ≡ all.bag.upgradable
  pub exclusive : (word / 2 ^ 33) % 2 ≡ all.bag.exclusive
  pub bars : word / 2 ^ 34 ≡ all.bars
  pub small : word ≤ 2 ^ 34 + 2 ^ 33 + 2 ^ 32

pub parts_of_word : (limit : ℕ) (all : BarredBag) → limit < 2 ^ 32 → IsLegalBarredBag limit all → HasParts (word_of all) all
parts_of_word x0 x1 x2 x3 = grind arith

-- the word of a legal state encodes that state
pub bag_of_word_of : (limit : ℕ) (all : BarredBag) → limit < 2 ^ 32 → IsLegalBarredBag limit all
    → barred_bag_of_word (word_of all) ≡ all
bag_of_word_of x0 x1 x2 x3 = grind arith

-- exchanges

pub both_below : (a b c d : ℕ) → (nat_lt a b && nat_lt c d) ≡ true → (a < b) × (c < d)
both_below a b c d h = let two = and_parts (nat_lt a b) (nat_lt c d) h in (ltb-true a b two.0, ltb-true c d two.1)

pub both_tests : (a b c d : ℕ) → a < b → c < d → (nat_lt a b && nat_lt c d) ≡ true
both_tests a b c d p q = and_from (nat_lt a b) (nat_lt c d) (lt-ltb a b p) (lt-ltb c d q)

pub either_test : (p q : Bool) → (p || q) ≡ true → (p ≡ true) ⊎ (q ≡ true)
either_test true q h = inl refl
either_test false q h = inr h

-- the word is one of two
pub one_of : (w a b : ℕ) → ((w == a) || (w == b)) ≡ true → (w ≡ a) ⊎ (w ≡ b)
one_of w a b h =
    elim (either_test (w == a) (w == b) h) [ inl e ↦ inl (eqb-true w a e) | inr e ↦ inr (eqb-true w b e) ]

pub is_one_of : (w a b : ℕ) → (w ≡ a) ⊎ (w ≡ b) → ((w == a) || (w == b)) ≡ true
is_one_of x0 x1 x2 x3 = grind arith

-- what the word admits is permitted
pub permits_of_word : (announced : Bool) (limit : ℕ) (all : BarredBag) (want : ExWant) → limit < 2 ^ 32 → IsLegalBarredBag limit all
    → bars_of announced ≤ all.bars → IsTrue (word_admits announced limit (word_of all) want)
    → PermitsLockStep announced limit all (step_of_want want)
permits_of_word x0 x1 x2 x3 x4 x5 x6 x7 = grind arith

-- and what is permitted, the word admits
pub word_of_permits : (announced : Bool) (limit : ℕ) (all : BarredBag) (want : ExWant) → limit < 2 ^ 32 → IsLegalBarredBag limit all
    → PermitsLockStep announced limit all (step_of_want want) → IsTrue (word_admits announced limit (word_of all) want)
word_of_permits x0 x1 x2 x3 x4 x5 x6 = grind arith

-- the word that the exchange puts encodes the state after the step
pub word_after_want : (announced : Bool) (limit : ℕ) (all : BarredBag) (want : ExWant) → IsLegalBarredBag limit all
    → PermitsLockStep announced limit all (step_of_want want)
    → word_after (word_of all) want ≡ word_of (barred_after announced all (step_of_want want))
word_after_want x0 x1 x2 x3 x4 x5 = grind arith

-- subtractions

-- a subtraction of what is held is always permitted
pub permits_down : (announced : Bool) (limit : ℕ) (all : BarredBag) (d : Down) → Has all (step_of_down d)
    → PermitsLockStep announced limit all (step_of_down d)
permits_down x0 x1 x2 x3 x4 = grind arith

-- the word encodes the state after the subtraction, plus the amount
pub word_before_down : (announced : Bool) (all : BarredBag) (d : Down) → Has all (step_of_down d)
    → word_of all ≡ word_of (barred_after announced all (step_of_down d)) + amount d
word_before_down x0 x1 x2 x3 = grind arith

-- a permitted step leaves a legal state
pub stands_after : (announced : Bool) (limit : ℕ) (all : BarredBag) (s : LockStep) → 0 < limit → IsLegalBarredBag limit all
    → PermitsLockStep announced limit all s → IsLegalBarredBag limit (barred_after announced all s)
stands_after x0 x1 x2 x3 x4 x5 x6 = grind arith

-- packed words

pub same_tests : (a b : Bool) → (IsTrue a → IsTrue b) → (IsTrue b → IsTrue a) → a ≡ b
same_tests true b f g = sym (f refl)
same_tests false true f g = g refl
same_tests false false f g = refl

-- the word admits a mode if the bar lets the party pass and the bag admits the mode
pub word_admits_mode : (announced : Bool) (limit : ℕ) (all : BarredBag) (m : Mode) → limit < 2 ^ 32 → IsLegalBarredBag limit all
    → word_admits announced limit (word_of all) (want_of_mode m) ≡ (passes_bar (is_barred all) announced m && admits limit all.bag m)
word_admits_mode x0 x1 x2 x3 x4 x5 = grind arith

-- laws

pub exchanges_refine_steps : ExchangesRefineSteps
exchanges_refine_steps announced limit all want range legal own =
    record {
      admits = (permits_of_word announced limit all want range.1 legal own, word_of_permits announced limit all want range.1 legal);
      puts = word_after_want announced limit all want legal;
    }

pub subtractions_refine_steps : SubtractionsRefineSteps
subtractions_refine_steps own all d part h =
    word_before_down own.announced all d (has_of_part own all (step_of_down d) part h)

pub encoding_is_injective : EncodingIsInjective
encoding_is_injective limit a b range la lb same =
    sym (bag_of_word_of limit a range.1 la) ∙ ap barred_bag_of_word same ∙ bag_of_word_of limit b range.1 lb
