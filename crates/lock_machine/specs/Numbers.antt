-- Guard numbers.
use Rattle.std.specs.Prelude.{◌≡◌, ℕ, ◌<◌, ◌≤◌, List, [], ◌∷◌, ◌++◌, None}
use Rattle.lock_machine.specs.declared.call.Call.{Call}
use Rattle.lock_machine.specs.declared.reply.Reply.{Reply}
use Rattle.lock_machine.specs.Operation.{Operation}
use Rattle.lock_machine.specs.Entries.{find}
use Rattle.lock_machine.specs.Machine.{Machine}
use Rattle.lock_machine.specs.Calls.{skip_to}
use Rattle.lock_machine.specs.Steps.{step}
use Rattle.lock_machine.specs.Sound.{IsSound}

-- the number of the new guard, if the reply gives one
abbrev pub numbers_of : {A : Type 0} → Reply A → List ℕ
numbers_of (Reply.Guard number) = number ∷ []
numbers_of Reply.NoGuard = []
numbers_of Reply.Done = []
numbers_of (Reply.Answer answer) = []
numbers_of (Reply.Bool b) = []
numbers_of (Reply.Count n) = []
numbers_of (Reply.Refused fault) = []

-- the numbers rise, from above `low`
abbrev pub AreRising : ℕ → List ℕ → Type 0
AreRising low [] = Unit {0}
AreRising low (n ∷ ns) = (low < n) × AreRising n ns

module _ {O T A : Type 0} (meaning : O → Operation T A) where
  -- the numbers of the guards that a list of calls gives, in order
  abbrev pub issued_numbers : Machine T → List (Call O) → List ℕ
  issued_numbers m [] = []
  issued_numbers m (call ∷ calls) =
      numbers_of (step meaning m call).reply ++ issued_numbers (step meaning m call).machine calls

  -- a new guard's number is above every number issued before, so no number is used twice
  abbrev pub NumbersAreUsedOnce : Type 0
  NumbersAreUsedOnce = (m : Machine T) (calls : List (Call O)) → AreRising m.last (issued_numbers m calls)

  -- no guard has the number of a new one
  abbrev pub NewNumbersAreFree : Type 0
  NewNumbersAreFree =
      (m : Machine T) (call : Call O) (number : ℕ) → IsSound m.register
      → (step meaning m call).reply ≡ Reply.Guard number
      → find number m.entries ≡ None

-- skipping never goes back
abbrev pub SkipsGoForward : Type 0 → Type 0
SkipsGoForward T = (m : Machine T) (next : ℕ) → m.last ≤ (skip_to m next).machine.last
