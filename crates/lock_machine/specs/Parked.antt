-- Parked guards hold nothing.
use Rattle.std.specs.Prelude.{◌≡◌, ℕ, if◌then◌else◌, List, [], ◌∷◌}
use Rattle.lock_modes.specs.declared.mode.Mode.{Mode}
use Rattle.lock_machine.specs.Entries.{Entry}
use Rattle.lock_machine.specs.Register.{admits_party, is_full_count}
use Rattle.lock_machine.specs.Machine.{Machine}
use Rattle.lock_machine.specs.Calls.{with_register, upgrade, is_locked, is_locked_exclusive, is_owned_by}
use Rattle.lock_machine.specs.Exclusion.{IsHeld}

-- the held entries, with their numbers
abbrev pub held_part : List (ℕ × Entry) → List (ℕ × Entry)
held_part [] = []
held_part (e ∷ es) = if e.1.held then e ∷ held_part es else held_part es

-- the machine without its parked guards
abbrev pub without_parked : {T : Type 0} → Machine T → Machine T
without_parked m = with_register m (record m.register { entries = held_part m.entries })

-- without its parked guards the machine admits the same parties, and answers the same questions
pub record CountsNoneParked {T : Type 0} (m : Machine T) : Type 0 where
  pub admission : (party : ℕ) (mode : Mode)
      → admits_party (without_parked m).register party mode ≡ admits_party m.register party mode
  pub full : (party : ℕ) → is_full_count (without_parked m).register party ≡ is_full_count m.register party
  pub locked : is_locked (without_parked m) ≡ is_locked m
  pub exclusive : (is_locked_exclusive (without_parked m)).answer ≡ (is_locked_exclusive m).answer
  pub owned : (party : ℕ) → (is_owned_by (without_parked m) party).answer ≡ (is_owned_by m party).answer
  pub upgraded : (party guard : ℕ) → IsHeld m.register guard
      → (upgrade (without_parked m) party guard).answer ≡ (upgrade m party guard).answer

abbrev pub ParkedGuardsHoldNothing : Type 0 → Type 0
ParkedGuardsHoldNothing T = (m : Machine T) → CountsNoneParked m
