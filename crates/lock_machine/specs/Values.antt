-- When the value changes.
use Rattle.std.specs.Prelude.{◌≡◌, ℕ, Bool, true, false, ◌==◌, List, [], ◌∷◌, Some, IsTrue}
use Rattle.lock_machine.specs.declared.call.Call.{Call}
use Rattle.lock_machine.specs.Operation.{Operation}
use Rattle.lock_modes.specs.Modes.{is_exclusive}
use Rattle.lock_machine.specs.Entries.{Entry, find}
use Rattle.lock_machine.specs.Machine.{Machine}
use Rattle.lock_machine.specs.Steps.{step, after_all}
use Rattle.lock_machine.specs.Sound.{IsSound}

-- the calls that write
abbrev pub is_write : {O : Type 0} → Call O → Bool
is_write (Call.Change party guard op) = true
is_write (Call.WithUpgraded _ party guard op) = true
is_write _ = false

-- the guard is held shared or upgradable
pub record IsReading {T : Type 0} (m : Machine T) (guard : ℕ) : Type 0 where
  pub entry : Entry
  pub found : find guard m.entries ≡ Some entry
  pub held : IsTrue entry.held
  pub reads : is_exclusive entry.mode ≡ false

-- the call is an operation of this guard under an upgrade
abbrev pub upgrades : {O : Type 0} → Call O → ℕ → Bool
upgrades (Call.WithUpgraded _ party raised op) guard = raised == guard
upgrades _ guard = false

module _ {O T A : Type 0} (meaning : O → Operation T A) where
  -- before and after each call the guard reads, and no call is its operation under an upgrade
  abbrev pub ReadsThroughout : Machine T → List (Call O) → ℕ → Type 0
  ReadsThroughout m [] guard = IsReading m guard
  ReadsThroughout m (call ∷ calls) guard =
      IsReading m guard × (upgrades call guard ≡ false) × ReadsThroughout (step meaning m call).machine calls guard

  -- only the calls that write change the value
  abbrev pub OnlyWritesChangeValue : Type 0
  OnlyWritesChangeValue =
      (m : Machine T) (call : Call O) → is_write call ≡ false → (step meaning m call).machine.value ≡ m.value

  -- while a guard is held shared or upgradable, and makes no operation under an upgrade, the value stays the same
  abbrev pub ReadersSeeOneValue : Type 0
  ReadersSeeOneValue =
      (m : Machine T) (calls : List (Call O)) (guard : ℕ) → IsSound m.register → ReadsThroughout m calls guard
      → (after_all meaning m calls).value ≡ m.value
