-- Mutual exclusion.
use Rattle.std.specs.Prelude.{◌≡◌, ℕ, true, false, Some, Ok, IsTrue, IsErr, IfOk, IsNone}
use Rattle.lock_modes.specs.declared.mode.Mode.TheVariants.{Exclusive}
use Rattle.lock_modes.specs.declared.kind.Kind.TheVariants.{Mutex}
use Rattle.lock_machine.specs.declared.call.Want.{Want}
use Rattle.lock_modes.specs.Kind.{is_reentrant}
use Rattle.lock_machine.specs.Entries.{Entry, find}
use Rattle.lock_machine.specs.Register.{Register}
use Rattle.lock_machine.specs.Machine.{Machine}
use Rattle.lock_machine.specs.Refusals.{mode_of}
use Rattle.lock_machine.specs.Calls.{blocking_answer, acquire, resume}
use Rattle.lock_machine.specs.Sound.{IsSound}

-- the guard is held
pub record IsHeld (r : Register) (guard : ℕ) : Type 0 where
  pub entry : Entry
  pub found : find guard r.entries ≡ Some entry
  pub held : IsTrue entry.held

-- no acquisition is admitted, and no parked guard is resumed
pub record AdmitsNobody {T : Type 0} (m : Machine T) : Type 0 where
  pub none_given : (want : Want) (party : ℕ) → IfOk (acquire m want party).answer (λ found. IsNone found)
  pub blocking_refused : (want : Want) (party : ℕ) → IsErr (blocking_answer (acquire m want party).answer)
  pub none_resumed : (party guard : ℕ) → IsErr (resume m party guard).answer

-- while an exclusive guard is held, no party is admitted
abbrev pub ExclusiveGuardsExclude : Type 0 → Type 0
ExclusiveGuardsExclude T =
    (m : Machine T) (guard : ℕ) (holder : IsHeld m.register guard) → is_reentrant m.kind ≡ false
    → holder.entry.mode ≡ Exclusive → AdmitsNobody m

-- and every held guard of a mutex is exclusive
abbrev pub MutexGuardsExclude : Type 0 → Type 0
MutexGuardsExclude T =
    (m : Machine T) (guard : ℕ) → IsSound m.register → m.kind ≡ Mutex → IsHeld m.register guard → AdmitsNobody m

-- a new guard has the number that was answered, and is held in the mode that was acquired
abbrev pub NewGuardsAreHeld : Type 0 → Type 0
NewGuardsAreHeld T =
    (m : Machine T) (want : Want) (party number : ℕ) → IsSound m.register
    → (acquire m want party).answer ≡ Ok (Some number)
    → find number (acquire m want party).machine.entries
    ≡ Some (record { party = party; mode = mode_of want; held = true })
