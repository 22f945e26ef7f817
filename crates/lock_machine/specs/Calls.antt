-- What each call of the machine answers, and the machine after it. A call that is not admitted answers `None`.
use Rattle.std.specs.Prelude.{ℕ, ◌+◌, ◌-◌, Bool, not, ◌==◌, if◌then◌else◌, Option, Some, None, is_some, Result, Ok, Err}
use Rattle.lock_modes.specs.declared.mode.Mode.{Mode}
use Rattle.lock_modes.specs.declared.mode.Mode.TheVariants.{Shared, Exclusive, Upgradable}
use Rattle.lock_machine.specs.declared.call.Want.{Want}
use Rattle.lock_modes.specs.declared.fault.Fault.{Fault}
use Rattle.lock_modes.specs.declared.fault.Fault.TheVariants.{WouldWait, UnknownGuard, WrongKind, FullCount, NoFocus}
use Rattle.lock_machine.specs.Operation.{Operation}
use Rattle.lock_modes.specs.Modes.{may_become}
use Rattle.lock_modes.specs.Kind.{is_reentrant, is_rwlock}
use Rattle.lock_machine.specs.Entries.{Entry, find, parked_entry, resumed_entry, in_mode, held_bag, held_count}
use Rattle.lock_machine.specs.Register.{Register, admits_party, owns, is_full_count, bumps_token, with_guard, without_guard, with_change, with_bar, after_admission}
use Rattle.lock_machine.specs.Machine.{Machine, after_release, one_spent_more}
use Rattle.lock_machine.specs.Refusals.{Demand, mode_of, acquisition_refusal, announcement_refusal, withdrawal_refusal, guard_refusal, skip_refusal, held_guard, parked_guard, writing_guard, upgradable_guard, unshared_guard, exclusive_guard}

-- the answer of a call, and the machine after it
pub record CallEffect (R T : Type 0) : Type 0 where
  pub answer : Result R Fault
  pub machine : Machine T

-- the answer of the blocking form, which refuses where the try answers `None`
abbrev pub blocking_answer : {R : Type 0} → Result (Option R) Fault → Result R Fault
blocking_answer (Ok (Some answer)) = Ok answer
blocking_answer (Ok None) = Err WouldWait
blocking_answer (Err fault) = Err fault

module _ {R T : Type 0} where
  abbrev pub refuse : Machine T → Fault → CallEffect R T
  refuse m fault = record { answer = Err fault; machine = m }

  abbrev pub give : R → Machine T → CallEffect R T
  give answer m = record { answer = Ok answer; machine = m }

  -- this effect, unless the call is refused
  abbrev pub unless : Option Fault → Machine T → CallEffect R T → CallEffect R T
  unless None m turn = turn
  unless (Some fault) m turn = refuse m fault

  abbrev pub at_entry : Option Entry → Machine T → (Entry → CallEffect R T) → CallEffect R T
  at_entry None m act = refuse m UnknownGuard
  at_entry (Some e) m act = act e

  -- the effect of a call on the entry of a guard, unless it is refused
  abbrev pub on_guard : Machine T → Demand → ℕ → ℕ → (Entry → CallEffect R T) → CallEffect R T
  on_guard m demand party guard act =
      unless (guard_refusal m.register demand party guard) m (at_entry (find guard m.entries) m act)

module _ {T : Type 0} where
  -- the machine with another register
  abbrev pub with_register : Machine T → Register → Machine T
  with_register m r = record m { register = r }

  abbrev pub acquire : Machine T → Want → ℕ → CallEffect (Option ℕ) T
  acquire m want party =
      unless (acquisition_refusal m.register want party) m
      (if admits_party m.register party (mode_of want)
      then give (Some (m.last + 1))
      (with_register m (after_admission (with_guard m.register party (mode_of want)) (mode_of want)))
      else give None m)

  -- removes a held guard
  abbrev pub unlock : Machine T → ℕ → ℕ → CallEffect (Unit {0}) T
  unlock m party guard = on_guard m held_guard party guard (λ e.
      give tt (after_release m (without_guard m.register guard)))

  -- parks a held guard
  abbrev pub park : Machine T → ℕ → ℕ → CallEffect (Unit {0}) T
  park m party guard = on_guard m held_guard party guard (λ e.
      give tt (after_release m (with_change m.register guard parked_entry)))

  -- holds a parked guard again, if it is admitted
  abbrev pub resume : Machine T → ℕ → ℕ → CallEffect (Unit {0}) T
  resume m party guard = on_guard m parked_guard party guard (λ e.
      if is_full_count m.register party then refuse m FullCount
      else (if admits_party m.register party e.mode
      then give tt (with_register m (after_admission (with_change m.register guard resumed_entry) e.mode))
      else refuse m WouldWait))

  -- removes a parked guard
  abbrev pub abandon : Machine T → ℕ → ℕ → CallEffect (Unit {0}) T
  abandon m party guard = on_guard m parked_guard party guard (λ e.
      give tt (with_register m (without_guard m.register guard)))

  -- releases a token and acquires it again; the guards stay as they are
  abbrev pub bump : Machine T → ℕ → ℕ → CallEffect (Unit {0}) T
  bump m party guard = on_guard m held_guard party guard (λ e.
      give tt (record m { spent = if bumps_token m.register then one_spent_more m.spent else m.spent }))

  -- the machine with the guard in another mode
  abbrev pub with_mode : Machine T → ℕ → Mode → Machine T
  with_mode m guard mode = with_register m (with_change m.register guard (in_mode mode))

  -- makes the upgradable guard exclusive, if it is the only one held
  abbrev pub upgrade : Machine T → ℕ → ℕ → CallEffect (Option (Unit {0})) T
  upgrade m party guard = on_guard m upgradable_guard party guard (λ e.
      if may_become (held_bag m.entries) Exclusive
      then give (Some tt) (with_mode m guard Exclusive)
      else give None m)

  -- makes the exclusive or upgradable guard shared
  abbrev pub downgrade : Machine T → ℕ → ℕ → CallEffect (Unit {0}) T
  downgrade m party guard = on_guard m unshared_guard party guard (λ e. give tt (with_mode m guard Shared))

  -- makes the exclusive guard upgradable
  abbrev pub downgrade_to_upgradable : Machine T → ℕ → ℕ → CallEffect (Unit {0}) T
  downgrade_to_upgradable m party guard = on_guard m exclusive_guard party guard (λ e.
      give tt (with_mode m guard Upgradable))

  -- whether a guard is held
  abbrev pub is_locked : Machine T → Bool
  is_locked m = not (held_count m.entries == 0)

  -- whether an exclusive guard is held
  abbrev pub is_locked_exclusive : Machine T → CallEffect Bool T
  is_locked_exclusive m =
      if is_rwlock m.kind then give (not ((held_bag m.entries).exclusive == 0)) m else refuse m WrongKind

  abbrev pub is_owned_by : Machine T → ℕ → CallEffect Bool T
  is_owned_by m party = if is_reentrant m.kind then give (owns m.register party) m else refuse m WrongKind

  -- sets the bar for the party
  abbrev pub announce : Machine T → ℕ → CallEffect (Unit {0}) T
  announce m party = unless (announcement_refusal m.register) m
      (give tt (with_register m (with_bar m.register (Some party))))

  -- clears the party's bar
  abbrev pub withdraw : Machine T → ℕ → CallEffect (Unit {0}) T
  withdraw m party = unless (withdrawal_refusal m.register party) m
      (give tt (with_register m (with_bar m.register None)))

  -- whether the bar is set
  abbrev pub is_barred : Machine T → CallEffect Bool T
  is_barred m = if is_rwlock m.kind then give (is_some m.bar) m else refuse m WrongKind

  -- issues this number next
  abbrev pub skip_to : Machine T → ℕ → CallEffect (Unit {0}) T
  skip_to m next = unless (skip_refusal m.register next) m
      (give tt (with_register m (record m.register { last = next - 1 })))

module _ {T A : Type 0} where
  -- reads by the operation
  abbrev pub ask : Machine T → ℕ → ℕ → Operation T A → CallEffect A T
  ask m party guard op = on_guard m held_guard party guard (λ e.
      if op.fits m.value then give (op.read_answer m.value) m else refuse m NoFocus)

  -- the machine after the operation changed its value
  abbrev pub after_operation : Machine T → Operation T A → Machine T
  after_operation m op = record m { value = op.after m.value }

  -- changes the value by the operation
  abbrev pub change : Machine T → ℕ → ℕ → Operation T A → CallEffect A T
  change m party guard op = on_guard m writing_guard party guard (λ e.
      if op.fits m.value then give (op.change_answer m.value) (after_operation m op) else refuse m NoFocus)

  -- changes the value under an upgrade, if the upgradable guard is the only one held; the guard is upgradable again
  -- after
  abbrev pub with_upgraded : Machine T → ℕ → ℕ → Operation T A → CallEffect (Option A) T
  with_upgraded m party guard op = on_guard m upgradable_guard party guard (λ e.
      if op.fits m.value
      then (if may_become (held_bag m.entries) Exclusive
      then give (Some (op.change_answer m.value)) (after_operation m op)
      else give None m)
      else refuse m NoFocus)
