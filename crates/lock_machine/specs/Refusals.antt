-- The refusals of a call, in their order. The first that applies is the answer.
use Rattle.std.specs.Prelude.{ℕ, ◌-◌, ◌^◌, Bool, true, false, not, ◌&&◌, ◌==◌, nat_le, if◌then◌else◌, List, [], ◌∷◌, length, Option, Some, None, is_some}
use Rattle.lock_modes.specs.declared.mode.Mode.{Mode}
use Rattle.lock_modes.specs.declared.mode.Mode.TheVariants.{Shared, Exclusive, Upgradable}
use Rattle.lock_modes.specs.declared.kind.Kind.{Kind}
use Rattle.lock_machine.specs.declared.call.Want.{Want}
use Rattle.lock_machine.specs.declared.call.Want.TheVariants.{Lock, Read, Write, UpgradableRead}
use Rattle.lock_modes.specs.declared.fault.Fault.{Fault}
use Rattle.lock_modes.specs.Modes.{is_shared, is_exclusive, is_upgradable}
use Rattle.lock_modes.specs.Kind.{is_reentrant, is_rwlock}
use Rattle.lock_modes.specs.Bar.{has_announced}
use Rattle.lock_machine.specs.Entries.{Entry, find}
use Rattle.lock_machine.specs.Register.{Register, is_full_count}

-- the first fault whose test is true
abbrev pub first_refusal : List (Bool × Fault) → Option Fault
first_refusal [] = None
first_refusal (c ∷ cs) = if c.0 then Some c.1 else first_refusal cs

-- whether this kind of machine has this acquisition
abbrev pub has_want : Kind → Want → Bool
has_want kind Lock = not (is_rwlock kind)
has_want kind Read = is_rwlock kind
has_want kind Write = is_rwlock kind
has_want kind UpgradableRead = is_rwlock kind

-- the mode that an acquisition acquires
abbrev pub mode_of : Want → Mode
mode_of Lock = Exclusive
mode_of Read = Shared
mode_of Write = Exclusive
mode_of UpgradableRead = Upgradable

-- what a call demands of the guard that it names
pub record Demand : Type 0 where
  -- the kinds of machine that have the call
  pub on_kind : Kind → Bool
  -- whether the guard must be held; otherwise it must be parked
  pub held : Bool
  -- the modes that allow the call
  pub in_mode : Mode → Bool

abbrev pub any_kind : Kind → Bool
any_kind kind = true

abbrev pub not_reentrant : Kind → Bool
not_reentrant kind = not (is_reentrant kind)

abbrev pub any_mode : Mode → Bool
any_mode mode = true

abbrev pub not_shared : Mode → Bool
not_shared mode = not (is_shared mode)

abbrev pub held_guard : Demand
held_guard = record { on_kind = any_kind; held = true; in_mode = any_mode }

abbrev pub parked_guard : Demand
parked_guard = record { on_kind = any_kind; held = false; in_mode = any_mode }

-- a guard that may change the value
abbrev pub writing_guard : Demand
writing_guard = record { on_kind = not_reentrant; held = true; in_mode = is_exclusive }

abbrev pub upgradable_guard : Demand
upgradable_guard = record { on_kind = is_rwlock; held = true; in_mode = is_upgradable }

-- a guard that may become shared
abbrev pub unshared_guard : Demand
unshared_guard = record { on_kind = is_rwlock; held = true; in_mode = not_shared }

abbrev pub exclusive_guard : Demand
exclusive_guard = record { on_kind = is_rwlock; held = true; in_mode = is_exclusive }

-- the refusal of a call on an entry
abbrev pub entry_refusal : Kind → Demand → ℕ → Entry → Option Fault
entry_refusal kind demand party e = first_refusal (
    (is_reentrant kind && not (e.party == party), Fault.Foreign)
    ∷ (demand.held && not e.held, Fault.Parked)
    ∷ (not demand.held && e.held, Fault.NotParked)
    ∷ (not (demand.in_mode e.mode), Fault.WrongMode)
    ∷ [])

abbrev pub found_refusal : Kind → Demand → ℕ → Option Entry → Option Fault
found_refusal kind demand party None = Some Fault.UnknownGuard
found_refusal kind demand party (Some e) = entry_refusal kind demand party e

-- the refusal of an acquisition
abbrev pub acquisition_refusal : Register → Want → ℕ → Option Fault
acquisition_refusal r want party = first_refusal (
    (not (has_want r.kind want), Fault.WrongKind)
    ∷ (length r.entries == r.places, Fault.NoPlace)
    ∷ (r.last == 2 ^ 64 - 1, Fault.NumbersSpent)
    ∷ (is_full_count r party, Fault.FullCount)
    ∷ [])

-- the refusal of an announcement
abbrev pub announcement_refusal : Register → Option Fault
announcement_refusal r = first_refusal (
    (not (is_rwlock r.kind), Fault.WrongKind)
    ∷ (is_some r.bar, Fault.Barred)
    ∷ [])

-- the refusal of a withdrawal
abbrev pub withdrawal_refusal : Register → ℕ → Option Fault
withdrawal_refusal r party = first_refusal (
    (not (is_rwlock r.kind), Fault.WrongKind)
    ∷ (not (has_announced r.bar party), Fault.NotAnnounced)
    ∷ [])

-- the refusal of a call on a guard
abbrev pub guard_refusal : Register → Demand → ℕ → ℕ → Option Fault
guard_refusal r demand party guard =
    if demand.on_kind r.kind then found_refusal r.kind demand party (find guard r.entries) else Some Fault.WrongKind

-- the refusal of skipping to the number `next`
abbrev pub skip_refusal : Register → ℕ → Option Fault
skip_refusal r next = first_refusal (
    (not (length r.entries == 0), Fault.GuardsOut)
    ∷ (nat_le next r.last, Fault.BadLimits)
    ∷ [])
