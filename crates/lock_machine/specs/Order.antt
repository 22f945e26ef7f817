-- The order of refusals.
use Rattle.std.specs.Prelude.{◌≡◌, ℕ, Bool, true, false, not, Some, None, IsTrue}
use Rattle.lock_modes.specs.declared.kind.Kind.{Kind}
use Rattle.lock_machine.specs.declared.call.Call.{Call}
use Rattle.lock_machine.specs.declared.call.Form.{Form}
use Rattle.lock_machine.specs.declared.call.Want.TheVariants.{Lock, Read, Write, UpgradableRead}
use Rattle.lock_modes.specs.declared.party.PartyId.{PartyId}
use Rattle.lock_machine.specs.declared.reply.Reply.{Reply}
use Rattle.lock_modes.specs.declared.fault.Fault.{Fault}
use Rattle.lock_machine.specs.Operation.{Operation}
use Rattle.lock_modes.specs.Party.{id_of}
use Rattle.lock_modes.specs.Kind.{is_reentrant, is_rwlock}
use Rattle.lock_machine.specs.Entries.{Entry, find}
use Rattle.lock_machine.specs.Register.{Register}
use Rattle.lock_machine.specs.Machine.{Machine}
use Rattle.lock_machine.specs.Refusals.{Demand, guard_refusal, upgradable_guard}
use Rattle.lock_machine.specs.Steps.{step}

-- the calls that a kind of machine has
abbrev pub has_call : {O : Type 0} → Kind → Call O → Bool
has_call kind (Call.Acquire Lock _ party) = not (is_rwlock kind)
has_call kind (Call.Acquire Read _ party) = is_rwlock kind
has_call kind (Call.Acquire Write _ party) = is_rwlock kind
has_call kind (Call.Acquire UpgradableRead _ party) = is_rwlock kind
has_call kind (Call.Upgrade _ party guard) = is_rwlock kind
has_call kind (Call.Downgrade party guard) = is_rwlock kind
has_call kind (Call.DowngradeToUpgradable party guard) = is_rwlock kind
has_call kind (Call.WithUpgraded _ party guard op) = is_rwlock kind
has_call kind (Call.Change party guard op) = not (is_reentrant kind)
has_call kind Call.IsLockedExclusive = is_rwlock kind
has_call kind (Call.IsOwnedBy party) = is_reentrant kind
has_call kind (Call.Announce party) = is_rwlock kind
has_call kind (Call.Withdraw party) = is_rwlock kind
has_call kind Call.IsBarred = is_rwlock kind
has_call kind _ = true

module _ {O T A : Type 0} (meaning : O → Operation T A) where
  -- a call that the kind does not have is refused for that, before all else
  abbrev pub WrongKindsComeFirst : Type 0
  WrongKindsComeFirst =
      (m : Machine T) (call : Call O) → has_call m.kind call ≡ false
      → (step meaning m call).reply ≡ Reply.Refused Fault.WrongKind

  -- an operation that does not fit is refused, also where the upgrade is not admitted
  abbrev pub UnfitComesBeforeWaiting : Type 0
  UnfitComesBeforeWaiting =
      (m : Machine T) (form : Form) (party : PartyId) (guard : ℕ) (op : O)
      → guard_refusal m.register upgradable_guard (id_of party) guard ≡ None → (meaning op).fits m.value ≡ false
      → (step meaning m (Call.WithUpgraded form party guard op)).reply ≡ Reply.Refused Fault.NoFocus

-- a level of another party is foreign, held or parked
abbrev pub StrangersAreForeign : Type 0
StrangersAreForeign =
    (r : Register) (demand : Demand) (party guard : ℕ) (e : Entry) → IsTrue (is_reentrant r.kind)
    → IsTrue (demand.on_kind r.kind) → find guard r.entries ≡ Some e → (e.party ≡ party → ⊥)
    → guard_refusal r demand party guard ≡ Some Fault.Foreign
