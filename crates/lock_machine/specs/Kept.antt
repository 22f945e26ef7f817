-- What refused calls leave unchanged.
use Rattle.std.specs.Prelude.{◌≡◌, ℕ, Bool, true, false, IsTrue}
use Rattle.lock_machine.specs.declared.call.Form.{Form}
use Rattle.lock_machine.specs.declared.call.Call.{Call}
use Rattle.lock_modes.specs.declared.party.PartyId.{PartyId}
use Rattle.lock_machine.specs.declared.reply.Reply.{Reply}
use Rattle.lock_machine.specs.Operation.{Operation}
use Rattle.lock_machine.specs.Entries.{find}
use Rattle.lock_machine.specs.Machine.{Machine}
use Rattle.lock_machine.specs.Steps.{Response, step}

-- the reply of a call that was refused or not admitted
abbrev pub is_refusal : {A : Type 0} → Reply A → Bool
is_refusal (Reply.Guard number) = false
is_refusal Reply.NoGuard = true
is_refusal Reply.Done = false
is_refusal (Reply.Answer answer) = false
is_refusal (Reply.Bool b) = false
is_refusal (Reply.Count n) = false
is_refusal (Reply.Refused fault) = true

-- the guard and the value stay as they were
pub record KeepsGuard {T : Type 0} (old new : Machine T) (guard : ℕ) : Type 0 where
  pub same_guard : find guard new.entries ≡ find guard old.entries
  pub same_value : new.value ≡ old.value

abbrev pub KeepsGuardIfRefused : {A T : Type 0} → Machine T → ℕ → Response A T → Type 0
KeepsGuardIfRefused m guard response = IsTrue (is_refusal response.reply) → KeepsGuard m response.machine guard

module _ {O T A : Type 0} (meaning : O → Operation T A) where
  -- a call that is refused or not admitted leaves the machine unchanged
  abbrev pub RefusalsKeepMachine : Type 0
  RefusalsKeepMachine =
      (m : Machine T) (call : Call O) → IsTrue (is_refusal (step meaning m call).reply)
      → (step meaning m call).machine ≡ m

  -- an upgrade that is not admitted leaves its guard and the value unchanged, also one for a single operation
  abbrev pub RefusedUpgradesKeepGuard : Type 0
  RefusedUpgradesKeepGuard =
      (m : Machine T) (form : Form) (party : PartyId) (guard : ℕ) (op : O)
      → KeepsGuardIfRefused m guard (step meaning m (Call.Upgrade form party guard))
      × KeepsGuardIfRefused m guard (step meaning m (Call.WithUpgraded form party guard op))
