-- Parking and resuming.
use Rattle.std.specs.Prelude.{◌≡◌, ℕ, None, IsTrue}
use Rattle.lock_machine.specs.declared.call.Call.{Call}
use Rattle.lock_modes.specs.declared.party.PartyId.{PartyId}
use Rattle.lock_machine.specs.declared.reply.Reply.{Reply}
use Rattle.lock_machine.specs.Operation.{Operation}
use Rattle.lock_modes.specs.Party.{id_of}
use Rattle.lock_modes.specs.Kind.{is_reentrant}
use Rattle.lock_machine.specs.Machine.{Machine}
use Rattle.lock_machine.specs.Steps.{step}
use Rattle.lock_machine.specs.Sound.{IsSound}

-- only the party that parked a level of a reentrant machine resumes it; any party resumes a guard of another machine
abbrev pub MayResume : {T : Type 0} → Machine T → PartyId → PartyId → Type 0
MayResume m parker resumer = IsTrue (is_reentrant m.kind) → id_of resumer ≡ id_of parker

module _ {O T A : Type 0} (meaning : O → Operation T A) where
  -- without a bar, a guard that a party just parked is resumed by any party that may resume it, and only the count of
  -- spent tokens has changed
  abbrev pub ParkedIsResumed : (PartyId → ℕ → Call O) → Type 0
  ParkedIsResumed park =
      (m : Machine T) (parker resumer : PartyId) (guard : ℕ) → IsSound m.register → m.bar ≡ None
      → MayResume m parker resumer → (step meaning m (park parker guard)).reply ≡ Reply.Done
      → step meaning (step meaning m (park parker guard)).machine (Call.Resume resumer guard)
      ≡ record { reply = Reply.Done; machine = record m { spent = (step meaning m (park parker guard)).machine.spent } }
