-- The turn of a party on the machine of a lock: the call that it makes, the reply, and what the party does by it.
use Rattle.std.specs.Prelude.{◌≡◌, ℕ, Bool, true, false, ◌&&◌, if◌then◌else◌, List, Some}
use Rattle.lock_modes.specs.declared.mode.Mode.{Mode}
use Rattle.lock_modes.specs.declared.mode.Mode.TheVariants.{Shared, Exclusive, Upgradable}
use Rattle.lock_modes.specs.declared.mode_step.ModeStep.TheVariants.{Acquire, Release, Change}
use Rattle.lock_modes.specs.declared.kind.Kind.{Kind}
use Rattle.lock_machine.specs.declared.call.Call.{Call}
use Rattle.lock_machine.specs.declared.call.Form.{Form}
use Rattle.lock_machine.specs.declared.call.Form.TheVariants.{Block, Try}
use Rattle.lock_machine.specs.declared.call.Way.TheVariants.{Plain}
use Rattle.lock_machine.specs.declared.call.Want.{Want}
use Rattle.lock_machine.specs.declared.call.Want.TheVariants.{Lock, Read, Write, UpgradableRead}
use Rattle.lock_modes.specs.declared.party.PartyId.{PartyId}
use Rattle.lock_machine.specs.declared.reply.Reply.{Reply}
use Rattle.lock_modes.specs.declared.fault.Fault.{Fault}
use Rattle.lock_modes.specs.declared.lock_step.LockStep.{LockStep}
use Rattle.lock_modes.specs.declared.lock_step.LockStep.TheVariants as lock_step
use Rattle.lock_machine.specs.Operation.{Operation}
use Rattle.lock_modes.specs.Kind.{is_rwlock}
use Rattle.lock_machine.specs.Entries.{Entry, find}
use Rattle.lock_machine.specs.Machine.{Machine}
use Rattle.lock_machine.specs.Steps.{Response, step}
use Rattle.lock_plan.specs.declared.lock.PlanLock.{PlanLock}
use Rattle.lock_plan.specs.declared.turn.Turn.{Turn}
use Rattle.lock_plan.specs.declared.turn.Turn.TheVariants.{Goes, Announces, Waits, Refused}
use Rattle.lock_plan.specs.Holds.{is_write}

-- the call of the machine that a call of a plan is, in this form and on this guard

abbrev pub want_for : Kind → Mode → Want
want_for kind Shared = Read
want_for kind Exclusive = if is_rwlock kind then Write else Lock
want_for kind Upgradable = UpgradableRead

abbrev pub change_for : {O : Type 0} → Form → PartyId → ℕ → Mode → Call O
change_for how party guard Shared = Call.Downgrade party guard
change_for how party guard Exclusive = Call.Upgrade how party guard
change_for how party guard Upgradable = Call.DowngradeToUpgradable party guard

abbrev pub call_for : {O : Type 0} → Form → Kind → PartyId → ℕ → LockStep → Call O
call_for how kind party guard (lock_step.Modes (Acquire mode)) = Call.Acquire (want_for kind mode) how party
call_for how kind party guard (lock_step.Modes (Release mode)) = Call.Unlock party guard Plain
call_for how kind party guard (lock_step.Modes (Change from to)) = change_for how party guard to
call_for how kind party guard lock_step.Announce = Call.Announce party
call_for how kind party guard lock_step.Withdraw = Call.Withdraw party

-- the guard is the party's, and is held in the mode that the call releases or changes
abbrev pub Names : List (ℕ × Entry) → ℕ → ℕ → LockStep → Type 0
Names entries party guard (lock_step.Modes (Acquire mode)) = Unit {0}
Names entries party guard (lock_step.Modes (Release mode)) =
    find guard entries ≡ Some (record { party = party; mode = mode; held = true })
Names entries party guard (lock_step.Modes (Change from to)) =
    find guard entries ≡ Some (record { party = party; mode = from; held = true })
Names entries party guard lock_step.Announce = Unit {0}
Names entries party guard lock_step.Withdraw = Unit {0}

-- what a reply says: the party waits where the machine would block it
abbrev pub turn_of_fault : Fault → Turn
turn_of_fault Fault.WouldWait = Waits
turn_of_fault _ = Refused

abbrev pub turn_of_reply : {A : Type 0} → Reply A → Turn
turn_of_reply (Reply.Refused fault) = turn_of_fault fault
turn_of_reply _ = Goes

-- whether the machine made the call that was tried
abbrev pub is_made : {A : Type 0} → Reply A → Bool
is_made (Reply.Refused fault) = false
is_made Reply.NoGuard = false
is_made _ = true

-- the turn of a waiting party after its announcement: where that is refused, it waits
abbrev pub announced_turn : Turn → Turn
announced_turn Goes = Announces
announced_turn Announces = Waits
announced_turn Waits = Waits
announced_turn Refused = Waits

-- whether a party announces itself after this turn
abbrev pub announces_after : PlanLock → LockStep → Turn → Bool
announces_after lock asked Goes = false
announces_after lock asked Announces = false
announces_after lock asked Waits = lock.bar && is_write asked
announces_after lock asked Refused = false

-- a turn, and the machine after it
pub record MachineTurn (T : Type 0) : Type 0 where
  pub turn : Turn
  pub machine : Machine T

-- party `p` calls under the id `ids p`
module _ {O T A : Type 0} (meaning : O → Operation T A) (ids : ℕ → PartyId) where
  abbrev pub after_reply : PlanLock → ℕ → LockStep → Response A T → MachineTurn T
  after_reply lock party asked r =
      if announces_after lock asked (turn_of_reply r.reply)
      then (let a = step meaning r.machine (Call.Announce (ids party)) in
      record { turn = announced_turn (turn_of_reply a.reply); machine = a.machine })
      else record { turn = turn_of_reply r.reply; machine = r.machine }

  -- the turn of a party that makes this call on its machine, on this guard: a write that waits may announce the party
  abbrev pub machine_turn : PlanLock → Machine T → ℕ → ℕ → LockStep → MachineTurn T
  machine_turn lock m party guard asked =
      after_reply lock party asked (step meaning m (call_for Block lock.kind (ids party) guard asked))

  -- what the machine answers where the party tries this call
  abbrev pub machine_try : PlanLock → Machine T → ℕ → ℕ → LockStep → Response A T
  machine_try lock m party guard asked = step meaning m (call_for Try lock.kind (ids party) guard asked)
