-- What each kind of step tells the call that makes it.
use Rattle.std.specs.Prelude.{◌≡◌, ℕ, ◌+◌, ◌-◌, ◌≤◌, Bool, true, false, IsTrue}
use Rattle.atomic_table.specs.Table.{Me, Step}
use Rattle.lock_events.specs.declared.act.Begun.{Begun}
use Rattle.lock_events.specs.declared.action.EventAction.{EventAction}
use Rattle.lock_events.specs.declared.action.EventAction.TheVariants as action
use Rattle.lock_events.specs.declared.call.EventCall.{EventCall}
use Rattle.lock_events.specs.declared.stage.EventStage.{EventStage}
use Rattle.lock_events.specs.declared.stage.EventStage.TheVariants.{CountIn, Unlock, UnlockAway, Lock, EndEpoch, EndAllEpochs, Wake, Notified, Skipped}
use Rattle.lock_events.specs.Words.{decoded, one_wait}
use Rattle.lock_events.specs.Events.{waiting, notifying, most_lost, action_of, event_next, event_to, wait_at, notify_at, is_notified}
use Rattle.lock_events.specs.Kept.{is_registered}
use Rattle.lock_events.specs.Runs.{begun_call}

-- a call, and the slots that its seat holds: none
abbrev pub Self : Type 0
Self = Me (Unit {0}) Begun

-- the load with which a call begins
abbrev pub BeginsToWait : ℕ → Self → Type 0
BeginsToWait found after = after.0 ≡ begun_call (wait_at found waiting)

abbrev pub BeginsToNotify : Bool → ℕ → Self → Type 0
BeginsToNotify all found after = after.0 ≡ begun_call (notify_at found (notifying all))

-- the step is the action that the call asks for, and the call goes on by its answer
abbrev pub Makes : EventAction → Self → ℕ → Self → Type 0
Makes made me found after = (action_of me.0.call ≡ made) × (after.0.call ≡ event_next found me.0.call)

abbrev pub Exchanges : Step (Unit {0}) → Self → ℕ → Self → Type 0
Exchanges s me found after = Makes (action.Exchange s.first s.second) me found after

abbrev pub SetsBits : Step (Unit {0}) → Self → ℕ → Self → Type 0
SetsBits s me found after = Makes (action.Or s.first) me found after

-- the subtraction that ends a registered wait, which has slept
abbrev pub Leaves : Step (Unit {0}) → Self → Self → Type 0
Leaves s me after = (s.first ≡ one_wait) × IsTrue (is_registered me.0.call.stage) × (after.0.call ≡ event_to Lock me.0.call)

-- a load after the wake-up
abbrev pub Wakes : Self → Self → Type 0
Wakes me after = (me.0.call.stage ≡ Wake) × (after.0.call ≡ event_to Notified me.0.call)

-- the stages of a wait that has yet to release its lock
abbrev pub is_arriving : EventStage → Bool
is_arriving CountIn = true
is_arriving Unlock = true
is_arriving UnlockAway = true
is_arriving other = false

-- it has registered, or has found no room
abbrev pub has_arrived : EventStage → Bool
has_arrived Unlock = true
has_arrived UnlockAway = true
has_arrived other = false

-- the stages of a notification that has looked at the word
abbrev pub is_notifying : EventStage → Bool
is_notifying EndEpoch = true
is_notifying EndAllEpochs = true
is_notifying Wake = true
is_notifying Skipped = true
is_notifying other = false

-- a notification of all or of one that has yet to wake
pub record NotifiesAs (all : Bool) (call : EventCall) : Type 0 where
  pub stage : is_notifying call.stage ≡ true
  pub wide : all ≡ true → call.all ≡ true
  pub none : call.stage ≡ Skipped → all ≡ true → (decoded call.loaded).count ≡ 0
  pub few : call.lost ≤ most_lost

-- a notification of all or of one that has ended: it found so many waits
pub record IsOver (all : Bool) (waits : ℕ) (call : EventCall) : Type 0 where
  pub ended : is_notified call.stage ≡ true
  pub found : waits ≡ (decoded call.loaded).count
  pub wide : all ≡ true → call.all ≡ true
  pub none : call.stage ≡ Skipped → all ≡ true → waits ≡ 0

-- how many exchanges the notification may still lose, and one more
abbrev pub left_at : EventStage → ℕ → ℕ
left_at EndEpoch lost = most_lost + 1 - lost
left_at other lost = 0

abbrev pub lost_left : EventCall → ℕ
lost_left call = left_at call.stage call.lost
