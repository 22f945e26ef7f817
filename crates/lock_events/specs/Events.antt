-- The next step of a wait or a notification, by what it found.
use Rattle.std.specs.Prelude.{ℕ, ◌+◌, Bool, true, false, not, ◌==◌, ◌||◌, nat_lt, if◌then◌else◌}
use Rattle.lock_events.specs.declared.action.EventAction.{EventAction}
use Rattle.lock_events.specs.declared.action.EventAction.TheVariants as action
use Rattle.lock_events.specs.declared.call.EventCall.{EventCall}
use Rattle.lock_events.specs.declared.stage.EventStage.{EventStage}
use Rattle.lock_events.specs.declared.stage.EventStage.TheVariants.{Look, CountIn, Unlock, Sleep, Leave, UnlockAway, YieldAway, Lock, Waited, FindWaits, EndEpoch, EndAllEpochs, Wake, Notified, Skipped}
use Rattle.lock_events.specs.Words.{decoded, encoded, last_epoch, one_wait, takes_in, has_none, with_wait, in_next_epoch}

abbrev pub waiting : EventCall
waiting = record { stage = Look; all = false; late = false; lost = 0; loaded = 0; epoch = 0 }

abbrev pub notifying : Bool → EventCall
notifying all = record { stage = FindWaits; all = all; late = false; lost = 0; loaded = 0; epoch = 0 }

-- so many exchanges a notification may lose
abbrev pub most_lost : ℕ
most_lost = 1000

-- whether the word that the call found counts a wait
abbrev pub found_some : EventCall → Bool
found_some call = not ((decoded call.loaded).count == 0)

-- the action that a call asks for
abbrev pub action_at : EventStage → EventCall → EventAction
action_at Look call = action.Load
action_at CountIn call = action.Exchange call.loaded (encoded (with_wait (decoded call.loaded)))
action_at Unlock call = action.Unlock
action_at Sleep call = action.Park call.epoch
action_at Leave call = action.Subtract one_wait
action_at UnlockAway call = action.Unlock
action_at YieldAway call = action.Yield
action_at Lock call = action.Lock
action_at Waited call = action.End (not call.late)
action_at FindWaits call = action.Load
action_at EndEpoch call = action.Exchange call.loaded (encoded (in_next_epoch call.all (decoded call.loaded)))
action_at EndAllEpochs call = action.Or last_epoch
action_at Wake call = if call.all then action.WakeAll else action.WakeOne
action_at Notified call = action.End (found_some call)
action_at Skipped call = action.End (found_some call)

abbrev pub action_of : EventCall → EventAction
action_of call = action_at call.stage call

abbrev pub event_to : EventStage → EventCall → EventCall
event_to at call = record call { stage = at }

-- a wait registers by an exchange. If the count is full or the epoch the last, it does not register, and does not sleep
abbrev pub wait_at : ℕ → EventCall → EventCall
wait_at found call =
    if takes_in (decoded found) then event_to CountIn (record call { loaded = found; epoch = (with_wait (decoded found)).epoch })
    else event_to UnlockAway call

-- a notification ends the epoch by an exchange, and the call's epoch is the one after. The last epoch does not end
abbrev pub notify_at : ℕ → EventCall → EventCall
notify_at found call =
    if has_none call.all (decoded found) then event_to Skipped (record call { loaded = found })
    else if nat_lt (decoded found).epoch last_epoch then event_to EndEpoch (record call { loaded = found; epoch = (decoded found).epoch + 1 })
    else event_to Wake (record call { loaded = found; epoch = (decoded found).epoch })

-- the notification that begins the last epoch wakes all, so that all leave
abbrev pub ended_epoch : EventCall → EventCall
ended_epoch call = event_to Wake (record call { all = call.all || (call.epoch == last_epoch) })

-- a notification that has lost an exchange looks at the word that it found. After too many, it begins the last epoch at once
abbrev pub after_loss : ℕ → EventCall → EventCall
after_loss found call =
    if nat_lt call.lost most_lost then notify_at found (record call { lost = call.lost + 1 }) else event_to EndAllEpochs (record call { all = true; epoch = last_epoch })

-- the call after an answer
abbrev pub event_at : EventStage → ℕ → EventCall → EventCall
event_at Look found call = wait_at found call
event_at CountIn found call = if found == call.loaded then event_to Unlock call else wait_at found call
event_at Unlock found call = event_to Sleep call
event_at Sleep found call = event_to Leave (record call { late = not (found == 0) })
event_at Leave found call = event_to Lock call
event_at UnlockAway found call = event_to YieldAway call
event_at YieldAway found call = event_to Lock (record call { late = not (found == 0) })
event_at Lock found call = event_to Waited call
event_at Waited found call = event_to Waited call
event_at FindWaits found call = notify_at found call
event_at EndEpoch found call = if found == call.loaded then ended_epoch call else after_loss found call
event_at EndAllEpochs found call = event_to Wake call
event_at Wake found call = event_to Notified call
event_at Notified found call = event_to Notified call
event_at Skipped found call = event_to Skipped call

abbrev pub event_next : ℕ → EventCall → EventCall
event_next found call = event_at call.stage found call

-- a notification has ended
abbrev pub is_notified : EventStage → Bool
is_notified Notified = true
is_notified Skipped = true
is_notified other = false
