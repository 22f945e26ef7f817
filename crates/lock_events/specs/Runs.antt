-- Runs: any number of calls on one condition variable, which make single atomic steps in any order.
use Rattle.std.specs.Prelude.{◌≡◌, ℕ, ◌+◌, ◌-◌, ◌^◌, ◌<◌, ◌≤◌, ◌==◌, ◌||◌, ◌⊎◌, Bool, true, false, List, [], ◌∷◌, ◌++◌, bit_or, length, slice_get, slice_set, Option, Some, None, if◌then◌else◌, IsTrue}
use Rattle.lock_events.specs.declared.action.EventAction.{EventAction}
use Rattle.lock_events.specs.declared.action.EventAction.TheVariants as action
use Rattle.lock_events.specs.declared.act.Begun.{Begun}
use Rattle.lock_events.specs.declared.act.EventAct.{EventAct}
use Rattle.lock_events.specs.declared.act.EventAct.TheVariants as act
use Rattle.lock_events.specs.declared.call.EventCall.{EventCall}
use Rattle.lock_events.specs.declared.stage.EventStage.{EventStage}
use Rattle.lock_events.specs.declared.stage.EventStage.TheVariants as stage
use Rattle.lock_events.specs.Words.{decoded, last_epoch, many, unclaimed_in, has_none}
use Rattle.lock_events.specs.Events.{waiting, notifying, action_of, event_next, is_notified}
use Rattle.lock_events.specs.Kept.{is_registered, count_of, watch_of, sum_of, Reaches}

-- the word after an action that is made in one atomic step
abbrev pub made : EventAction → ℕ → ℕ
made (action.Exchange old new) w = if w == old then new else w
made (action.Subtract amount) w = w - amount
made (action.Or bits) w = bit_or w bits
made other w = w

-- what a step is answered: the word if it reads it, or this number
abbrev pub answer : EventAction → ℕ → ℕ → ℕ
answer action.Load w told = w
answer (action.Exchange old new) w told = w
answer (action.Subtract amount) w told = w
answer (action.Or bits) w told = w
answer other w told = told

-- the epoch at which an action parks
abbrev pub parks_at : EventAction → Option ℕ
parks_at (action.Park epoch) = Some epoch
parks_at other = None

-- a condition variable in use: its word, and its calls in the order in which they began
pub record EventsInUse : Type 0 where
  pub word : ℕ
  pub calls : List Begun

abbrev pub new_events : EventsInUse
new_events = record { word = 0; calls = [] }

abbrev pub begun_call : EventCall → Begun
begun_call call = record { call = call; before = 0 }

abbrev pub with_call : EventsInUse → EventCall → EventsInUse
with_call s call = record s { calls = s.calls ++ begun_call call ∷ [] }

-- a wait registers by the exchange that counts it
abbrev pub before_at : EventStage → (found loaded begun before : ℕ) → ℕ
before_at stage.CountIn found loaded begun before = if found == loaded then begun else before
before_at other found loaded begun before = before

abbrev pub answered : Begun → ℕ → ℕ → Begun
answered b found begun =
    record { call = event_next found b.call; before = before_at b.call.stage found b.call.loaded begun b.before }

-- a step of no call changes nothing
abbrev pub step_of_call : EventsInUse → ℕ → ℕ → Option Begun → EventsInUse
step_of_call s k told None = s
step_of_call s k told (Some b) =
    record {
      word = made (action_of b.call) s.word;
      calls = slice_set s.calls k (answered b (answer (action_of b.call) s.word told) (length s.calls));
    }

abbrev pub after_event : EventsInUse → EventAct → EventsInUse
after_event s act.Wait = with_call s waiting
after_event s (act.Notify all) = with_call s (notifying all)
after_event s (act.Step k told) = step_of_call s k told (slice_get s.calls k)

abbrev pub after_events : EventsInUse → List EventAct → EventsInUse
after_events s [] = s
after_events s (a ∷ acts) = after_events (after_event s a) acts

-- the wake-up of all or of one
abbrev pub wake_of : Bool → EventAction
wake_of all = if all then action.WakeAll else action.WakeOne

-- what holds after any acts
pub record WaitsAreReached (s : EventsInUse) : Type 0 where
  -- each notification that began after a wait registered reaches it
  pub reached : (k n : ℕ) (wait note : Begun) → slice_get s.calls k ≡ Some wait → slice_get s.calls n ≡ Some note
      → IsTrue (is_registered wait.call.stage) → wait.before ≤ n → Reaches (decoded s.word).epoch wait.call.epoch note.call
  -- where a wait parks in the present epoch, each notification that has ended began before the wait registered
  pub sleeps : (k n : ℕ) (wait note : Begun) → slice_get s.calls k ≡ Some wait → slice_get s.calls n ≡ Some note
      → parks_at (action_of wait.call) ≡ Some (decoded s.word).epoch → is_notified note.call.stage ≡ true → n < wait.before
  -- a wait that is to release its mutex has registered, or yields in place of its sleep
  pub unlocks : (k found : ℕ) (wait : Begun) → slice_get s.calls k ≡ Some wait → action_of wait.call ≡ action.Unlock
      → IsTrue (is_registered wait.call.stage) ⊎ (action_of (event_next found wait.call) ≡ action.Yield)
  -- no wait is registered in the last epoch, so the count drains
  pub early : (k : ℕ) (wait : Begun) → slice_get s.calls k ≡ Some wait → IsTrue (is_registered wait.call.stage)
      → wait.call.epoch < last_epoch
  -- a notification that has ended the epoch wakes all or one by its next step: all, if it began the last epoch
  pub wakes : (n found : ℕ) (note : Begun) → slice_get s.calls n ≡ Some note → note.call.stage ≡ stage.EndEpoch
      → found ≡ note.call.loaded → action_of (event_next found note.call) ≡ wake_of (note.call.all || (note.call.epoch == last_epoch))
  -- in the last epoch it does so at once
  pub wakes_last : (n found : ℕ) (note : Begun) → slice_get s.calls n ≡ Some note → note.call.stage ≡ stage.FindWaits
      → has_none note.call.all (decoded found) ≡ false → last_epoch ≤ (decoded found).epoch
      → action_of (event_next found note.call) ≡ wake_of note.call.all
  -- it ends without a wake-up only if it found nobody to wake: for one of one, each counted wait was claimed
  pub skips : (n found : ℕ) (note : Begun) → slice_get s.calls n ≡ Some note → is_notified note.call.stage ≡ false
      → (event_next found note.call).stage ≡ stage.Skipped → has_none note.call.all (decoded found) ≡ true
  -- a notification of one claims one more wait at most, by the exchange that ends the epoch
  pub claims : (n old new : ℕ) (note : Begun) → slice_get s.calls n ≡ Some note → note.call.stage ≡ stage.EndEpoch
      → note.call.all ≡ false → action_of note.call ≡ action.Exchange old new
      → ((decoded new).count ≡ (decoded old).count) × (unclaimed_in (decoded old) ≤ unclaimed_in (decoded new) + 1)
      × ((decoded new).epoch ≡ (decoded old).epoch + 1)
  -- the waits whose epoch has not ended are no more than those that are not claimed, where these are counted
  pub claimed : (decoded s.word).unclaimed < many → sum_of (watch_of (decoded s.word).epoch) s.calls ≤ (decoded s.word).unclaimed
  -- the count is that of the waits that are registered
  pub counted : (decoded s.word).count ≡ sum_of count_of s.calls
  -- the word fits 64 bits
  pub fits : s.word < 2 ^ 64

-- THE THEOREM: after any acts of any number of calls, from a new condition variable on
abbrev pub EveryWaitIsReached : Type 0
EveryWaitIsReached = (acts : List EventAct) → WaitsAreReached (after_events new_events acts)
