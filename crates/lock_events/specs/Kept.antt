-- What every step of every call on a condition variable keeps.
use Rattle.std.specs.Prelude.{◌≡◌, ℕ, ◌+◌, ◌<◌, ◌≤◌, Bool, true, false, List, [], ◌∷◌, length, slice_get, Some, nat_lt, if◌then◌else◌, ⊤, IsTrue}
use Rattle.lock_events.specs.declared.act.Begun.{Begun}
use Rattle.lock_events.specs.declared.call.EventCall.{EventCall}
use Rattle.lock_events.specs.declared.stage.EventStage.{EventStage}
use Rattle.lock_events.specs.declared.stage.EventStage.TheVariants as stage
use Rattle.lock_events.specs.declared.word.EventWord.{EventWord}
use Rattle.lock_events.specs.Words.{last_epoch, most_waits, many, decoded, takes_in, has_none, with_wait}

-- a wait is registered from the exchange that counts it to the subtraction that ends it
abbrev pub is_registered : EventStage → Bool
is_registered stage.Unlock = true
is_registered stage.Sleep = true
is_registered stage.Leave = true
is_registered other = false

-- what a call adds to the count
abbrev pub count_at : EventStage → ℕ
count_at at = if is_registered at then 1 else 0

abbrev pub count_of : Begun → ℕ
count_of b = count_at b.call.stage

-- what a registered wait adds to the waits whose epoch has not ended
abbrev pub watch_of : ℕ → Begun → ℕ
watch_of epoch b = if nat_lt b.call.epoch epoch then 0 else count_of b

abbrev pub sum_of : (Begun → ℕ) → List Begun → ℕ
sum_of f [] = 0
sum_of f (b ∷ calls) = f b + sum_of f calls

-- what a notification is to a wait that registered before it began, and that watches this epoch
abbrev pub ReachesAt : EventStage → (epoch watched noted found : ℕ) → Type 0
-- it has yet to end the wait's epoch, or to find that it has ended
ReachesAt stage.FindWaits epoch watched noted found = ⊤
ReachesAt stage.EndEpoch epoch watched noted found = ⊤
ReachesAt stage.EndAllEpochs epoch watched noted found = ⊤
-- the wait's epoch has ended, and the wake-up comes after that
ReachesAt stage.Wake epoch watched noted found = (watched < noted) × (noted ≤ epoch)
ReachesAt stage.Notified epoch watched noted found = (watched < noted) × (noted ≤ epoch)
-- the wait's epoch had ended by another notification, which claimed a wait
ReachesAt stage.Skipped epoch watched noted found = (watched < epoch) × (0 < found)
-- it is no notification
ReachesAt other epoch watched noted found = ⊤

abbrev pub Reaches : (epoch watched : ℕ) → EventCall → Type 0
Reaches epoch watched call = ReachesAt call.stage epoch watched call.epoch (decoded call.loaded).count

-- what a call knows of the word that it is about to exchange
abbrev pub Knows : EventStage → EventCall → Type 0
Knows stage.CountIn call = (takes_in (decoded call.loaded) ≡ true) × (call.epoch ≡ (with_wait (decoded call.loaded)).epoch)
Knows stage.EndEpoch call =
    (has_none call.all (decoded call.loaded) ≡ false) × ((decoded call.loaded).epoch < last_epoch) × (call.epoch ≡ (decoded call.loaded).epoch + 1)
Knows stage.EndAllEpochs call = call.epoch ≡ last_epoch
Knows other call = ⊤

-- what holds of each call: the epoch of a registered wait is past or the present one, and not the last
pub record IsSound (epoch begun : ℕ) (b : Begun) : Type 0 where
  pub past : IsTrue (is_registered b.call.stage) → b.call.epoch ≤ epoch
  pub early : IsTrue (is_registered b.call.stage) → b.call.epoch < last_epoch
  pub known : IsTrue (is_registered b.call.stage) → b.before ≤ begun
  pub knows : Knows b.call.stage b.call

-- each notification reaches each wait that registered before it began
abbrev pub AllReached : ℕ → List Begun → Type 0
AllReached epoch calls =
    (k n : ℕ) (wait note : Begun) → slice_get calls k ≡ Some wait → slice_get calls n ≡ Some note
    → IsTrue (is_registered wait.call.stage) → wait.before ≤ n → Reaches epoch wait.call.epoch note.call

-- the rule of a word and of the calls in the order in which they began
pub record IsKept (v : EventWord) (calls : List Begun) : Type 0 where
  -- the count is that of the registered waits
  pub counted : v.count ≡ sum_of count_of calls
  -- the waits whose epoch has not ended are no more than those that are not claimed, where these are counted
  pub claimed : v.unclaimed < many → sum_of (watch_of v.epoch) calls ≤ v.unclaimed
  pub fits : v.count ≤ most_waits
  pub each : (k : ℕ) (b : Begun) → slice_get calls k ≡ Some b → IsSound v.epoch (length calls) b
  pub reached : AllReached v.epoch calls
