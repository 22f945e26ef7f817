-- A call keeps its task.
use Rattle.std.proofs.Common.{◌≡◌, ℕ, ◌+◌, Bool, true, false, not, ◌&&◌, ◌||◌, ◌==◌, nat_lt, if◌then◌else◌, refl}
use Rattle.std.proofs.lemmas.Bool.{false≢true}
use Rattle.lock_one.specs.declared.action.Action.TheVariants as action
use Rattle.lock_one.specs.declared.call.WordCall.{WordCall}
use Rattle.lock_one.specs.declared.stage.Stage.{Stage}
use Rattle.lock_one.specs.declared.stage.Stage.TheVariants as stage
use Rattle.lock_one.specs.declared.sleep_view.Debt.{Debt}
use Rattle.lock_one.specs.declared.sleep_view.Debt.TheVariants as debt
use Rattle.lock_one.specs.Machine.{Progress, has_sleepers, admits_word, drops_turn, takes_turn, won, sleepers, wakes_one, has_slept, word_withdrawn, sleep, word_marked, mark_or_sleep, marked, time_out, withdrawn, wait, after_try, decide, release_of, release_on, subtract, release_again, wakes, acquired, refused, goes_to, next_at, next_of}
use Rattle.lock_one.specs.Steps.{is_step}
use Rattle.lock_one_word.specs.Seats.{Task, task_of}

abbrev task : Progress → Task
task p = task_of p.0

abbrev acquires : WordCall → Task
acquires call = (call.want, call.down, false)

abbrev released_by : WordCall → Task
released_by call = (call.want, call.down, true)

waits : (call : WordCall) → task (mark_or_sleep call) ≡ acquires call
waits call = by (word_marked call == call.loaded)
  where
    by : (b : Bool) → task (if b then sleep call else goes_to (record call { left = word_marked call }) stage.Mark (action.Exchange call.loaded (word_marked call))) ≡ acquires call
    by true = refl
    by false = refl

times_out : (call : WordCall) → task (time_out call) ≡ acquires call
times_out call = by (call.announced || drops_turn call) (wakes_one call && (has_slept call && nat_lt call.loaded sleepers))
  where
    by : (b c : Bool) → task (if b then goes_to (record call { left = word_withdrawn call }) stage.Withdraw (action.Exchange call.loaded (word_withdrawn call))
        else if c then goes_to (record call { left = call.loaded + sleepers }) stage.Leave (action.Exchange call.loaded (call.loaded + sleepers)) else refused call) ≡ acquires call
    by true c = refl
    by false true = refl
    by false false = refl

rests : (call : WordCall) → task (wait call) ≡ acquires call
rests call = by call.blocks call.late (nat_lt call.pauses 6)
  where
    by : (b c d : Bool) → task (if not b then refused call else if c then time_out call
        else if d then goes_to (record call { pauses = call.pauses + 1 }) stage.Pause (action.Spin (if nat_lt call.pauses 3 then call.pauses + 6 else 9)) else mark_or_sleep call) ≡ acquires call
    by false c d = refl
    by true true d = times_out call
    by true false true = refl
    by true false false = waits call

decides : (word : ℕ) (call : WordCall) → task (decide word call) ≡ acquires call
decides word call = by (admits_word call.announced call.readers word call.want)
  where
    by : (b : Bool) → task (if b then goes_to (record call { loaded = word; left = after_try call word }) stage.Try (action.Exchange word (after_try call word)) else wait (record call { loaded = word })) ≡ acquires call
    by true = refl
    by false = rests (record call { loaded = word })

wakes_up : (d : Debt) (call : WordCall) → task (wakes d call) ≡ released_by call
wakes_up debt.Nothing call = refl
wakes_up debt.One call = refl
wakes_up debt.All call = refl
wakes_up debt.Next call = refl
wakes_up debt.Turn call = refl

wins : (call : WordCall) → task (won call) ≡ acquires call
wins call = by (takes_turn call call.loaded && has_sleepers call.loaded)
  where
    by : (b : Bool) → task (if b then goes_to call stage.WakeAcquired action.WakeAll else acquired call) ≡ acquires call
    by true = refl
    by false = refl

withdraws : (call : WordCall) → task (withdrawn call) ≡ acquires call
withdraws call = by (has_sleepers call.loaded && not (wakes_one call))
  where
    by : (b : Bool) → task (if b then goes_to (record call { announced = false; turned = false }) stage.WakeRefused action.WakeAll else refused (record call { announced = false; turned = false })) ≡ acquires call
    by true = refl
    by false = refl

-- the stages before the end of a call
abbrev pub is_on : Stage → Bool
is_on stage.Acquired = false
is_on stage.Refused = false
is_on stage.Ended = false
is_on other = true

pub goes_on : (st : Stage) → is_step st ≡ true → is_on st ≡ true
goes_on stage.Look h = refl
goes_on stage.Try h = refl
goes_on stage.Pause h = refl
goes_on stage.Mark h = refl
goes_on stage.Sleep h = refl
goes_on stage.Withdraw h = refl
goes_on stage.Leave h = refl
goes_on stage.LookToRemove h = refl
goes_on stage.Subtract h = refl
goes_on stage.Release h = refl
goes_on stage.Wake h = refl
goes_on stage.WakeRefused h = refl
goes_on stage.WakeAcquired h = refl
goes_on stage.Acquired h = absurd (false≢true h)
goes_on stage.Refused h = absurd (false≢true h)
goes_on stage.Ended h = absurd (false≢true h)

module _ (found : ℕ) (call : WordCall) where
  either : (b : Bool) (next : Progress) → task next ≡ acquires call → task (if b then next else decide found call) ≡ acquires call
  either true next e = e
  either false next e = decides found call

  again : (b : Bool) → task (if b then release_on found (record call { pauses = call.pauses + 1 }) else subtract call) ≡ released_by call
  again true = refl
  again false = refl

  releasing : (b : Bool) → task (if b then wakes (release_of call.readers call.loaded call.down).1 call else release_again found call) ≡ released_by call
  releasing true = wakes_up (release_of call.readers call.loaded call.down).1 call
  releasing false = again (nat_lt call.pauses 8)

  looking : (b : Bool) → task (if b then release_on found call else subtract call) ≡ released_by call
  looking true = refl
  looking false = refl

  by_stage : (st : Stage) → is_on st ≡ true → task (next_at st found call) ≡ task_of (record call { stage = st })
  by_stage stage.Look h = decides found call
  by_stage stage.Try h = either (found == call.loaded) (won call) (wins call)
  by_stage stage.Pause h = refl
  by_stage stage.Mark h = either (found == call.loaded) (marked call) refl
  by_stage stage.Sleep h = refl
  by_stage stage.Withdraw h = either (found == call.loaded) (withdrawn call) (withdraws call)
  by_stage stage.Leave h = either (found == call.loaded) (refused call) refl
  by_stage stage.LookToRemove h = looking (has_sleepers found)
  by_stage stage.Subtract h = wakes_up (release_of call.readers found call.down).1 call
  by_stage stage.Release h = releasing (found == call.loaded)
  by_stage stage.Wake h = refl
  by_stage stage.WakeRefused h = refl
  by_stage stage.WakeAcquired h = refl
  by_stage stage.Acquired h = absurd (false≢true h)
  by_stage stage.Refused h = absurd (false≢true h)
  by_stage stage.Ended h = absurd (false≢true h)

  pub keeps_task : is_on call.stage ≡ true → task (next_of found call) ≡ task_of call
  keeps_task h = by_stage call.stage h
