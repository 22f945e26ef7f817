-- Runs: any number of threads with one lock of one word, which make single steps in any order, and sleep.
use Rattle.std.specs.Prelude.{◌≡◌, ℕ, ◌%◌, ◌^◌, ◌<◌, ◌≤◌, Bool, true, false, not, ◌&&◌, ◌||◌, ◌==◌, if◌then◌else◌, List, [], ◌∷◌, ◌++◌, map, slice_get, slice_set, Option, Some, None}
use Rattle.lock_modes.specs.declared.hold.Hold.{Hold}
use Rattle.lock_modes.specs.Limits.{IsLimit}
use Rattle.lock_modes.specs.Holds.{hold_has}
use Rattle.lock_word.specs.declared.want.ExWant.{ExWant}
use Rattle.lock_word.specs.declared.down.Down.{Down}
use Rattle.lock_word.specs.BarredBags.{IsLegalBarredBag}
use Rattle.lock_word.specs.Holders.{all_of}
use Rattle.lock_word.specs.Word.{word_of, step_of_want, step_of_down}
use Rattle.lock_word.specs.Unblocking.{is_awaited}
use Rattle.lock_one.specs.declared.action.Action.{Action}
use Rattle.lock_one.specs.declared.action.Action.TheVariants as action
use Rattle.lock_one.specs.declared.action.Sleeper.{Sleeper}
use Rattle.lock_one.specs.declared.stage.Stage.{Stage}
use Rattle.lock_one.specs.declared.stage.Stage.TheVariants as stage
use Rattle.lock_one.specs.declared.sleep_view.WordLimits.{WordLimits}
use Rattle.lock_one.specs.declared.sleep_view.SleepView.{SleepView}
use Rattle.lock_one.specs.declared.sleep_view.SleepState.{SleepState}
use Rattle.lock_one.specs.declared.sleep_view.SleepState.TheVariants.{Awake, Asleep, Woken}
use Rattle.lock_one.specs.declared.sleep_view.Debt.{Debt}
use Rattle.lock_one.specs.declared.sleep_view.Debt.TheVariants as debt
use Rattle.lock_one.specs.Rule.{holds_of, is_woken, is_asleep, is_shared, IsRefused, IsEntitled, IsServed, with_sleep, with_debt, wake_all, wake_next, wake_turn, new_party}
use Rattle.lock_one.specs.Machine.{Progress, is_exclusive, is_due, core_of, has_turn, has_sleepers, sleepers, class_of, is_brief, sets_turn, acquiring, taking, next_at, next_of}
use Rattle.lock_one.specs.Steps.{made, touches, ends, hold_at}

-- a call that has not ended: the call and its next action, and what the thread held when it began
pub record Underway : Type 0 where
  pub at : Progress
  pub before : Hold

-- a thread: what it holds, whether it sleeps, and what it owes; and its call
pub record Thread : Type 0 where
  pub view : SleepView
  pub underway : Option Underway

pub record LockInUse : Type 0 where
  pub readers : ℕ
  pub word : ℕ
  pub threads : List Thread

abbrev pub views_of : List Thread → List SleepView
views_of threads = map (λ (t : Thread). t.view) threads

abbrev pub limits_in : ℕ → WordLimits
limits_in readers = record { readers = readers; wakes_one = readers == 1 }

abbrev pub new_thread : Thread
new_thread = record { view = new_party; underway = None }

abbrev pub new_lock : ℕ → LockInUse
new_lock readers = record { readers = readers; word = 0; threads = new_thread ∷ [] }

-- one act of a run
pub data Act : Type 0 where
  -- a new thread joins, which holds nothing
  join : Act
  -- the thread begins to acquire or upgrade: what it wants, whether it blocks, and whether it announces itself
  acquires : ℕ → ExWant → Bool → Bool → Act
  -- the thread begins to release or downgrade
  releases : ℕ → Down → Act
  -- the thread makes the next action of its call. The second number answers an action that reads no word. The answer 0 to a sleep lets
  -- the thread fall asleep. A wake-up of one wakes the thread with the third number, if it sleeps
  steps : ℕ → ℕ → ℕ → Act

abbrev pub is_idle : Option Underway → Bool
is_idle None = true
is_idle (Some u) = false

abbrev pub may_acquire : Thread → ExWant → Bool
may_acquire t want = is_idle t.underway && (is_awaited want && (hold_has t.view.held (step_of_want want) && not t.view.held.announced))

abbrev pub may_release : Thread → Down → Bool
may_release t down = is_idle t.underway && hold_has t.view.held (step_of_down down)

abbrev pub begins : Thread → Progress → Thread
begins t next = record t { underway = Some record { at = next; before = t.view.held } }

-- whether a call at this stage is over, releases, or owes a wake-up: it acquires no more
abbrev pub is_over : Stage → Bool
is_over stage.LookToRemove = true
is_over stage.Subtract = true
is_over stage.Release = true
is_over stage.Wake = true
is_over stage.WakeRefused = true
is_over stage.WakeAcquired = true
is_over stage.Acquired = true
is_over stage.Refused = true
is_over stage.Ended = true
is_over waiting = false

-- a party whose call is over is awake for good
abbrev pub sleep_at : Stage → SleepState → SleepState
sleep_at at state = if is_over at then Awake else state

-- a call owes the wake-up that is its next action
abbrev pub debt_at : Action → Debt
debt_at action.Load = debt.Nothing
debt_at (action.Exchange a b) = debt.Nothing
debt_at (action.Subtract d) = debt.Nothing
debt_at (action.Sleep n c b) = debt.Nothing
debt_at action.WakeOne = debt.One
debt_at action.WakeAll = debt.All
debt_at action.WakeNext = debt.Next
debt_at action.WakeTurn = debt.Turn
debt_at (action.Spin n) = debt.Nothing
debt_at action.Yield = debt.Nothing
debt_at (action.End b) = debt.Nothing

-- whether a call at this stage has set T, and goes on
abbrev pub turned_at : Stage → Bool → Bool
turned_at at turned = not (is_over at) && turned

abbrev pub view_after : Progress → SleepState → Hold → SleepView
view_after next state before =
    record {
      held = hold_at next.0.stage next.0 before;
      sleep = sleep_at next.0.stage state;
      debt = debt_at next.1;
    }

-- the call goes on, or it has ended
abbrev pub goes_on : Progress → Hold → Option Underway
goes_on next before = if ends next.1 then None else Some record { at = next; before = before }

abbrev pub thread_after : Progress → SleepState → Hold → Thread
thread_after next state before = record { view = view_after next state before; underway = goes_on next before }

abbrev pub with_thread : LockInUse → ℕ → Thread → LockInUse
with_thread s k t = record s { threads = slice_set s.threads k t }

abbrev pub view_to : (SleepView → SleepView) → Thread → Thread
view_to f t = record t { view = f t.view }

-- the answer to an action
abbrev pub answer : Action → ℕ → ℕ → ℕ
answer a word given = if touches a then word else given

-- a step on the word, or a pause
abbrev pub steps_by : LockInUse → ℕ → ℕ → Thread → Underway → LockInUse
steps_by s k given t u =
    record {
      readers = s.readers;
      word = made u.at.1 s.word;
      threads = slice_set s.threads k (thread_after (next_of (answer u.at.1 s.word given) u.at.0) t.view.sleep u.before);
    }

-- whether a sleep finds its number in the word. A yield does not sleep
abbrev pub finds : Action → ℕ → Bool
finds (action.Sleep n class brief) word = word == n
finds other word = false

-- a sleep: the thread falls asleep if the answer is 0 and the word is the number. Otherwise its sleep ends, and it may be late
abbrev pub sleeps_by : LockInUse → ℕ → ℕ → Thread → Underway → LockInUse
sleeps_by s k given t u =
    if (given == 0) && (finds u.at.1 s.word && not (is_asleep t.view.sleep))
    then with_thread s k (record t { view = with_sleep t.view (Asleep u.at.0.want) })
    else with_thread s k record { view = with_sleep t.view Woken; underway = goes_on (next_at stage.Sleep given u.at.0) u.before }

abbrev pub any_asleep : List Thread → Bool
any_asleep [] = false
any_asleep (t ∷ ts) = is_asleep t.view.sleep || any_asleep ts

-- the thread has made its wake-up
abbrev pub paid : LockInUse → ℕ → Thread → Underway → LockInUse
paid s k t u = with_thread s k record { view = with_debt t.view debt.Nothing; underway = goes_on (next_of 0 u.at.0) u.before }

abbrev pub wake_at : LockInUse → ℕ → ℕ → Thread → Underway → Option Thread → LockInUse
wake_at s k j t u None = if any_asleep s.threads then s else paid s k t u
wake_at s k j t u (Some w) =
    if is_asleep w.view.sleep then paid (with_thread s j (view_to (λ v. with_sleep v Woken) w)) k t u
    else if any_asleep s.threads then s else paid s k t u

abbrev pub wakes_by : LockInUse → ℕ → ℕ → Thread → Underway → Action → LockInUse
wakes_by s k j t u action.WakeAll = paid (record s { threads = map (view_to wake_all) s.threads }) k (view_to wake_all t) u
wakes_by s k j t u action.WakeNext = paid (record s { threads = map (view_to wake_next) s.threads }) k (view_to wake_next t) u
wakes_by s k j t u action.WakeTurn = paid (record s { threads = map (view_to wake_turn) s.threads }) k (view_to wake_turn t) u
wakes_by s k j t u other = wake_at s k j t u (slice_get s.threads j)

abbrev pub step_at : Stage → LockInUse → ℕ → ℕ → ℕ → Thread → Underway → LockInUse
step_at stage.Sleep s k given j t u = sleeps_by s k given t u
step_at stage.Wake s k given j t u = wakes_by s k j t u u.at.1
step_at stage.WakeRefused s k given j t u = wakes_by s k j t u u.at.1
step_at stage.WakeAcquired s k given j t u = wakes_by s k j t u u.at.1
step_at other s k given j t u = steps_by s k given t u

abbrev pub step_in : LockInUse → ℕ → ℕ → ℕ → Thread → Option Underway → LockInUse
step_in s k given j t None = s
step_in s k given j t (Some u) = step_at u.at.0.stage s k given j t u

abbrev pub acquire_by : LockInUse → ℕ → ExWant → Bool → Bool → Option Thread → LockInUse
acquire_by s k want blocks announces None = s
acquire_by s k want blocks announces (Some t) = if may_acquire t want then with_thread s k (begins t (acquiring s.readers want blocks announces)) else s

abbrev pub release_by : LockInUse → ℕ → Down → Option Thread → LockInUse
release_by s k down None = s
release_by s k down (Some t) = if may_release t down then with_thread s k (begins t (taking s.readers down)) else s

abbrev pub step_by : LockInUse → ℕ → ℕ → ℕ → Option Thread → LockInUse
step_by s k given j None = s
step_by s k given j (Some t) = step_in s k given j t t.underway

-- an act that the thread cannot make, or of no thread, changes nothing
abbrev pub after_act : LockInUse → Act → LockInUse
after_act s join = record s { threads = s.threads ++ new_thread ∷ [] }
after_act s (acquires k want blocks announces) = acquire_by s k want blocks announces (slice_get s.threads k)
after_act s (releases k down) = release_by s k down (slice_get s.threads k)
after_act s (steps k given j) = step_by s k given j (slice_get s.threads k)

abbrev pub after_acts : LockInUse → List Act → LockInUse
after_acts s [] = s
after_acts s (a ∷ acts) = after_acts (after_act s a) acts

pub record SleepsInCall (t : Thread) : Type 0 where
  pub underway : Underway
  pub calls : t.underway ≡ Some underway
  pub sleeps : underway.at.0.stage ≡ stage.Sleep
  pub wants : t.view.sleep ≡ Asleep underway.at.0.want
  pub marked : has_sleepers underway.at.0.loaded ≡ true
  -- it sleeps on the word that it loaded, as what it is to a wake-up
  pub sleeps_on : (number : ℕ) (class : Sleeper) (brief : Bool) → underway.at.1 ≡ action.Sleep number class brief
      → (number ≡ underway.at.0.loaded) × (class ≡ class_of t.view.held.announced underway.at.0.want) × (brief ≡ is_brief underway.at.0)
  -- and a writer that announces itself and is due sleeps on a word with a bar, its own or another's, or with T
  pub barred : underway.at.0.announces ≡ true → is_exclusive underway.at.0.want ≡ true → is_due underway.at.0 ≡ true → 2 ^ 34 ≤ underway.at.0.loaded % sleepers
  -- a reader that would set T has set it
  pub turned : sets_turn underway.at.0 ≡ false

-- a thread is in a call of a reader that blocks and has set T
pub record IsTurnOf (t : Thread) : Type 0 where
  pub underway : Underway
  pub calls : t.underway ≡ Some underway
  pub has : turned_at underway.at.0.stage underway.at.0.turned ≡ true
  pub reads : is_shared underway.at.0.want ≡ true
  pub blocks : underway.at.0.blocks ≡ true

pub record SomeoneTurns (threads : List Thread) : Type 0 where
  pub number : ℕ
  pub thread : Thread
  pub is : slice_get threads number ≡ Some thread
  pub owns : IsTurnOf thread

-- what holds after any acts
pub record ThreadsAreServed (s : LockInUse) : Type 0 where
  pub range : IsLimit s.readers
  pub small : s.word < 2 ^ 37
  -- the word without T and S is the sum of what the threads hold, which is compatible, with at most one bar
  pub coded : core_of s.word ≡ word_of (all_of (holds_of (views_of s.threads)))
  pub legal : IsLegalBarredBag s.readers (all_of (holds_of (views_of s.threads)))
  -- in a mutex, only a call that has slept enough has a bar
  pub patient : (k : ℕ) (t : Thread) (u : Underway) → slice_get s.threads k ≡ Some t → t.underway ≡ Some u → t.view.held.announced ≡ true
      → is_due u.at.0 ≡ true
  -- a thread that sleeps wants what it may acquire
  pub entitled : (k : ℕ) (v : SleepView) (want : ExWant) → slice_get (views_of s.threads) k ≡ Some v → v.sleep ≡ Asleep want → IsEntitled v want
  -- of each sleeper: S is set, and the word or T refuses it; or a thread owes it a wake-up, or (in a mutex) was woken in its place
  pub none_forgotten : (k : ℕ) (v : SleepView) (want : ExWant) → slice_get (views_of s.threads) k ≡ Some v → v.sleep ≡ Asleep want
      → IsServed (limits_in s.readers) (core_of s.word) (has_turn s.word) (has_sleepers s.word) (views_of s.threads) v want
  -- so where no thread owes a wake-up or is woken, S is set, and the word or T refuses each sleeper
  pub at_rest : (k : ℕ) (v : SleepView) (want : ExWant) → slice_get (views_of s.threads) k ≡ Some v → v.sleep ≡ Asleep want
      → ((j : ℕ) (w : SleepView) → slice_get (views_of s.threads) j ≡ Some w → (w.debt ≡ debt.Nothing) × (is_woken w.sleep ≡ false))
      → (has_sleepers s.word ≡ true) × IsRefused (limits_in s.readers) (core_of s.word) (has_turn s.word) v want
  -- where T is set, a thread is in a call that has set it. T is no bit of a mutex
  pub turn_owned : has_turn s.word ≡ true → SomeoneTurns s.threads
  pub no_turn : s.readers ≡ 1 → has_turn s.word ≡ false
  -- a thread that sleeps is in a call, for what the call wants, and the number that it sleeps on has S
  pub sleeps_in_call : (k : ℕ) (t : Thread) → slice_get s.threads k ≡ Some t → is_asleep t.view.sleep ≡ true → SleepsInCall t
  -- a thread in no call has no bar: a call that ended left none
  pub no_bar_left : (k : ℕ) (t : Thread) → slice_get s.threads k ≡ Some t → t.underway ≡ None → t.view.held.announced ≡ false
  -- a thread owes the wake-up that is the next action of its call
  pub owed : (k : ℕ) (t : Thread) (u : Underway) → slice_get s.threads k ≡ Some t → t.underway ≡ Some u → t.view.debt ≡ debt_at u.at.1

-- THE THEOREM: after any acts of any number of threads, from a new lock on
abbrev pub EveryRunIsServed : Type 0
EveryRunIsServed = (readers : ℕ) (acts : List Act) → IsLimit readers → ThreadsAreServed (after_acts (new_lock readers) acts)
