-- What each step, sleep and wake-up keeps of the rule: what the lemmas of the theorems say.
use Rattle.std.specs.Prelude.{◌≡◌, ◌≢◌, ℕ, ◌-◌, ◌^◌, ◌%◌, ◌<◌, ◌≤◌, Bool, true, false, ◌==◌, ◌⊎◌, if◌then◌else◌, List, [], ◌∷◌, map, slice_get, slice_set, Some, IsTrue}
use Rattle.lock_modes.specs.declared.hold.Hold.{Hold}
use Rattle.lock_modes.specs.Limits.{IsLimit}
use Rattle.lock_modes.specs.Holds.{hold_has, hold_after}
use Rattle.lock_word.specs.declared.want.ExWant.{ExWant}
use Rattle.lock_word.specs.declared.down.Down.{Down}
use Rattle.lock_word.specs.Word.{word_admits, word_after, amount, step_of_want, step_of_down}
use Rattle.lock_word.specs.Unblocking.{word_unblocks}
use Rattle.lock_one.specs.declared.sleep_view.WordLimits.{WordLimits}
use Rattle.lock_one.specs.declared.sleep_view.SleepView.{SleepView}
use Rattle.lock_one.specs.declared.sleep_view.SleepState.{SleepState}
use Rattle.lock_one.specs.declared.sleep_view.SleepState.TheVariants.{Awake, Asleep, Woken}
use Rattle.lock_one.specs.declared.sleep_view.Debt.{Debt}
use Rattle.lock_one.specs.declared.sleep_view.Debt.TheVariants.{Nothing, One, All, Next, Turn}
use Rattle.lock_one.specs.declared.action.Action.{Action}
use Rattle.lock_one.specs.declared.action.Action.TheVariants.{WakeOne, WakeAll, WakeNext, WakeTurn}
use Rattle.lock_one.specs.declared.call.WordCall.{WordCall}
use Rattle.lock_one.specs.declared.stage.Stage.TheVariants as stage
use Rattle.lock_one.specs.Rule.{IsRefused, is_asleep, has_duty, IsEntitled, KeepsSleepers, with_sleep, with_debt, wake_all, wake_next, wake_turn, new_party}
use Rattle.lock_one.specs.Machine.{Progress, next_at, next_of}
use Rattle.lock_one.specs.Steps.{made, touches, limits_of, IsAt, is_step, Keeps, hold_at}

abbrev pub after_win : SleepView → ExWant → SleepView
after_win v want = record { held = hold_after v.held (step_of_want want); sleep = Awake; debt = Nothing }

abbrev pub after_take : SleepView → Down → Debt → SleepView
after_take v down debt = record { held = hold_after v.held (step_of_down down); sleep = Awake; debt = debt }

-- whether the change of the word may unblock some sleeper
abbrev pub frees : WordLimits → ℕ → ℕ → Bool
frees limits before after = if limits.wakes_one then after % 2 ^ 34 == 0 else word_unblocks limits.readers before after

-- what a release has to do about S, and what it owes after it
pub data IsPaid (limits : WordLimits) (before after : ℕ) (t s now : Bool) : Debt → Type 0 where
  -- S was not set
  is_unset : s ≡ false → IsPaid limits before after t s now Nothing
  -- no sleeper is unblocked, and S stays
  is_unneeded : frees limits before after ≡ false → now ≡ true → IsPaid limits before after t s now Nothing
  -- the bar stays, and S
  is_barred : 2 ^ 34 ≤ after → now ≡ true → IsPaid limits before after t s now Next
  is_shared_bar : 2 ^ 34 ≤ after → now ≡ true → IsPaid limits before after t s now Turn
  -- T stays, and S
  is_turned : t ≡ true → now ≡ true → IsPaid limits before after t s now Turn
  -- S stays or goes
  is_all : IsPaid limits before after t s now All
  -- and no bar is set
  is_one : IsTrue limits.wakes_one → after < 2 ^ 34 → IsPaid limits before after t s now One

-- each kind of step of the party at k keeps the rule
pub record EachStepKeeps (limits : WordLimits) (core : ℕ) (t s : Bool) (views : List SleepView) (k : ℕ) (me : SleepView) : Type 0 where
  -- an exchange that acquires, upgrades or sets the bar. It keeps T and S, and sets S for one that has a duty
  pub exchange : (want : ExWant) (now : Bool) → IsTrue (hold_has me.held (step_of_want want))
      → IsTrue (word_admits me.held.announced limits.readers core want)
      → me.debt ≡ Nothing → (s ≡ true → now ≡ true) → (IsTrue (has_duty limits me) → now ≡ true)
      → KeepsSleepers limits (word_after core want) t now (slice_set views k (after_win me want))
  -- an exchange that acquires and clears T. It owes all sleepers a wake-up
  pub takes_turn : (want : ExWant) (now : Bool) (debt : Debt) → IsTrue (hold_has me.held (step_of_want want))
      → IsTrue (word_admits me.held.announced limits.readers core want)
      → me.debt ≡ Nothing → limits.wakes_one ≡ false → (s ≡ true → debt ≡ All)
      → KeepsSleepers limits (word_after core want) false now (slice_set views k (with_debt (after_win me want) debt))
  -- an exchange that sets S alone, or T too
  pub marks : KeepsSleepers limits core t true views
  pub turns : limits.wakes_one ≡ false → KeepsSleepers limits core true true views
  -- a withdrawal of T. It owes all sleepers a wake-up
  pub drops_turn : (debt : Debt) → me.debt ≡ Nothing → limits.wakes_one ≡ false → (s ≡ true → debt ≡ All)
      → KeepsSleepers limits core false s (slice_set views k (with_debt (with_sleep me Awake) debt))
  -- a release, a downgrade or a withdrawal. One that has a duty leaves S on a word that refuses
  pub take : (down : Down) (now : Bool) (debt : Debt) → IsTrue (hold_has me.held (step_of_down down))
      → me.debt ≡ Nothing → (IsTrue (has_duty limits me) → (now ≡ true) × (frees limits core (core - amount down) ≡ false))
      → IsPaid limits core (core - amount down) t s now debt
      → KeepsSleepers limits (core - amount down) t now (slice_set views k (after_take me down debt))
  -- the party finds, as it falls asleep, that S is set and that the word refuses
  pub sleeps : (want : ExWant) → IsEntitled me want → me.debt ≡ Nothing → s ≡ true → IsRefused limits core t me want
      → KeepsSleepers limits core t s (slice_set views k (with_sleep me (Asleep want)))
  -- a sleep ends, for whatever reason
  pub wakes : KeepsSleepers limits core t s (slice_set views k (with_sleep me Woken))
  -- a party stops waiting. In a mutex it has found or set S on a word that is not free
  pub stops : me.debt ≡ Nothing → (IsTrue limits.wakes_one → (s ≡ true) × (core ≢ 0))
      → KeepsSleepers limits core t s (slice_set views k (with_sleep me Awake))
  -- the wake-ups that are owed
  pub pays_all : me.debt ≡ All → KeepsSleepers limits core t s (slice_set (map wake_all views) k (with_debt (wake_all me) Nothing))
  pub pays_next : me.debt ≡ Next → is_asleep me.sleep ≡ false → has_duty limits me ≡ false
      → KeepsSleepers limits core t s (slice_set (map wake_next views) k (with_debt (wake_next me) Nothing))
  pub pays_turn : me.debt ≡ Turn → is_asleep me.sleep ≡ false → has_duty limits me ≡ false
      → KeepsSleepers limits core t s (slice_set (map wake_turn views) k (with_debt (wake_turn me) Nothing))
  -- one was woken, or no party sleeps
  pub pays_one : (j : ℕ) (w : SleepView) → me.debt ≡ One → is_asleep me.sleep ≡ false → j ≢ k → slice_get views j ≡ Some w → w.sleep ≡ Woken
      → KeepsSleepers limits core t s (slice_set views k (with_debt me Nothing))
  pub pays_nobody : ((j : ℕ) (v : SleepView) → slice_get views j ≡ Some v → is_asleep v.sleep ≡ false)
      → KeepsSleepers limits core t s (slice_set views k (with_debt me Nothing))

-- each step of any party, from a new lock on
pub record StepsKeepSleepers : Type 0 where
  pub starts : (limits : WordLimits) → IsLimit limits.readers → (IsTrue limits.wakes_one → limits.readers ≡ 1)
      → KeepsSleepers limits 0 false false (new_party ∷ [])
  pub steps : (limits : WordLimits) (core : ℕ) (t s : Bool) (views : List SleepView) (k : ℕ) (me : SleepView)
      → IsLimit limits.readers → KeepsSleepers limits core t s views → slice_get views k ≡ Some me
      → EachStepKeeps limits core t s views k me

abbrev pub lock_and : WordLimits → ℕ → WordLimits × ℕ
lock_and limits sleeps = (limits, sleeps)

-- what no step of a call changes but the end of a sleep: its lock, and how often it has slept
abbrev pub lock_of : WordCall → WordLimits × ℕ
lock_of call = lock_and (limits_of call) call.sleeps

pub record StepKept (limits : WordLimits) (sleeps : ℕ) (state : SleepState) (before : Hold) (word : ℕ) (views : List SleepView) (k : ℕ) (next : Progress) : Type 0 where
  pub you : SleepView
  pub keeps : Keeps limits word (slice_set views k you)
  pub at : IsAt next.0.stage next.0 you next.1
  pub held : you.held ≡ hold_at next.0.stage next.0 before
  pub same_or_awake : (you.sleep ≡ state) ⊎ (you.sleep ≡ Awake)
  pub same_lock : lock_of next.0 ≡ lock_and limits sleeps

-- take any word and parties that keep the rule. Let one party make the next action of its call, in one atomic step, and
-- answer the call with what it found. The rule holds again, the party is where its new next action is to be made, and it holds
-- what that stage says
abbrev pub StepsKeepTheRule : Type 0
StepsKeepTheRule =
    (word : ℕ) (views : List SleepView) (k : ℕ) (me : SleepView) (call : WordCall) (action : Action) (found : ℕ) (before : Hold)
    → IsLimit call.readers → Keeps (limits_of call) word views → slice_get views k ≡ Some me
    → IsAt call.stage call me action → me.held ≡ hold_at call.stage call before → is_step call.stage ≡ true → (IsTrue (touches action) → found ≡ word)
    → StepKept (limits_of call) call.sleeps me.sleep before (made action word) views k (next_of found call)

-- a party at its sleep falls asleep where the word is the number that it sleeps on. A sleep ends at any time, and a wake-up is made. The
-- rule holds again
pub record SleepsKeepTheRule : Type 0 where
  pub falls_asleep : (views : List SleepView) (k : ℕ) (me : SleepView) (call : WordCall) (action : Action)
      → IsLimit call.readers → Keeps (limits_of call) call.loaded views → slice_get views k ≡ Some me → IsAt stage.Sleep call me action
      → Keeps (limits_of call) call.loaded (slice_set views k (with_sleep me (Asleep call.want)))
      × IsAt stage.Sleep call (with_sleep me (Asleep call.want)) action
  pub sleep_ends : (word : ℕ) (views : List SleepView) (k : ℕ) (me : SleepView) (call : WordCall) (action : Action) (answer : ℕ)
      → IsLimit call.readers → Keeps (limits_of call) word views → slice_get views k ≡ Some me → IsAt stage.Sleep call me action
      → Keeps (limits_of call) word (slice_set views k (with_sleep me Woken))
      × IsAt stage.Look (next_at stage.Sleep answer call).0 (with_sleep me Woken) (next_at stage.Sleep answer call).1
  -- a wake-up of all
  pub wakes_all : (word : ℕ) (views : List SleepView) (k : ℕ) (me : SleepView) (call : WordCall)
      → IsLimit call.readers → Keeps (limits_of call) word views → slice_get views k ≡ Some me → IsAt stage.Wake call me WakeAll
      → Keeps (limits_of call) word (slice_set (map wake_all views) k (with_debt (wake_all me) Nothing))
      × IsAt stage.Ended (next_at stage.Wake 0 call).0 (with_debt (wake_all me) Nothing) (next_at stage.Wake 0 call).1
  pub wakes_all_refused : (word : ℕ) (views : List SleepView) (k : ℕ) (me : SleepView) (call : WordCall)
      → IsLimit call.readers → Keeps (limits_of call) word views → slice_get views k ≡ Some me → IsAt stage.WakeRefused call me WakeAll
      → Keeps (limits_of call) word (slice_set (map wake_all views) k (with_debt (wake_all me) Nothing))
      × IsAt stage.Refused (next_at stage.WakeRefused 0 call).0 (with_debt (wake_all me) Nothing) (next_at stage.WakeRefused 0 call).1
  -- of all, after an acquisition that took the turn
  pub wakes_all_acquired : (word : ℕ) (views : List SleepView) (k : ℕ) (me : SleepView) (call : WordCall)
      → IsLimit call.readers → Keeps (limits_of call) word views → slice_get views k ≡ Some me → IsAt stage.WakeAcquired call me WakeAll
      → Keeps (limits_of call) word (slice_set (map wake_all views) k (with_debt (wake_all me) Nothing))
      × IsAt stage.Acquired (next_at stage.WakeAcquired 0 call).0 (with_debt (wake_all me) Nothing) (next_at stage.WakeAcquired 0 call).1
  -- of those that may pass a bar
  pub wakes_next : (word : ℕ) (views : List SleepView) (k : ℕ) (me : SleepView) (call : WordCall)
      → IsLimit call.readers → Keeps (limits_of call) word views → slice_get views k ≡ Some me → IsAt stage.Wake call me WakeNext
      → Keeps (limits_of call) word (slice_set (map wake_next views) k (with_debt (wake_next me) Nothing))
      × IsAt stage.Ended (next_at stage.Wake 0 call).0 (with_debt (wake_next me) Nothing) (next_at stage.Wake 0 call).1
  -- of those and of all readers
  pub wakes_turn : (word : ℕ) (views : List SleepView) (k : ℕ) (me : SleepView) (call : WordCall)
      → IsLimit call.readers → Keeps (limits_of call) word views → slice_get views k ≡ Some me → IsAt stage.Wake call me WakeTurn
      → Keeps (limits_of call) word (slice_set (map wake_turn views) k (with_debt (wake_turn me) Nothing))
      × IsAt stage.Ended (next_at stage.Wake 0 call).0 (with_debt (wake_turn me) Nothing) (next_at stage.Wake 0 call).1
  -- of one that sleeps, or of none if none does
  pub wakes_one : (word : ℕ) (views : List SleepView) (k j : ℕ) (me w : SleepView) (call : WordCall) (wish : ExWant)
      → IsLimit call.readers → Keeps (limits_of call) word views → slice_get views k ≡ Some me → IsAt stage.Wake call me WakeOne
      → slice_get views j ≡ Some w → w.sleep ≡ Asleep wish
      → Keeps (limits_of call) word (slice_set (slice_set views j (with_sleep w Woken)) k (with_debt me Nothing))
      × IsAt stage.Ended (next_at stage.Wake 0 call).0 (with_debt me Nothing) (next_at stage.Wake 0 call).1
  pub wakes_nobody : (word : ℕ) (views : List SleepView) (k : ℕ) (me : SleepView) (call : WordCall)
      → IsLimit call.readers → Keeps (limits_of call) word views → slice_get views k ≡ Some me → IsAt stage.Wake call me WakeOne
      → ((j : ℕ) (v : SleepView) → slice_get views j ≡ Some v → is_asleep v.sleep ≡ false)
      → Keeps (limits_of call) word (slice_set views k (with_debt me Nothing))
      × IsAt stage.Ended (next_at stage.Wake 0 call).0 (with_debt me Nothing) (next_at stage.Wake 0 call).1
  -- a party that is woken in its sleep is at its sleep still
  pub woken : (call : WordCall) (v : SleepView) (action : Action) → IsAt stage.Sleep call v action → IsAt stage.Sleep call (with_sleep v Woken) action
