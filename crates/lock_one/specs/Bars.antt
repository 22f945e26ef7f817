-- A call with a bar is next, and a call of a mutex that slept enough sleeps under a bar.
use Rattle.std.specs.Prelude.{◌≡◌, ◌≢◌, ℕ, ◌%◌, ◌^◌, ◌<◌, ◌≤◌, Bool, true, ◌⊎◌, List, slice_get, Some}
use Rattle.lock_modes.specs.Limits.{IsLimit}
use Rattle.lock_modes.specs.Modes.{tokens}
use Rattle.lock_modes.specs.Holds.{hold_after}
use Rattle.lock_word.specs.declared.want.ExWant.{ExWant}
use Rattle.lock_word.specs.declared.want.ExWant.TheVariants as want
use Rattle.lock_word.specs.Word.{step_of_want}
use Rattle.lock_one.specs.declared.action.Action.TheVariants.{Sleep}
use Rattle.lock_one.specs.declared.action.Sleeper.{Sleeper}
use Rattle.lock_one.specs.declared.call.WordCall.{WordCall}
use Rattle.lock_one.specs.declared.stage.Stage.TheVariants as stage
use Rattle.lock_one.specs.Rule.{is_asleep}
use Rattle.lock_one.specs.Machine.{sleepers, sleeps_after, acquiring, next_of}
use Rattle.lock_one.specs.Runs.{Underway, Thread, LockInUse, new_lock, Act, after_act, after_acts}

-- a new lock after these acts
abbrev pub in_use : ℕ → List Act → LockInUse
in_use readers acts = after_acts (new_lock readers) acts

-- the thread is in a call whose deadline has passed
pub record IsLateCall (t : Thread) : Type 0 where
  pub underway : Underway
  pub calls : t.underway ≡ Some underway
  pub late : underway.at.0.late ≡ true

-- THE LAW OF THE BAR, after any acts of any number of threads
pub record BarredCallsAreNext : Type 0 where
  -- while a thread has set the bar, no act gives another one more tokens. It may release, downgrade or upgrade
  pub nobody_passes : (readers : ℕ) (acts : List Act) (a : Act) (k j : ℕ) (own before after : Thread) → IsLimit readers
      → slice_get (in_use readers acts).threads k ≡ Some own → own.view.held.announced ≡ true → j ≢ k
      → slice_get (in_use readers acts).threads j ≡ Some before → slice_get (after_act (in_use readers acts) a).threads j ≡ Some after
      → tokens after.view.held.bag ≤ tokens before.view.held.bag
  -- and the bar stays, until the call that has set it acquires, or its deadline has passed
  pub bar_stays : (readers : ℕ) (acts : List Act) (a : Act) (k : ℕ) (own after : Thread) → IsLimit readers
      → slice_get (in_use readers acts).threads k ≡ Some own → own.view.held.announced ≡ true
      → slice_get (after_act (in_use readers acts) a).threads k ≡ Some after
      → (after.view.held.announced ≡ true) ⊎ ((after.view.held ≡ hold_after own.view.held (step_of_want want.Exclusive)) ⊎ IsLateCall own)
  -- a writer that announces itself, in a mutex one that has slept four times or briefly for its time, sleeps for a word with a bar, its own or another's, or
  -- with T, which no mutex has
  pub sleeps_under_a_bar : (readers : ℕ) (acts : List Act) (k : ℕ) (t : Thread) (u : Underway) (number : ℕ) (class : Sleeper) (brief : Bool) → IsLimit readers
      → slice_get (in_use readers acts).threads k ≡ Some t → t.underway ≡ Some u → is_asleep t.view.sleep ≡ true
      → u.at.0.announces ≡ true → u.at.0.want ≡ want.Exclusive → (u.at.0.readers ≡ 1 → u.at.0.sleeps ≡ 4)
      → u.at.1 ≡ Sleep number class brief → 2 ^ 34 ≤ number % sleepers
  -- in a mutex, no other sets the bar
  pub patient : (readers : ℕ) (acts : List Act) (k : ℕ) (t : Thread) (u : Underway) → IsLimit readers
      → slice_get (in_use readers acts).threads k ≡ Some t → t.underway ≡ Some u → t.view.held.announced ≡ true
      → u.at.0.readers ≡ 1 → u.at.0.sleeps ≡ 4
  -- and only one that has slept sleeps briefly, for a word without a bar. So calls that come set no bars in turn while another sleeps
  pub brief_after_a_sleep : (readers : ℕ) (acts : List Act) (k : ℕ) (t : Thread) (u : Underway) (number : ℕ) (class : Sleeper) → IsLimit readers
      → slice_get (in_use readers acts).threads k ≡ Some t → t.underway ≡ Some u → is_asleep t.view.sleep ≡ true → u.at.0.readers ≡ 1
      → u.at.1 ≡ Sleep number class true → (u.at.0.sleeps ≢ 0) × (number % sleepers < 2 ^ 34)
  -- a call counts its sleeps, up to four. A brief one that lasted its time counts as four
  pub begins : (readers : ℕ) (wish : ExWant) (blocks announces : Bool) → (acquiring readers wish blocks announces).0.sleeps ≡ 0
  pub counts : (found : ℕ) (call : WordCall) → call.stage ≡ stage.Sleep → (next_of found call).0.sleeps ≡ sleeps_after found call
  pub counts_no_other : (found : ℕ) (call : WordCall) → call.stage ≢ stage.Sleep → (next_of found call).0.sleeps ≡ call.sleeps
