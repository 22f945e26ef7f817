-- Readers get a turn: while T is set, at most one call acquires that is no reader's.
use Rattle.std.specs.Prelude.{◌≡◌, ◌≢◌, ℕ, ◌+◌, ◌%◌, ◌^◌, ◌≤◌, nat_lt, Bool, true, false, ◌&&◌, ◌⊎◌, if◌then◌else◌, List, [], ◌∷◌, slice_get, Option, Some, None}
use Rattle.lock_modes.specs.Limits.{IsLimit}
use Rattle.lock_modes.specs.Modes.{tokens}
use Rattle.lock_modes.specs.Holds.{hold_after}
use Rattle.lock_word.specs.declared.want.ExWant.TheVariants as want
use Rattle.lock_word.specs.Word.{step_of_want}
use Rattle.lock_one.specs.declared.action.Action.TheVariants.{Sleep}
use Rattle.lock_one.specs.declared.action.Sleeper.{Sleeper}
use Rattle.lock_one.specs.Rule.{is_asleep}
use Rattle.lock_one.specs.Machine.{has_turn, sleepers}
use Rattle.lock_one.specs.Runs.{Underway, Thread, LockInUse, Act, join, acquires, releases, steps, after_act, SomeoneTurns}
use Rattle.lock_one.specs.Bars.{in_use, IsLateCall}

abbrev pub tokens_of : Option Thread → ℕ
tokens_of None = 0
tokens_of (Some t) = tokens t.view.held.bag

-- whether the act gives the thread that makes it more tokens. An upgrade gives none
abbrev pub acquires_by : LockInUse → Act → Bool
acquires_by s join = false
acquires_by s (acquires k want blocks announces) = false
acquires_by s (releases k down) = false
acquires_by s (steps k given j) =
    nat_lt (tokens_of (slice_get s.threads k)) (tokens_of (slice_get (after_act s (steps k given j)).threads k))

-- how many of the acts acquire
abbrev pub acquisitions : LockInUse → List Act → ℕ
acquisitions s [] = 0
acquisitions s (a ∷ acts) = (if acquires_by s a then 1 else 0) + acquisitions (after_act s a) acts

-- T is set, and stays so
abbrev pub keeps_turn : LockInUse → List Act → Bool
keeps_turn s [] = has_turn s.word
keeps_turn s (a ∷ acts) = has_turn s.word && keeps_turn (after_act s a) acts

-- the act ends the turn: it is a step of a thread that acquires by it as a reader, or whose deadline has passed
pub record EndsTurn (before : LockInUse) (a : Act) : Type 0 where
  pub number : ℕ
  pub given : ℕ
  pub other : ℕ
  pub makes : a ≡ steps number given other
  pub own : Thread
  pub own_after : Thread
  pub was : slice_get before.threads number ≡ Some own
  pub is : slice_get (after_act before a).threads number ≡ Some own_after
  pub reads : (own_after.view.held ≡ hold_after own.view.held (step_of_want want.Shared)) ⊎ IsLateCall own

-- THE LAW OF THE TURN, after any acts of any number of threads
pub record ReadersGetATurn : Type 0 where
  -- while T is set, at most one act of all gives a thread more tokens
  pub at_most_one : (readers : ℕ) (acts later : List Act) → IsLimit readers → keeps_turn (in_use readers acts) later ≡ true
      → acquisitions (in_use readers acts) later ≤ 1
  -- it is that of a thread that has set the bar. It acquires an exclusive token, and has no bar after it
  pub passes_by_bar : (readers : ℕ) (acts : List Act) (a : Act) (k : ℕ) (before after : Thread) → IsLimit readers
      → has_turn (in_use readers acts).word ≡ true → has_turn (after_act (in_use readers acts) a).word ≡ true
      → slice_get (in_use readers acts).threads k ≡ Some before → slice_get (after_act (in_use readers acts) a).threads k ≡ Some after
      → (tokens after.view.held.bag ≤ tokens before.view.held.bag)
      ⊎ ((before.view.held.announced ≡ true) × (after.view.held ≡ hold_after before.view.held (step_of_want want.Exclusive)))
  -- and no thread sets a bar
  pub no_new_bar : (readers : ℕ) (acts : List Act) (a : Act) (k : ℕ) (before after : Thread) → IsLimit readers
      → has_turn (in_use readers acts).word ≡ true
      → slice_get (in_use readers acts).threads k ≡ Some before → slice_get (after_act (in_use readers acts) a).threads k ≡ Some after
      → after.view.held.announced ≡ true → before.view.held.announced ≡ true
  -- T stays, until a reader acquires, or the deadline of a call has passed
  pub turn_stays : (readers : ℕ) (acts : List Act) (a : Act) → IsLimit readers
      → has_turn (in_use readers acts).word ≡ true
      → (has_turn (after_act (in_use readers acts) a).word ≡ true) ⊎ EndsTurn (in_use readers acts) a
  -- while T is set, a reader is in a call that has set it, and that blocks
  pub owned : (readers : ℕ) (acts : List Act) → IsLimit readers → has_turn (in_use readers acts).word ≡ true
      → SomeoneTurns (in_use readers acts).threads
  -- a reader that has slept four times, or briefly for its time, sleeps under a writer or a bar for a word with T alone
  pub sleeps_in_turn : (readers : ℕ) (acts : List Act) (k : ℕ) (t : Thread) (u : Underway) (number : ℕ) (class : Sleeper) (brief : Bool) → IsLimit readers
      → slice_get (in_use readers acts).threads k ≡ Some t → t.underway ≡ Some u → is_asleep t.view.sleep ≡ true
      → u.at.0.want ≡ want.Shared → u.at.0.readers ≢ 1 → u.at.0.sleeps ≡ 4
      → u.at.1 ≡ Sleep number class brief → 2 ^ 33 ≤ number % sleepers → has_turn number ≡ true
