-- The rule of an event count: of its word, and of the calls that have begun, in the order in which they began.
use Rattle.std.specs.Prelude.{◌≡◌, ℕ, ◌<◌, ◌≤◌, true, List, length, slice_index, IsTrue}
use mathlib.Core.Option.{some}
use lib.ListN.{get_elem?}
use Rattle.atomic_table.specs.Table.{State}
use Rattle.lock_events.specs.declared.act.Begun.{Begun}
use Rattle.lock_events.specs.declared.stage.EventStage.TheVariants.{Notified, Skipped}
use Rattle.lock_events.specs.declared.word.EventWord.{EventWord}
use Rattle.lock_events.specs.Words.{decoded, last_epoch}
use Rattle.lock_events.specs.Events.{is_notified}
use Rattle.lock_events.specs.Kept.{is_registered, count_of, sum_of, IsKept}

-- the view of a seat is its call, as the machine has it after its last step on the word
abbrev pub Table : Type 0
Table = State (Unit {0}) Begun

abbrev pub word_in : Table → EventWord
word_in s = decoded (slice_index s.words 0)

-- the rule is that of the machine
pub record IsKeptIn (s : Table) : Type 0 where
  pub one_word : length s.words ≡ 1
  pub kept : IsKept (word_in s) s.views

abbrev pub IsRegistered : Begun → Type 0
IsRegistered wait = IsTrue (is_registered wait.call.stage)

-- a notification that has woken all threads
abbrev pub HasWokenAll : Begun → Type 0
HasWokenAll note = (note.call.stage ≡ Notified) × (note.call.all ≡ true)

-- a notification that has ended, and had found no wait
abbrev pub FoundNone : Begun → Type 0
FoundNone note = (note.call.stage ≡ Skipped) × ((decoded note.call.loaded).count ≡ 0)

-- the wait may sleep: no notification that began after it registered has woken all threads since its epoch ended
abbrev pub MaySleep : List Begun → Begun → Type 0
MaySleep calls wait =
    (notification : ℕ) (note : Begun) → wait.before ≤ notification → get_elem? calls notification ≡ some note → HasWokenAll note
    → wait.call.epoch < note.call.epoch → ⊥

-- what the rule means
pub record WakesTheRegistered (s : Table) : Type 0 where
  -- THE THEOREM: if a wait may sleep, each notification of all that has ended began before it registered
  pub ended : (k notification : ℕ) (wait note : Begun) → get_elem? s.views k ≡ some wait → get_elem? s.views notification ≡ some note
      → IsRegistered wait → MaySleep s.views wait → HasWokenAll note → notification < wait.before
  -- a thread parks only while the epoch is the one that it loaded: then each notification that has ended, of all or of one, began before
  pub parks : (k notification : ℕ) (wait note : Begun) → get_elem? s.views k ≡ some wait → get_elem? s.views notification ≡ some note
      → IsRegistered wait → wait.call.epoch ≡ (word_in s).epoch → is_notified note.call.stage ≡ true → notification < wait.before
  -- a notification that found no wait began before each wait registered
  pub missed : (k notification : ℕ) (wait note : Begun) → get_elem? s.views k ≡ some wait → get_elem? s.views notification ≡ some note
      → IsRegistered wait → FoundNone note → notification < wait.before
  -- a registered wait counts no call that has yet to begin
  pub known : (k : ℕ) (wait : Begun) → get_elem? s.views k ≡ some wait → IsRegistered wait → wait.before ≤ length s.views
  -- the epoch that it loaded is not the last
  pub early : (k : ℕ) (wait : Begun) → get_elem? s.views k ≡ some wait → IsRegistered wait → wait.call.epoch < last_epoch
  -- the count is that of the registered waits
  pub counted : (word_in s).count ≡ sum_of count_of s.views

-- of every state that a table under this rule has between two steps
abbrev pub EveryStateWakesTheRegistered : (Unit {0} → Table → Type 0) → Type 0
EveryStateWakesTheRegistered holds = (u : Unit {0}) (s : Table) → holds u s → WakesTheRegistered s
