-- The rule of the word, stated of a table with one word and of the views of its seats.
use Rattle.std.specs.Prelude.{◌≡◌, ℕ, ◌^◌, ◌<◌, Bool, true, false, List, map, length, slice_index}
use mathlib.Core.Option.{some}
use lib.ListN.{get_elem?}
use Rattle.atomic_table.specs.Table.{State, Me}
use Rattle.atomic_table.specs.declared.shared.Seat.{Seat}
use Rattle.lock_modes.specs.declared.hold.Hold.{Hold}
use Rattle.lock_modes.specs.Limits.{IsLimit}
use Rattle.lock_modes.specs.Holds.{no_hold}
use Rattle.lock_word.specs.declared.want.ExWant.{ExWant}
use Rattle.lock_word.specs.declared.want.ExWant.TheVariants as want
use Rattle.lock_word.specs.declared.down.Down.{Down}
use Rattle.lock_word.specs.declared.down.Down.TheVariants as down
use Rattle.lock_one.specs.declared.action.Action.{Action}
use Rattle.lock_one.specs.declared.call.WordCall.{WordCall}
use Rattle.lock_one.specs.declared.sleep_view.SleepView.{SleepView}
use Rattle.lock_one.specs.declared.sleep_view.SleepState.TheVariants.{Awake}
use Rattle.lock_one.specs.declared.sleep_view.Debt.TheVariants as debt
use Rattle.lock_one.specs.Machine.{Progress}
use Rattle.lock_one.specs.Runs.{limits_in, debt_at}
use Rattle.lock_one.specs.Steps.{IsAt, Keeps, hold_at}
use Rattle.lock_one.specs.Answers.{releases_at}
use Rattle.lock_one.specs.Stored.{word_of_stored}
use Rattle.lock_one_word.specs.declared.rule.OneView.{OneView}

abbrev pub newcomer : ℕ → OneView
newcomer readers = record { held = no_hold; readers = readers }

-- a table sees no sleep and no wake-up: to it, each party is awake and owes nothing
abbrev pub resting : OneView → SleepView
resting v = record { held = v.held; sleep = Awake; debt = debt.Nothing }

abbrev pub parties_in : List OneView → List SleepView
parties_in views = map resting views

abbrev pub Table : Type 0
Table = State (Unit {0}) OneView

-- a seat: its view, and its slots, of which it has none
abbrev pub Self : Type 0
Self = Me (Unit {0}) OneView

-- the seat has its table, its slots and its limit still
abbrev pub KeepsSeat : Seat (Unit {0}) OneView → Seat (Unit {0}) OneView → Type 0
KeepsSeat old new = (new.table_id ≡ old.table_id) × (new.me.1 ≡ old.me.1) × (new.me.0.readers ≡ old.me.0.readers)

abbrev pub stored_in : Table → ℕ
stored_in s = slice_index s.words 0

-- the rule of the table, for the limit that each view repeats
pub record IsKept (limit : ℕ) (s : Table) : Type 0 where
  pub one_word : length s.words ≡ 1
  pub small : stored_in s < 2 ^ 37
  pub range : IsLimit limit
  pub known : (k : ℕ) (v : OneView) → get_elem? s.views k ≡ some v → v.readers ≡ limit
  pub keeps : Keeps (limits_in limit) (word_of_stored (stored_in s)) (parties_in s.views)

-- an awake party with this hold, which owes the wake-up that the action makes
abbrev pub placed : Hold → Action → SleepView
placed held a = record { held = held; sleep = Awake; debt = debt_at a }

-- what a call acquires, what it releases, and which of both it does
abbrev pub Task : Type 0
Task = ExWant × Down × Bool

abbrev pub task_of : WordCall → Task
task_of call = (call.want, call.down, releases_at call.stage)

abbrev pub to_acquire : ExWant → Task
to_acquire wish = (wish, down.Shared, false)

abbrev pub to_release : Down → Task
to_release d = (want.Shared, d, true)

-- the party is in a call with this task and this next action, and held `before` when the call began
pub record IsGoing (next : Progress) (before : Hold) (task : Task) (v : OneView) : Type 0 where
  pub lock : next.0.readers ≡ v.readers
  pub at : IsAt next.0.stage next.0 (placed v.held next.1) next.1
  pub held : v.held ≡ hold_at next.0.stage next.0 before
  pub loaded : next.0.loaded < 2 ^ 37
  pub tasked : task_of next.0 ≡ task
