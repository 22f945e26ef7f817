-- What each kind of step does to the view of the party that makes it.
use Rattle.std.specs.Prelude.{◌≡◌, ◌≢◌, ℕ, ◌+◌, ◌^◌, ◌<◌, IsTrue}
use Rattle.atomic_table.specs.Table.{Me, Step}
use Rattle.lock_modes.specs.declared.lock_step.LockStep.{LockStep}
use Rattle.lock_modes.specs.Modes.{tokens}
use Rattle.lock_word.specs.declared.want.ExWant.{ExWant}
use Rattle.lock_word.specs.declared.down.Down.{Down}
use Rattle.lock_word.specs.Word.{word_admits, word_after, amount, step_of_want, step_of_down}
use Rattle.lock_word.specs.Turns.{with_load, after_win, after_fail}
use Rattle.lock_word.specs.Rule.{WordShows}
use Rattle.lock_word.specs.declared.seated.rule.SeatView.{SeatView}
use Rattle.lock_word.specs.Seats.{GuardsDoNotGrow}

-- a seat's view, and the slots that it holds: none
abbrev pub Self : Type 0
Self = Me (Unit {0}) SeatView

abbrev pub view_after_load : Self → ℕ → Self
view_after_load me word = (record me.0 { state = with_load me.0.state word; last = word; loads = me.0.loads + 1 }, me.1)

abbrev pub view_after_win : Self → LockStep → Self
view_after_win me step = (record me.0 { state = after_win me.0.state step }, me.1)

abbrev pub view_after_fail : Self → Self
view_after_fail me = (record me.0 { state = after_fail me.0.state }, me.1)

-- a load tells its party the word, and what the word says of all holds
abbrev pub Loads : Step (Unit {0}) → Self → ℕ → Self → Type 0
Loads s me found after =
    (after ≡ view_after_load me found) × WordShows me.0.readers found me.0.state.held × GuardsDoNotGrow me.0.state.held.announced me.0.last found

-- an exchange that a loaded word admits, whatever the party wanted
abbrev pub Exchanges : Step (Unit {0}) → Self → ℕ → Self → Type 0
Exchanges s me found after =
    (limit : ℕ) (want : ExWant) → IsTrue (word_admits me.0.state.held.announced limit s.first want)
    → s.second ≡ word_after s.first want
    → (found ≡ s.first → after ≡ view_after_win me (step_of_want want)) × (found ≢ s.first → after ≡ view_after_fail me)

-- a take, and a party holds few tokens, so counting one more cannot overflow
abbrev pub Takes : Step (Unit {0}) → Self → ℕ → Self → Type 0
Takes s me found after =
    (down : Down) → s.first ≡ amount down
    → (after ≡ view_after_win me (step_of_down down)) × (tokens me.0.state.held.bag < 2 ^ 63)
