-- The rule of the word, stated of a table with one word and of the views of its seats.
use Rattle.std.specs.Prelude.{◌≡◌, ◌≤◌, ℕ, Bool, true, List, map, length, slice_index}
use mathlib.Core.Option.{some}
use lib.ListN.{get_elem?}
use Rattle.atomic_table.specs.Table.{State}
use Rattle.lock_modes.specs.Limits.{IsLimit}
use Rattle.lock_word.specs.declared.party.WorldParty.{WorldParty}
use Rattle.lock_word.specs.Turns.{idle}
use Rattle.lock_word.specs.Rule.{KeepsRule}
use Rattle.lock_word.specs.Word.{guards_of_word}
use Rattle.lock_word.specs.Claims.{FailsAreBounded, BarIsOfOne}
use Rattle.lock_word.specs.declared.seated.rule.SeatView.{SeatView}

-- the view of a party that has done nothing yet, with this readers' limit
abbrev pub newcomer : ℕ → SeatView
newcomer readers = record { state = idle; last = 0; loads = 0; readers = readers }

-- the view of the second party of a split
abbrev pub newcomer_beside : SeatView → SeatView
newcomer_beside v = newcomer v.readers

abbrev pub parties_of : List SeatView → List WorldParty
parties_of views = map (λ (v : SeatView). v.state) views

-- to a party that announced itself, the word shows at most the guards of the word that it loaded last
abbrev pub GuardsDoNotGrow : Bool → ℕ → ℕ → Type 0
GuardsDoNotGrow announced last word = announced ≡ true → guards_of_word word ≤ guards_of_word last

-- the rule of the table: that of its one word and of all its parties, with the readers' limit that each party knows
pub record IsKept (limit : ℕ) (s : State (Unit {0}) SeatView) : Type 0 where
  pub one_word : length s.words ≡ 1
  pub range : IsLimit limit
  pub known : (k : ℕ) (v : SeatView) → get_elem? s.views k ≡ some v → v.readers ≡ limit
  pub rule : KeepsRule limit (slice_index s.words 0) (parties_of s.views)
  pub guarded : (k : ℕ) (v : SeatView) → get_elem? s.views k ≡ some v
      → GuardsDoNotGrow v.state.held.announced v.last (slice_index s.words 0)

-- what the rule means
pub record KeepsWordRule (limit : ℕ) (s : State (Unit {0}) SeatView) : Type 0 where
  pub range : IsLimit limit
  pub rule : KeepsRule limit (slice_index s.words 0) (parties_of s.views)
  -- no party has failed more often than the others have won
  pub bounded : FailsAreBounded (parties_of s.views)
  -- at most one party has announced itself, and the word has its bar
  pub bar : BarIsOfOne (slice_index s.words 0) (parties_of s.views)
  -- while it has, no new guard comes
  pub guarded : (k : ℕ) (v : SeatView) → get_elem? s.views k ≡ some v
      → GuardsDoNotGrow v.state.held.announced v.last (slice_index s.words 0)

-- of every state that a table under this rule has between two steps
abbrev pub EveryStateKeepsRule : (ℕ → State (Unit {0}) SeatView → Type 0) → Type 0
EveryStateKeepsRule holds = (limit : ℕ) (s : State (Unit {0}) SeatView) → holds limit s → KeepsWordRule limit s
