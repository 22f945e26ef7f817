-- Journals of the steps that a lock made.
use Rattle.std.specs.Prelude.{◌≡◌, ℕ, ◌≤◌, Bool, true, false, nat_lt, if◌then◌else◌, List, [], ◌∷◌, ◌++◌, length}
use Rattle.lock_modes.specs.declared.mode_step.ModeStep.{ModeStep}
use Rattle.lock_modes.specs.declared.bag.Bag.{Bag}
use Rattle.lock_modes.specs.Modes.{empty_bag}
use Rattle.lock_modes.specs.ModeRuns.{IsModeRun, Replays}

-- the recorded steps, the capacity, and whether a step found no room
pub record Journal : Type 0 where
  pub steps : List ModeStep
  pub room : ℕ
  pub stopped : Bool

-- a journal without steps
abbrev pub empty_journal : ℕ → Journal
empty_journal room = record { steps = []; room = room; stopped = false }

-- the journal after a step: the step is recorded if there is room, and otherwise the journal has stopped
abbrev pub journal_after : Journal → ModeStep → Journal
journal_after journal step =
    if nat_lt (length journal.steps) journal.room
    then record journal { steps = journal.steps ++ step ∷ [] }
    else record journal { stopped = true }

-- the recorded steps replay; they lead to this bag unless the journal stopped; and it stopped only when full
pub record IsJournalOf (limit : ℕ) (bag : Bag) (journal : Journal) : Type 0 where
  pub replays : Replays limit journal.steps
  pub to_bag : journal.stopped ≡ false → IsModeRun limit empty_bag journal.steps bag
  pub within : length journal.steps ≤ journal.room
  pub full : journal.stopped ≡ true → length journal.steps ≡ journal.room
