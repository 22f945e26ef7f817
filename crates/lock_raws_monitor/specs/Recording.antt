-- The held tokens of a lock, with the journal of its steps.
use Rattle.std.specs.Prelude.{◌≡◌, ℕ, Bool, List, Option, Some, None}
use Rattle.lock_modes.specs.declared.mode.Mode.{Mode}
use Rattle.lock_modes.specs.declared.mode_step.ModeStep.{ModeStep}
use Rattle.lock_modes.specs.Tokens.{bag_of_tokens}
use Rattle.lock_modes.specs.Limits.{IsLimit}
use Rattle.lock_raws_monitor.specs.Journal.{Journal, journal_after, IsJournalOf}

pub record Recording (K : Type 0) : Type 0 where
  pub tokens_out : List (K × Mode)
  pub bar : Bool
  pub readers : ℕ
  pub journal : Journal

-- the journal is that of the tokens that are held now
pub record IsRecording {K : Type 0} (tokens : List (K × Mode)) (readers : ℕ) (journal : Journal) : Type 0 where
  pub lawful : IsLimit readers
  pub kept : IsJournalOf readers (bag_of_tokens tokens) journal

-- the journal before and after a call that made this step, or none
abbrev pub Records : Journal → Journal → Option ModeStep → Type 0
Records old new None = new ≡ old
Records old new (Some step) = new ≡ journal_after old step
