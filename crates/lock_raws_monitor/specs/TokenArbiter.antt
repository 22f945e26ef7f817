-- The invariant of the raw state behind an arbiter.
use Rattle.std.specs.Prelude.{◌≡◌, ℕ, Bool, List}
use Rattle.lock_modes.specs.declared.mode.Mode.{Mode}
use Rattle.lock_modes.specs.Modes.{AreCompatible}
use Rattle.lock_modes.specs.Tokens.{bag_of_tokens}
use Rattle.lock_modes.specs.Limits.{IsLimit}

-- the held tokens, whether the bar is set, and the readers' limit
pub record TokensOut (K : Type 0) : Type 0 where
  pub tokens_out : List (K × Mode)
  pub bar : Bool
  pub readers : ℕ

-- the held tokens are compatible, and there are as many places as readers
pub record IsLegalState {K : Type 0} (tokens : List (K × Mode)) (capacity readers : ℕ) : Type 0 where
  pub compatible : AreCompatible readers (bag_of_tokens tokens)
  pub as_many : capacity ≡ readers
  pub lawful : IsLimit readers
