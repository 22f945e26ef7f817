-- The state of a fair lock.
use Rattle.std.specs.Prelude.{◌≡◌, ℕ, Bool, ◌&&◌, not, List}
use Rattle.lock_modes.specs.declared.mode.Mode.{Mode}
use Rattle.lock_modes.specs.declared.bag.Bag.{Bag}
use Rattle.lock_modes.specs.Modes.{admits}
use Rattle.lock_modes.specs.Tokens.{bag_of_tokens}
use Rattle.lock_raws_fair.specs.Tickets.{Line, is_empty, is_first}

-- the held tokens, whether an upgrade waits, the readers' limit, and the tickets that wait
pub record FairState (K : Type 0) : Type 0 where
  pub tokens_out : List (K × Mode)
  pub upgrade_waits : Bool
  pub readers : ℕ
  pub line : Line

-- no upgrade waits, and the mode is admitted beside the held ones
abbrev pub fits : Bool → ℕ → Bag → Mode → Bool
fits upgrade_waits limit b mode = not upgrade_waits && admits limit b mode

module _ {K : Type 0} where
  -- a caller without a ticket is admitted if no ticket waits
  abbrev pub may_pass : FairState K → Mode → Bool
  may_pass q mode = is_empty q.line && fits q.upgrade_waits q.readers (bag_of_tokens q.tokens_out) mode

  -- a ticket is admitted if it is the first that waits
  abbrev pub may_enter : FairState K → ℕ → Mode → Bool
  may_enter q ticket mode =
      is_first q.line ticket && fits q.upgrade_waits q.readers (bag_of_tokens q.tokens_out) mode

  -- the same but for the line
  pub record KeepsTokens (old new : FairState K) : Type 0 where
    pub tokens_out : new.tokens_out ≡ old.tokens_out
    pub upgrade_waits : new.upgrade_waits ≡ old.upgrade_waits
    pub readers : new.readers ≡ old.readers

  -- the same but for the held tokens
  pub record KeepsLine (old new : FairState K) : Type 0 where
    pub upgrade_waits : new.upgrade_waits ≡ old.upgrade_waits
    pub readers : new.readers ≡ old.readers
    pub line : new.line ≡ old.line
