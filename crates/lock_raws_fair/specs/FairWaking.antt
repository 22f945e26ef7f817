-- Which waiters a step of a fair lock wakes.
use Rattle.std.specs.Prelude.{◌≡◌, ℕ, Bool, true, false, not, ◌&&◌, ◌==◌, nat_lt, is_some, IfSome, IsTrue}
use Rattle.lock_modes.specs.declared.mode.Mode.{Mode}
use Rattle.lock_modes.specs.declared.bag.Bag.{Bag}
use Rattle.lock_modes.specs.Modes.{tokens}
use Rattle.lock_modes.specs.Tokens.{bag_of_tokens}
use Rattle.lock_word.specs.Unblocking.{occupancy, unblocks}
use Rattle.lock_raws_fair.specs.Tickets.{Line, is_empty, is_first, span}
use Rattle.lock_raws_fair.specs.declared.fair_wake.FairWake.{FairWake}
use Rattle.lock_raws_fair.specs.declared.line.TheConstants.{TIMED_SPAN}
use Rattle.lock_raws_fair.specs.FairState.{FairState, fits}

-- after a step of the line the first ticket is woken if no upgrade waits and no writer holds the lock
abbrev pub wakes_next : Bool → Bag → Bool
wakes_next upgrade_waits b = not upgrade_waits && (b.exclusive == 0)

-- after a release or a downgrade it is woken if no upgrade waits and some mode is unblocked
abbrev pub wakes_first : Bool → ℕ → Bag → Bag → Bool
wakes_first upgrade_waits limit before after =
    not upgrade_waits && unblocks limit (occupancy false before) (occupancy false after)

-- the first ticket is woken if it is to be woken, the upgrade likewise, and the callers without a ticket if one may get
-- a ticket
pub record Wakes (line : Line) (limit : ℕ) (wakes_ticket wakes_upgrade : Bool) (woken : FairWake) : Type 0 where
  pub ticket : is_some woken.ticket ≡ (wakes_ticket && not (is_empty line))
  pub first : IfSome woken.ticket (λ t. IsTrue (is_first line t))
  pub upgrade : woken.upgrade ≡ wakes_upgrade
  pub ticketless : woken.ticketless ≡ nat_lt (span line) limit

module _ {K : Type 0} where
  -- whom a step of the line or the end of an upgrade wakes
  abbrev pub WakesAfterLineStep : FairState K → FairWake → Type 0
  WakesAfterLineStep q woken =
      Wakes q.line TIMED_SPAN (wakes_next q.upgrade_waits (bag_of_tokens q.tokens_out)) false woken

  -- whom a release or a downgrade wakes
  abbrev pub WakesAfterTokenStep : FairState K → FairState K → FairWake → Type 0
  WakesAfterTokenStep old new woken =
      Wakes new.line TIMED_SPAN
      (wakes_first new.upgrade_waits new.readers (bag_of_tokens old.tokens_out) (bag_of_tokens new.tokens_out))
      (new.upgrade_waits && (tokens (bag_of_tokens new.tokens_out) == 1)) woken

-- a mode that is admitted after the step and was not before wakes the first
abbrev pub WakesMissNobody : Type 0
WakesMissNobody = (limit : ℕ) (before after : Bag) (mode : Mode)
    → fits false limit before mode ≡ false → fits false limit after mode ≡ true
    → wakes_first false limit before after ≡ true
