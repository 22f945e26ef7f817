-- When an acquisition or an upgrade of a fair lock may sleep, and on which event count.
use Rattle.std.specs.Prelude.{◌≡◌, ℕ, ◌+◌, ◌%◌, ◌-◌, ◌^◌, List, Bool, true, false, not, ◌&&◌, ◌||◌, nat_lt, Option, Some, None, is_some, IfSome, slice_index_or}
use Rattle.lock_modes.specs.declared.mode.Mode.{Mode}
use Rattle.lock_modes.specs.declared.mode.Mode.TheVariants.{Upgradable, Exclusive}
use Rattle.lock_modes.specs.Modes.{may_become}
use Rattle.lock_modes.specs.Tokens.{bag_of_tokens, IsOutAs}
use Rattle.lock_raws_fair.specs.declared.line.step.LineStep.TheVariants.{Arrive}
use Rattle.lock_raws_fair.specs.declared.line.TheConstants.{TIMED_SPAN}
use Rattle.lock_raws_fair.specs.declared.acquisition.Acquisition.{Acquisition}
use Rattle.lock_raws_fair.specs.declared.fair_arbiter.token.PendingUpgrade.{PendingUpgrade}
use Rattle.lock_raws_fair.specs.Tickets.{Line, Makes, span, may_leave}
use Rattle.lock_raws_fair.specs.FairState.{FairState, may_pass, may_enter}

-- whether an acquisition gets a ticket: not if all were issued, and a timed one only if the line spans less than `limit`
abbrev pub may_arrive : ℕ → Bool → Line → Bool
may_arrive limit is_timed line = (not is_timed || nat_lt (span line) limit) && nat_lt line.issued (2 ^ 64 - 1)

-- whether a timed acquisition may end without being admitted: its ticket may leave, if it has one
abbrev pub may_end : ℕ → Line → Option ℕ → Bool
may_end limit line None = true
may_end limit line (Some t) = may_leave limit line t

-- an acquisition without a ticket got one, if it may get one, by joining the line. One with a ticket kept it
pub record Joins (limit : ℕ) (old new : Line) (before after : Acquisition) : Type 0 where
  pub mode : after.mode ≡ before.mode
  pub timed : after.is_timed ≡ before.is_timed
  pub ticket : is_some after.ticket ≡ (is_some before.ticket || may_arrive limit before.is_timed old)
  pub same : is_some before.ticket ≡ true → (after ≡ before) × (new ≡ old)
  pub none : is_some after.ticket ≡ false → new ≡ old
  pub joined : is_some before.ticket ≡ false
      → IfSome after.ticket (λ t. (t ≡ old.issued) × Makes old Arrive new)

-- where an acquisition sleeps: at its ticket's place of these, or where the callers without a ticket sleep
abbrev pub events_of : {X : Type 0} → List X → X → Option ℕ → X
events_of tickets ticketless None = ticketless
events_of tickets ticketless (Some t) = slice_index_or tickets (t % 8) ticketless

module _ {K : Type 0} where
  -- whether the state admits an acquisition
  abbrev pub may_acquire : FairState K → Mode → Option ℕ → Bool
  may_acquire q mode None = may_pass q mode
  may_acquire q mode (Some t) = may_enter q t mode

  -- an acquisition may sleep if the state refuses it, and it has a ticket or can get none
  pub record MaySleep (q : FairState K) (a : Acquisition) : Type 0 where
    pub refused : may_acquire q a.mode a.ticket ≡ false
    pub in_line : is_some a.ticket ≡ false → may_arrive TIMED_SPAN a.is_timed q.line ≡ false

  -- an upgrade may sleep if one is announced, and the state refuses it
  pub record UpgradeMaySleep (q : FairState K) (pending : PendingUpgrade K) : Type 0 where
    pub announced : q.upgrade_waits ≡ true
    pub refused : IsOutAs q.tokens_out pending.token.token Upgradable
        → may_become (bag_of_tokens q.tokens_out) Exclusive ≡ false
