-- Which waiters of a fair lock a wake notifies.
use Rattle.std.specs.Prelude.{◌≡◌, ◌%◌, true, is_some, IfSome, slice_index_or}
use Rattle.lock_raws_fair.specs.declared.waiters.FairWaiters.{FairWaiters}
use Rattle.lock_raws_fair.specs.declared.fair_wake.FairWake.{FairWake}
use Rattle.lock_raws_fair.specs.declared.fair_wake.FairNotified.{FairNotified}

-- each waiter that is to be woken is notified where it sleeps, with all that sleep there, and no other
pub record NotifiesEach (woken : FairWake) (waiters : FairWaiters) (notified : FairNotified) : Type 0 where
  pub ticket : is_some notified.ticket ≡ is_some woken.ticket
  pub there : IfSome woken.ticket (λ number.
      IfSome notified.ticket (λ n. (n.events ≡ slice_index_or waiters.tickets (number % 8) n.events) × (n.all ≡ true)))
  pub upgrade : is_some notified.upgrade ≡ woken.upgrade
  pub upgrader : IfSome notified.upgrade (λ n. (n.events ≡ waiters.upgrader) × (n.all ≡ true))
  pub ticketless : is_some notified.ticketless ≡ woken.ticketless
  pub others : IfSome notified.ticketless (λ n. (n.events ≡ waiters.ticketless) × (n.all ≡ true))
