use Rattle.lock_raws_fair.proofs.Leaving.{timed_tickets_may_leave_law}
use Rattle.lock_raws_fair.proofs.laws.timed_tickets_may_leave.Goals as goal

pub returns : goal.returns
returns c = timed_tickets_may_leave_law 64
