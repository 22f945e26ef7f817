use Rattle.std.proofs.Common.{◌≡◌, length, max}
use Rattle.lock_plan_order.specs.LockOrders.{most_reads}
use Rattle.lock_plan_order.proofs.lenient.most_reads.Given as goal

abbrev pub invariant-loop-here : goal.invariant-loop-here
invariant-loop-here l = max l.most (most_reads l.lock l.rest) ≡ most_reads l.lock l.fn.held

abbrev pub decreases-loop-here : goal.decreases-loop-here
decreases-loop-here l = length l.rest
