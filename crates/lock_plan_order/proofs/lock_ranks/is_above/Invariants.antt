-- The lock is above all that are held exactly if it is above those that are left.
use Rattle.std.proofs.Common.{◌≡◌, drop}
use Rattle.lock_plan_order.specs.LockOrders.{rank_in}
use Rattle.lock_plan_laws.specs.OrderChecks.{is_above}
use Rattle.lock_plan_order.proofs.lock_ranks.is_above.Given as goal

abbrev pub invariant-loop-held : goal.invariant-loop-held
invariant-loop-held l = is_above (rank_in l.order) l.lock l.held (drop l.held l.holds) ≡ is_above (rank_in l.order) l.lock 0 l.holds
