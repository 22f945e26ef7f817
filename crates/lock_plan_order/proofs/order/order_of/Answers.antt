use Rattle.std.proofs.Common.{map, subst}
use Rattle.lock_plan_order.specs.LockOrders.{IsKept}
use Rattle.lock_plan_order.proofs.order.order_of.Goals as goal

pub returns-then-is_kept : goal.returns-then-is_kept
returns-then-is_kept g c =
    subst (IsKept c.args.locks.now (map (λ v. v.items) c.args.programs.now)) c.as_slice-3.ensures.value (c.is_kept.ensures c.if-is_kept.true)
