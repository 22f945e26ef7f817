use Rattle.std.proofs.Common.{◌∙◌, sym, map}
use Rattle.lock_plan_order.specs.LockOrders.{held_in}
use Rattle.lock_plan_order.proofs.LockOrders.{kept_is}
use Rattle.lock_plan_order.proofs.lock_ranks.is_kept.Goals as goal

pub returns : goal.returns
returns g c = λ yes.
    kept_is c.args.locks.now (map (λ v. v.items) c.args.programs.now) (map held_in c.args.known.now) c.requires c.args.order.now
    (c.are_kept.ensures yes) (sym c.fit_machines.ensures ∙ c.if-not-fit_machines.false) (sym c.none_reentrant.ensures ∙ c.if-not-none_reentrant.false)
