use Rattle.std.proofs.Common.{◌∙◌, map, sym}
use Rattle.lock_plan_order.proofs.WaitOrders.{without_circle}
use Rattle.lock_plan_order.proofs.wait_ranks.has_no_circle.Goals as goal

pub returns : goal.returns
returns g c = λ yes.
    let programs = map (λ v. v.items) c.args.programs.now in
    without_circle c.args.setting programs (map (λ v. v.items) c.args.ranks.now) c.args.waits.now
    c.requires.known c.requires.strict
    c.requires.waits (sym c.fit_machines.ensures ∙ c.if-not-fit_machines.false) (c.are_covered.ensures c.if-not-are_covered.false) (c.are_ranked.ensures yes)
