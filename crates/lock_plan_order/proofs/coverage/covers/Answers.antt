use Rattle.std.proofs.Common.{◌∙◌, ap, sym}
use Rattle.lock_plan_laws.specs.OrderChecks.{covers}
use Rattle.lock_plan_order.proofs.coverage.covers.Goals as goal

pub returns-in-Some : goal.returns-in-Some
returns-in-Some c = c.covers_act.ensures c.args.holds.now ∙ ap (covers c.args.holds.now) (sym c.in-Some.is)
