use Rattle.std.proofs.Common.{◌∙◌, sym}
use Rattle.lock_plan.proofs.PlayedSteps.{plan_deadlock, stops_alone}
use Rattle.lock_plan.proofs.plan.Plan.ending.Goals as goal

pub returns-then-branch-2 : goal.returns-then-branch-2
returns-then-branch-2 c =
    let plan = c.args.self.now in
    let alone = sym c.in_ok-has_circle_at.ensures ∙ c.if-branch.false in
    (stops_alone plan c.args.node (plan_deadlock plan c.args.node ∙ sym c.in_ok-look.ensures.goal ∙ c.if-branch-2.true) alone, alone)

pub returns : goal.returns
returns c = plan_deadlock c.args.self.now c.args.node ∙ sym c.in_ok-look.ensures.goal ∙ c.if-branch-2.false
