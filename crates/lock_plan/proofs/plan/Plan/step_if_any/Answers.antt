use Rattle.std.proofs.Common.{arith}
use Rattle.lock_plan.proofs.PlayedSteps.{no_party}
use Rattle.lock_plan.proofs.plan.Plan.step_if_any.Goals as goal

pub returns-then-step-parties-clause-world : goal.returns-then-step-parties-clause-world
returns-then-step-parties-clause-world c =
    no_party c.args.self.now c.args.node c.args.step (omega (arith, c.parties.ensures, c.if-step-parties.true))
