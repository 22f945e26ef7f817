-- The node is one of the plan's.
use Rattle.std.proofs.Common.{◌<◌}
use Rattle.plan_answer.proofs.answer.run.Run.new.Given as goal

abbrev pub invariant-loop-step : goal.invariant-loop-step
invariant-loop-step l = record { within : l.node < l.source.plan.now.nodes }
