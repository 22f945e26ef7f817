use Rattle.lock_plan_laws.proofs.RankedLocks.{never_deadlock, machines_never_stop}
use Rattle.lock_plan_laws.proofs.OrderChecks.{ordered_is}
use Rattle.lock_plan_laws.proofs.OrderExamples.{examples}
use Rattle.lock_plan_laws.proofs.ordered.ordered_plans_never_stop.Goals as goal

pub returns : goal.returns
returns g c = record {
  worlds = never_deadlock;
  machines = machines_never_stop g.O.Op.meaning;
  test = ordered_is;
  examples = examples;
}
