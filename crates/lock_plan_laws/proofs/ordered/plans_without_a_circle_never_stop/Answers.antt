use Rattle.lock_plan_laws.proofs.WaitRanks.{never_deadlock, machines_never_stop}
use Rattle.lock_plan_laws.proofs.ordered.plans_without_a_circle_never_stop.Goals as goal

pub returns : goal.returns
returns g c = record {
  worlds = never_deadlock;
  machines = machines_never_stop g.O.Op.meaning;
}
