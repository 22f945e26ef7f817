use Rattle.lock_plan_laws.proofs.Runs.{runs_of_worlds, runs_of_machines, same_stops}
use Rattle.lock_plan_laws.proofs.bridge.worlds_are_runs_of_machines.Goals as goal

pub returns : goal.returns
returns g c = record { runs = runs_of_worlds g.O.Op.meaning; worlds = runs_of_machines g.O.Op.meaning; stops = same_stops g.O.Op.meaning }
