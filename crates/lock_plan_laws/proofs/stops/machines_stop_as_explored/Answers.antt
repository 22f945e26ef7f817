use Rattle.std.proofs.Common.{ℕ, ◌≤◌, length, sum_by}
use Rattle.lock_plan.specs.Stops.{programs_of}
use Rattle.lock_plan_laws.specs.Bridge.{FitsMachines}
use Rattle.lock_plan_laws.proofs.Fits.{fits}
use Rattle.lock_plan_laws.proofs.MachineStops.{no_deadlocks, never, shortest}
use Rattle.lock_plan_laws.proofs.stops.machines_stop_as_explored.Goals as goal

pub returns : goal.returns
returns g c =
    let plan = c.args.plan.now in
    let fit : (room : ℕ) → sum_by length (programs_of plan) ≤ room → FitsMachines plan.locks.items (programs_of plan) room =
    λ room enough. fits plan.locks.items (programs_of plan) room plan.right c.requires enough in
    record {
      none = λ none.
          never g.O.Op.meaning plan.servers.items plan.locks.items (programs_of plan) fit
          (no_deadlocks plan.servers.items plan.locks.items (programs_of plan) none);
      stop = λ plain trace few stop.
          shortest g.O.Op.meaning plan.servers.items plan.locks.items (programs_of plan) fit plain trace few stop;
    }
