use Rattle.lock_plan_laws.proofs.StillCircles.{circles_still, circles_are_sets}
use Rattle.lock_plan_laws.proofs.CircleRuns.{machines_still}
use Rattle.lock_plan_laws.proofs.circles.circles_never_move.Goals as goal

pub returns : goal.returns
returns g c = record { worlds = circles_still; machines = machines_still g.O.Op.meaning; sets = circles_are_sets }
