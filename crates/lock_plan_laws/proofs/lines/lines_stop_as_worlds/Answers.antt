use Rattle.lock_plan_laws.proofs.FairLines.{lines_stop_as_worlds}
use Rattle.lock_plan_laws.proofs.lines.lines_stop_as_worlds.Goals as goal

pub returns : goal.returns
returns c = lines_stop_as_worlds
