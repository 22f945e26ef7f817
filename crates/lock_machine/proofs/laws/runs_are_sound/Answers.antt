use Rattle.lock_machine.proofs.RunsReached.{runs_sound, run_sound, runs_limits}
use Rattle.lock_machine.proofs.Skips.{skip_sound}
use Rattle.lock_machine.proofs.laws.runs_are_sound.Goals as goal

pub returns : goal.returns
returns g c = record { sound = runs_sound g.O.Op.meaning; kept = run_sound g.O.Op.meaning; limits = runs_limits g.O.Op.meaning; skips = skip_sound }
