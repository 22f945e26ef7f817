use Rattle.lock_events.proofs.Runs.{every_wait_is_reached}
use Rattle.lock_events.proofs.laws.every_wait_is_reached.Goals as goal

pub returns : goal.returns
returns c = every_wait_is_reached
