use Rattle.lock_c.proofs.Storing.{storing_keeps_steps}
use Rattle.lock_c.proofs.laws.storing_keeps_steps.Goals as goal

pub returns : goal.returns
returns c = storing_keeps_steps
