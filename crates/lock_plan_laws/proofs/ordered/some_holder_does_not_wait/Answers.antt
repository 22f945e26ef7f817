use Rattle.lock_plan_laws.proofs.Holders.{some_holder}
use Rattle.lock_plan_laws.proofs.ordered.some_holder_does_not_wait.Goals as goal

pub returns : goal.returns
returns c = some_holder
