use Rattle.lock_plan_laws.proofs.NeverWaits.{go_on}
use Rattle.lock_plan_laws.proofs.never_waits.never_waiting_parties_go_on.Goals as goal

pub returns : goal.returns
returns c = go_on
