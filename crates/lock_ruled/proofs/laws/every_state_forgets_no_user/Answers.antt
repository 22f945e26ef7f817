use Rattle.lock_ruled.proofs.Keeps.{every_state_forgets_no_user}
use Rattle.lock_ruled.proofs.laws.every_state_forgets_no_user.Goals as goal

pub returns : goal.returns
returns g c = every_state_forgets_no_user g.P.MutexRule.rule
