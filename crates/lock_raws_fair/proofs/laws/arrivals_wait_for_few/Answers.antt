use Rattle.lock_raws_fair.proofs.Overtaking.{arrivals_wait_for_few_law}
use Rattle.lock_raws_fair.proofs.laws.arrivals_wait_for_few.Goals as goal

pub returns : goal.returns
returns c = arrivals_wait_for_few_law
