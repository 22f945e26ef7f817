use Rattle.lock_one.proofs.Bars.{barred_calls_are_next}
use Rattle.lock_one.proofs.laws.barred_calls_are_next.Goals as goal

pub returns : goal.returns
returns c = barred_calls_are_next
