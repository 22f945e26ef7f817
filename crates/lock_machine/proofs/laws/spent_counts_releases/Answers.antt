use Rattle.lock_machine.proofs.Spending.{spent_counts}
use Rattle.lock_machine.proofs.laws.spent_counts_releases.Goals as goal

pub returns : goal.returns
returns g c = spent_counts g.O.Op.meaning
