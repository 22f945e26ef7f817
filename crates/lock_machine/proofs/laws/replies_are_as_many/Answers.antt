use Rattle.lock_machine.proofs.ReplyCounts.{length-replies}
use Rattle.lock_machine.proofs.laws.replies_are_as_many.Goals as goal

pub returns : goal.returns
returns g c = length-replies g.O.Op.meaning
