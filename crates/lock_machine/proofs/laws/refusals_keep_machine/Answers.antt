use Rattle.lock_machine.proofs.KeptRefusals.{refusals_keep}
use Rattle.lock_machine.proofs.laws.refusals_keep_machine.Goals as goal

pub returns : goal.returns
returns g c = refusals_keep g.O.Op.meaning
