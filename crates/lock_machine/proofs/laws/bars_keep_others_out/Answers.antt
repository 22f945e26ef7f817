use Rattle.lock_machine.proofs.Barred.{bars_stand, keep_others_out}
use Rattle.lock_machine.proofs.laws.bars_keep_others_out.Goals as goal

pub returns : goal.returns
returns g c = record { stands = bars_stand g.O.Op.meaning; others = keep_others_out }
