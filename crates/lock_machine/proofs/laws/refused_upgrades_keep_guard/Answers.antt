use Rattle.lock_machine.proofs.KeptRefusals.{upgrades_keep}
use Rattle.lock_machine.proofs.laws.refused_upgrades_keep_guard.Goals as goal

pub returns : goal.returns
returns g c = upgrades_keep g.O.Op.meaning
