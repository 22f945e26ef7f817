use Rattle.lock_machine.proofs.Written.{only_writes}
use Rattle.lock_machine.proofs.laws.only_writes_change_value.Goals as goal

pub returns : goal.returns
returns g c = only_writes g.O.Op.meaning
