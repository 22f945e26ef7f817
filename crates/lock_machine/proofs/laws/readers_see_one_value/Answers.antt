use Rattle.lock_machine.proofs.Written.{readers_see}
use Rattle.lock_machine.proofs.laws.readers_see_one_value.Goals as goal

pub returns : goal.returns
returns g c = readers_see g.O.Op.meaning
