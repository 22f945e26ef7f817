use Rattle.lock_machine.proofs.ParkedGuards.{parked_is_resumed, fairly_parked_is_resumed}
use Rattle.lock_machine.proofs.laws.parked_is_resumed.Goals as goal

pub returns : goal.returns
returns g c = record { plain = parked_is_resumed g.O.Op.meaning; fair = fairly_parked_is_resumed g.O.Op.meaning }
