use Rattle.lock_one.proofs.Turn.{readers_get_a_turn}
use Rattle.lock_one.proofs.laws.readers_get_a_turn.Goals as goal

pub returns : goal.returns
returns c = readers_get_a_turn
