use Rattle.lock_one_word.proofs.Seats.{every_state_is_legal}
use Rattle.lock_one_word.proofs.laws.every_state_is_legal.Goals as goal

pub returns : goal.returns
returns c = every_state_is_legal
