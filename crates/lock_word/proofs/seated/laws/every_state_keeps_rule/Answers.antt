use Rattle.lock_word.proofs.SeatKeeps.{every_state_keeps_rule}
use Rattle.lock_word.proofs.seated.laws.every_state_keeps_rule.Goals as goal

pub returns : goal.returns
returns c = every_state_keeps_rule
