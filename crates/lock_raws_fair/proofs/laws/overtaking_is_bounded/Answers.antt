use Rattle.lock_raws_fair.proofs.Overtaking.{overtaking_is_bounded_law}
use Rattle.lock_raws_fair.proofs.laws.overtaking_is_bounded.Goals as goal

pub returns : goal.returns
returns c = λ old new steps t. overtaking_is_bounded_law steps old new t
