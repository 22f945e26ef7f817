use Rattle.lock_raws_fair.proofs.Overtaking.{nobody_is_overtaken_law}
use Rattle.lock_raws_fair.proofs.laws.nobody_is_overtaken.Goals as goal

pub returns : goal.returns
returns c = nobody_is_overtaken_law
