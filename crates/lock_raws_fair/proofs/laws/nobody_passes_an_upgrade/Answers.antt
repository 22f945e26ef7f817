use Rattle.lock_raws_fair.proofs.Passing.{nobody_passes_law}
use Rattle.lock_raws_fair.proofs.laws.nobody_passes_an_upgrade.Goals as goal

pub returns : goal.returns
returns g c = λ old new steps. nobody_passes_law steps old new
