use Rattle.lock_ranked.proofs.Moments.{some_holder_is_awake}
use Rattle.lock_ranked.proofs.laws.some_holder_is_awake.Goals as goal

pub returns : goal.returns
returns c = some_holder_is_awake
