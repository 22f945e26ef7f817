use Rattle.lock_one.proofs.Refusals.{refusals_have_causes}
use Rattle.lock_one.proofs.laws.refusals_have_causes.Goals as goal

pub returns : goal.returns
returns c = refusals_have_causes
