use Rattle.lock_one.proofs.Answers.{first_steps}
use Rattle.lock_one.proofs.laws.first_steps.Goals as goal

pub returns : goal.returns
returns c = first_steps
