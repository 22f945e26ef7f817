use Rattle.lock_word.proofs.Words.{subtractions_refine_steps}
use Rattle.lock_word.proofs.laws.subtractions_refine_steps.Goals as goal

pub returns : goal.returns
returns c = subtractions_refine_steps
