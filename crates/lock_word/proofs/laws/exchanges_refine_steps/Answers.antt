use Rattle.lock_word.proofs.Words.{exchanges_refine_steps}
use Rattle.lock_word.proofs.laws.exchanges_refine_steps.Goals as goal

pub returns : goal.returns
returns c = exchanges_refine_steps
