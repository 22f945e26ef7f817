use Rattle.lock_one.proofs.Answers.{answers_match_holds}
use Rattle.lock_one.proofs.laws.answers_match_holds.Goals as goal

pub returns : goal.returns
returns c = answers_match_holds
