use Rattle.lock_one.proofs.Stored.{storing_keeps_words}
use Rattle.lock_one.proofs.laws.storing_keeps_words.Goals as goal

pub returns : goal.returns
returns c = storing_keeps_words
