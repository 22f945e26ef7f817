use Rattle.lock_word.proofs.Sound.{every_interleaving}
use Rattle.lock_word.proofs.laws.every_interleaving.Goals as goal

pub returns : goal.returns
returns c = every_interleaving
