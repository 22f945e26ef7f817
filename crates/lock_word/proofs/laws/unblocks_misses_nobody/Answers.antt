use Rattle.lock_word.proofs.Unblocking.{unblocks_misses_nobody}
use Rattle.lock_word.proofs.laws.unblocks_misses_nobody.Goals as goal

pub returns : goal.returns
returns c = unblocks_misses_nobody
