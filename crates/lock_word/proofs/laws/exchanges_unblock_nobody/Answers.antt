use Rattle.lock_word.proofs.Unblocking.{exchanges_unblock_nobody}
use Rattle.lock_word.proofs.laws.exchanges_unblock_nobody.Goals as goal

pub returns : goal.returns
returns c = exchanges_unblock_nobody
