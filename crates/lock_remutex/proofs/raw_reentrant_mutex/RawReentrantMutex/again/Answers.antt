use Rattle.std.proofs.Common.{rules}
use Rattle.lock_remutex.proofs.raw_reentrant_mutex.RawReentrantMutex.again.Goals as goal

pub returns-in-Ok-false-clause-other : goal.returns-in-Ok-false-clause-other
returns-in-Ok-false-clause-other g c = λ none. record { call = c.again-answer.result.1; on = search rules; other = search rules }
