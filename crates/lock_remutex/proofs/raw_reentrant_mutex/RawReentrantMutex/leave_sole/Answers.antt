use Rattle.std.proofs.Common.{rules}
use Rattle.lock_remutex.proofs.raw_reentrant_mutex.RawReentrantMutex.leave_sole.Goals as goal

pub returns-in-Ok-None-clause-several : goal.returns-in-Ok-None-clause-several
returns-in-Ok-None-clause-several g c = λ none. record { call = c.leave_sole-answer.result.1; on = search rules; several = search rules }
