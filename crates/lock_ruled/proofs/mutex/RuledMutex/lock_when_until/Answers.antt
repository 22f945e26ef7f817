use Rattle.std.proofs.Common.{inr}
use Rattle.std.proofs.lemmas.Fn.{says_at}
use Rattle.lock_ruled.proofs.mutex.RuledMutex.lock_when_until.Goals as goal

pub returns-in-Err-clause-unmet : goal.returns-in-Err-clause-unmet
returns-in-Err-clause-unmet g c = inr (_, says_at g.F.Fn c.condition.ensures c.if-condition.false)
