use Rattle.std.proofs.Common.{rules}
use Rattle.lock_ruled.proofs.Keeps.{leaves}
use Rattle.lock_ruled.proofs.mutex.RuledMutex.leave.Goals as goal

pub load-requires : goal.load-requires
load-requires g c = (search rules, search rules, leaves g.P.MutexRule.rule _ _ _ _ c.requires.sleeps)
