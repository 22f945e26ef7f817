use Rattle.std.proofs.Common.{rules}
use Rattle.lock_ruled.proofs.Keeps.{takes_value}
use Rattle.lock_ruled.proofs.mutex.RuledMutex.try_acquire.Goals as goal

pub compare_exchange-requires : goal.compare_exchange-requires
compare_exchange-requires g c =
    (search rules, search rules, takes_value g.P.MutexRule.rule _ _ _ c.requires.idle.1 c.requires.idle.2)
