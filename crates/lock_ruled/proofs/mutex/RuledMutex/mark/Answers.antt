use Rattle.std.proofs.Common.{rules}
use Rattle.lock_ruled.proofs.Keeps.{watches_epoch, marks_awaited}
use Rattle.lock_ruled.proofs.mutex.RuledMutex.mark.Goals as goal

pub load-epoch-requires : goal.load-epoch-requires
load-epoch-requires g c = (search rules, search rules, watches_epoch g.P.MutexRule.rule _ _ _ c.requires.idle.1)

pub swap-requires : goal.swap-requires
swap-requires g c = (search rules, search rules, marks_awaited g.P.MutexRule.rule _ _ _ c.load-epoch.result (search rules) (search rules))
