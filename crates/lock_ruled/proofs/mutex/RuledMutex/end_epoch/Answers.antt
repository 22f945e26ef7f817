use Rattle.std.proofs.Common.{rules, refl}
use Rattle.lock_ruled.proofs.Keeps.{notes_epoch, ends_epoch}
use Rattle.lock_ruled.proofs.mutex.RuledMutex.end_epoch.Goals as goal

pub load-epoch-requires : goal.load-epoch-requires
load-epoch-requires g c = (search rules, search rules, notes_epoch g.P.MutexRule.rule _ _ _ c.requires.owes)

pub compare_exchange-requires : goal.compare_exchange-requires
compare_exchange-requires g c = (search rules, search rules, ends_epoch g.P.MutexRule.rule _ _ _ _ _ (search rules) refl)
