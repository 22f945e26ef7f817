use Rattle.std.proofs.Common.{rules}
use Rattle.lock_ruled.proofs.Keeps.{starts, begins}
use Rattle.lock_ruled.proofs.mutex.RuledMutex.new.Goals as goal

pub vacant-requires : goal.vacant-requires
vacant-requires g c = starts g.P.MutexRule.rule _ _ c.requires

pub load-requires : goal.load-requires
load-requires g c = (search rules, search rules, begins g.P.MutexRule.rule _ _ _ c.args.value (search rules) (search rules))
