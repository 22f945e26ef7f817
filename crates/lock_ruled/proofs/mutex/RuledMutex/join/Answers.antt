use Rattle.std.proofs.Common.{rules}
use Rattle.lock_ruled.proofs.Keeps.{joins}
use Rattle.lock_ruled.proofs.mutex.RuledMutex.join.Goals as goal

pub join_seat-requires : goal.join_seat-requires
join_seat-requires g c = (
  search rules,
  search rules,
  c.other.invariant.0,
  search rules,
  joins g.P.MutexRule.rule _ _ _ _ g.M.Join.both g.M.Join.spent c.user.invariant.1 c.other.invariant.1
      c.user.invariant.2 c.other.invariant.2 (search rules),
)
