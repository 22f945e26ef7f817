use Rattle.std.proofs.Common.{rules, ap}
use Rattle.lock_ruled.specs.Ruled.{UserState}
use Rattle.lock_ruled.proofs.Keeps.{has_locked}
use Rattle.lock_ruled.proofs.mutex.RuledMutex.lock.Goals as goal

pub returns : goal.returns
returns g c =
    let view = ap (λ (u : UserState g.row.V.Denot). u.view) c.user.view_is in
    has_locked g.P.MutexRule.rule _ _ c.user.invariant c.acquire.ensures.taken _ _ c.guard_of.ensures.value (search rules) view
