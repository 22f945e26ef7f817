use Rattle.std.proofs.Common.{rules, ap}
use Rattle.lock_ruled.specs.Ruled.{UserState}
use Rattle.lock_ruled.proofs.Keeps.{has_locked}
use Rattle.lock_ruled.proofs.mutex.RuledMutex.try_lock.Goals as goal

pub returns-then-try_acquire : goal.returns-then-try_acquire
returns-then-try_acquire g c =
    let view = ap (λ (u : UserState g.row.V.Denot). u.view) c.user.view_is in
    has_locked g.P.MutexRule.rule _ _ c.user.invariant (c.try_acquire.ensures.taken c.if-try_acquire.true) _ _ c.guard_of.ensures.value (search rules) view
