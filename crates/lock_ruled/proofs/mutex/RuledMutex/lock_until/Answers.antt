use Rattle.std.proofs.Common.{rules, ap}
use Rattle.lock_ruled.specs.Ruled.{UserState}
use Rattle.lock_ruled.proofs.Keeps.{has_locked}
use Rattle.lock_ruled.proofs.mutex.RuledMutex.lock_until.Goals as goal

pub returns-then-acquire_until : goal.returns-then-acquire_until
returns-then-acquire_until g c =
    let view = ap (λ (u : UserState g.row.V.Denot). u.view) c.user.view_is in
    record {
      locked = has_locked g.P.MutexRule.rule _ _ c.user.invariant (c.acquire_until.ensures.acquired.taken c.if-acquire_until.true) _ _
          c.guard_of.ensures.value (search rules) view;
      late = tt;
      held = tt;
    }
