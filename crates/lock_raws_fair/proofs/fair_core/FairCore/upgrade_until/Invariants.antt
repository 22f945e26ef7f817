use Rattle.std.proofs.Common.{◌≡◌}
use Rattle.lock_raws_fair.proofs.fair_core.FairCore.upgrade_until.Given as goal

abbrev pub invariant-loop : goal.invariant-loop
invariant-loop g l =
    (goal.iterator-loop g).can_next l.iterator' × (goal.iterator-loop g).is_finite l.iterator' × (l.next.pending.token ≡ l.fn.token)
