use Rattle.std.proofs.Common.{◌≡◌}
use Rattle.std.specs.Prelude.{is_some}
use Rattle.lock_raws_fair.proofs.fair_core.FairCore.wait.Given as goal

abbrev pub invariant-loop : goal.invariant-loop
invariant-loop g l =
    (goal.iterator-loop g).can_next l.iterator' × (goal.iterator-loop g).is_finite l.iterator'
    × (l.next.mode ≡ l.fn.acquisition.mode) × (l.next.is_timed ≡ l.fn.acquisition.is_timed)
