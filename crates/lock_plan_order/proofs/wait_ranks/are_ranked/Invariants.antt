-- All waits are ranked if those that are left are.
use Rattle.std.proofs.Common.{◌≡◌, length, map}
use Rattle.std.specs.List.{list_all}
use Rattle.lock_plan_order.specs.WaitChecks.{is_below_all}
use Rattle.lock_plan_order.proofs.wait_ranks.are_ranked.Given as goal

abbrev pub invariant-loop-wait : goal.invariant-loop-wait
invariant-loop-wait g l = list_all (is_below_all l.setting (map (λ v. v.items) l.ranks) l.waits) l.rest
    ≡ list_all (is_below_all l.setting (map (λ v. v.items) l.ranks) l.waits) l.waits

abbrev pub decreases-loop-wait : goal.decreases-loop-wait
decreases-loop-wait g l = length l.rest
