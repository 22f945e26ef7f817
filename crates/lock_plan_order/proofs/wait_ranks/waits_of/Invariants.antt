-- The waits of the programs so far.
use Rattle.std.proofs.Common.{◌≡◌, map}
use Rattle.std.specs.List.{flat_map, range_with_len}
use Rattle.lock_plan_order.specs.LockOrders.{held_in}
use Rattle.lock_plan_order.specs.WaitChecks.{numbered_waits}
use Rattle.lock_plan_order.proofs.wait_ranks.waits_of.Given as goal

abbrev pub invariant-loop-number : goal.invariant-loop-number
invariant-loop-number l =
    l.waits.items ≡ flat_map (numbered_waits (map (λ v. v.items) l.programs) (map held_in l.known)) (range_with_len 0 l.number)
