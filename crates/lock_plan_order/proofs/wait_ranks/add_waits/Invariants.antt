-- The waits before, and those at the places so far.
use Rattle.std.proofs.Common.{◌≡◌, ◌++◌}
use Rattle.std.specs.List.{filter_map, range_with_len}
use Rattle.lock_plan_order.specs.WaitChecks.{wait_in}
use Rattle.lock_plan_order.proofs.wait_ranks.add_waits.Given as goal

abbrev pub invariant-loop-place : goal.invariant-loop-place
invariant-loop-place l =
    l.waits.items ≡ l.fn.waits.items
    ++ filter_map (wait_in l.number l.program l.known) (range_with_len 0 l.place)
