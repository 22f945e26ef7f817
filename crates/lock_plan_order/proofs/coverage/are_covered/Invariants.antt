-- An order covers each of the programs so far.
use Rattle.std.proofs.Common.{◌≡◌, ℕ, ◌<◌, [], true, get_or, map}
use Rattle.lock_plan_laws.specs.OrderChecks.{covers_from}
use Rattle.lock_plan_order.specs.LockOrders.{held_in}
use Rattle.lock_plan_order.proofs.coverage.are_covered.Given as goal

abbrev pub invariant-loop-program : goal.invariant-loop-program
invariant-loop-program l = (program : ℕ) → program < l.program
    → covers_from (get_or (map (λ v. v.items) l.programs) program []) 0 (get_or (map held_in l.known) program []) ≡ true
