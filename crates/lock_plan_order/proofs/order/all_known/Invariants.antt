-- What is known so far, and what is to be known of the programs that are left, is all.
use Rattle.std.proofs.Common.{◌≡◌, ◌++◌, Ok, length, map}
use Rattle.lock_plan.specs.Checks.{parties_fault}
use Rattle.lock_plan.specs.Known.{known_of}
use Rattle.lock_plan_order.specs.LockOrders.{held_in}
use Rattle.lock_plan_order.proofs.order.all_known.Given as goal

abbrev pub invariant-loop-program : goal.invariant-loop-program
invariant-loop-program l = record {
  told : map (λ held. Ok held) (map held_in l.known.items) ++ map (known_of l.locks) (map (λ v. v.items) l.rest)
      ≡ map (known_of l.locks) (map (λ v. v.items) l.programs);
  fault : parties_fault l.locks 0 (map (λ v. v.items) l.programs)
      ≡ parties_fault l.locks (length l.known.items) (map (λ v. v.items) l.rest);
}

abbrev pub decreases-loop-program : goal.decreases-loop-program
decreases-loop-program l = length l.rest
