-- Each of the programs so far keeps the order.
use Rattle.std.proofs.Common.{◌≡◌, ℕ, ◌<◌, [], true, get_or, map}
use Rattle.lock_plan_order.specs.LockOrders.{held_in, rank_in}
use Rattle.lock_plan_laws.specs.OrderChecks.{keeps_from}
use Rattle.lock_plan_order.proofs.lock_ranks.are_kept.Given as goal

abbrev pub invariant-loop-party : goal.invariant-loop-party
invariant-loop-party g l = (party : ℕ) → party < l.party
    → keeps_from (rank_in l.order) (get_or (map (λ v. v.items) l.programs) party []) 0 (get_or (map held_in l.known) party []) ≡ true
