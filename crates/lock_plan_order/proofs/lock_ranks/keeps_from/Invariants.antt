-- All places keep the order exactly if those that are left do.
use Rattle.std.proofs.Common.{◌≡◌, drop}
use Rattle.lock_plan_order.specs.LockOrders.{rank_in}
use Rattle.lock_plan_laws.specs.OrderChecks.{keeps_from}
use Rattle.lock_plan_order.proofs.lock_ranks.keeps_from.Given as goal

abbrev pub invariant-loop-held : goal.invariant-loop-held
invariant-loop-held g l = record {
  at : l.place ≡ l.held-index;
  same : keeps_from (rank_in l.order) l.program l.place (drop l.held-index l.known)
      ≡ keeps_from (rank_in l.order) l.program 0 l.known;
}
