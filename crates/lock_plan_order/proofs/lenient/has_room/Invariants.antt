use Rattle.std.proofs.Common.{◌≡◌, ℕ, ◌+◌, ◌<◌, [], drop, false, true, get_or, length, map, sum_by}
use Rattle.lock_plan_order.specs.LockOrders.{held_in, most_reads}
use Rattle.lock_plan_order.proofs.lenient.has_room.Given as goal

abbrev pub invariant-loop-held : goal.invariant-loop-held
invariant-loop-held l = record {
  at : l.rest ≡ drop l.program l.known;
  fits : sum_by (most_reads l.lock) (map held_in l.known) + l.left ≡ sum_by (most_reads l.lock) (map held_in l.rest) + l.room;
  alone : (program : ℕ) → program < l.program → get_or l.many program false ≡ true → most_reads l.lock (get_or (map held_in l.known) program []) ≡ 0;
}

abbrev pub decreases-loop-held : goal.decreases-loop-held
decreases-loop-held l = length l.rest
