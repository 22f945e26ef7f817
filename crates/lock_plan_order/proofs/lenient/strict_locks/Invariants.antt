-- Each lock so far that is not marked is lenient.
use Rattle.std.proofs.Common.{◌≡◌, ℕ, ◌<◌, false, true, get_or, length, map}
use Rattle.lock_plan.specs.Worlds.{no_lock}
use Rattle.lock_plan_order.specs.LockOrders.{IsLenientAmong, held_in}
use Rattle.lock_plan_order.proofs.lenient.strict_locks.Given as goal

abbrev pub invariant-loop-number : goal.invariant-loop-number
invariant-loop-number g l = record {
  long : length l.strict.items ≡ l.number;
  lenient : (lock : ℕ) → lock < l.number → get_or l.strict.items lock true ≡ false → IsLenientAmong (get_or l.locks lock no_lock) l.many (map held_in l.known) lock;
}
