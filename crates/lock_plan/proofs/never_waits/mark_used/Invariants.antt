use Rattle.std.proofs.Common.{◌≡◌, ℕ, ◌<◌, ◌||◌, false, get_or, length}
use Rattle.lock_plan.specs.NeverWaits.{uses}
use Rattle.lock_plan.proofs.never_waits.mark_used.Given as goal

abbrev pub invariant-loop-place : goal.invariant-loop-place
invariant-loop-place l = record {
  long : length l.used.items ≡ length l.fn.used.items;
  marks : (lock : ℕ) → lock < length l.fn.used.items
      → (get_or l.used.items lock false || uses lock l.rest) ≡ (get_or l.fn.used.items lock false || uses lock l.fn.program);
}

abbrev pub decreases-loop-place : goal.decreases-loop-place
decreases-loop-place l = length l.rest
