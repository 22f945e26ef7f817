use Rattle.std.proofs.Common.{◌-◌, ◌<◌, ◌≤◌, ℕ, length}
use Rattle.lock_slots.specs.Rows.{number_at}
use Rattle.lock_slots.proofs.numbered_slots.halve.Given as goal

abbrev pub invariant-loop-low : goal.invariant-loop-low
invariant-loop-low g l = record {
  below : (k : ℕ) → k < l.low → number_at l.rows k < l.number;
  above : (k : ℕ) → l.high ≤ k → k < length l.rows → l.number < number_at l.rows k;
  within : l.high ≤ length l.rows;
  ordered : l.low ≤ l.high;
}

abbrev pub decreases-loop-low : goal.decreases-loop-low
decreases-loop-low g l = l.high - l.low
