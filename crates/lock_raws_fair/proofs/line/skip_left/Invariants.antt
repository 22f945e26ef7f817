use Rattle.std.proofs.Common.{◌≡◌, ◌-◌, ◌≤◌, ℕ}
use Rattle.std.specs.Int.{bit_at}
use Rattle.lock_raws_fair.specs.Tickets.{staying}
use Rattle.lock_raws_fair.proofs.line.skip_left.Given as goal

abbrev pub invariant-loop-bits : goal.invariant-loop-bits
invariant-loop-bits l = record {
  within : l.first ≤ l.next;
  none_behind : (i : ℕ) → l.next - l.first ≤ i → bit_at l.bits i ≡ 0;
  same : staying (l.next - l.first) l.first l.bits ≡ staying (l.next - l.fn.head) l.fn.head l.fn.left;
}

abbrev pub decreases-loop-bits : goal.decreases-loop-bits
decreases-loop-bits l = l.bits
