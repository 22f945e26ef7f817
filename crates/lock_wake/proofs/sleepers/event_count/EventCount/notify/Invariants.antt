use Rattle.std.specs.Prelude.{◌≡◌}
use Rattle.lock_wake.specs.EventPlays.{NotifiesAs, lost_left}
use Rattle.lock_wake.proofs.sleepers.event_count.EventCount.notify.Given as goal

abbrev pub invariant-loop-old : goal.invariant-loop-old
invariant-loop-old l = (l.call.events ≡ l.initial.self) × NotifiesAs l.all l.call.call

abbrev pub decreases-loop-old : goal.decreases-loop-old
decreases-loop-old l = lost_left l.call.call
