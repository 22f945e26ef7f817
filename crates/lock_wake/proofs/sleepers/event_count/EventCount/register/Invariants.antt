use Rattle.std.specs.Prelude.{◌≡◌, true}
use Rattle.lock_wake.specs.EventPlays.{is_arriving}
use Rattle.lock_wake.proofs.sleepers.event_count.EventCount.register.Given as goal

abbrev pub invariant-loop : goal.invariant-loop
invariant-loop g l = (l.call.events ≡ l.initial.self) × (is_arriving l.call.call.stage ≡ true)
