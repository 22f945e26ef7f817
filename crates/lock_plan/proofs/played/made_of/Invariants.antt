use Rattle.std.proofs.Common.{◌≡◌, ◌<◌, ◌≤◌, ◌-◌, length, take, Some}
use Rattle.lock_plan.specs.Stops.{programs_of, world_of}
use Rattle.lock_plan.specs.Worlds.{first_world, world_after}
use Rattle.lock_plan.proofs.played.made_of.Given as goal

abbrev pub invariant-loop-made : goal.invariant-loop-made
invariant-loop-made l = record {
  made : l.made ≤ length l.steps;
  node : l.node < l.plan.nodes;
  leads : world_after l.plan.locks.items (first_world l.plan.locks.items (programs_of l.plan)) (take l.made l.steps) ≡ Some (world_of l.plan l.node);
}

abbrev pub decreases-loop-made : goal.decreases-loop-made
decreases-loop-made l = length l.steps - l.made
