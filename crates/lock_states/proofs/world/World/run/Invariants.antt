-- What is done so far and what the rest will do is what all the steps do.
use Rattle.std.proofs.Common.{◌≡◌, ◌++◌, drop, length, vec_len, vec_capacity}
use Rattle.lock_word.specs.Worlds.{world_after, outcomes, IsReachable}
use Rattle.lock_states.proofs.world.World.run.Given as goal

abbrev pub invariant-loop-step : goal.invariant-loop-step
invariant-loop-step l = record {
  made : l.made.items ++ outcomes l.self (drop l.step-index l.steps) ≡ outcomes l.initial.self l.steps;
  after : world_after l.self (drop l.step-index l.steps) ≡ world_after l.initial.self l.steps;
  reached : IsReachable l.self;
  count : vec_len l.made ≡ l.step-index;
  room : vec_capacity l.made ≡ length l.steps;
}
