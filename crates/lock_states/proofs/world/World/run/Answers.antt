use Rattle.std.proofs.Common.{◌≡◌, subst, arith}
use Rattle.std.proofs.lemmas.Grind.{common_steps}
use Rattle.lock_word.specs.Worlds.{world_after, IsReachable}
use Rattle.lock_word.proofs.Bars.{bar_of_reached}
use Rattle.lock_word.proofs.LastLoads.{are_refused_by_loads}
use Rattle.lock_word.proofs.Reached.{run_of_steps}
use Rattle.lock_word.proofs.Sound.{run_on_all}
use Rattle.lock_states.proofs.world.World.run.Goals as goal

pub returns-clause-by_parties : goal.returns-clause-by_parties
returns-clause-by_parties c =
    let h : IsReachable c.args.self.now = subst IsReachable c.self.view_is c.self.invariant in
    let after : c.loop-step.self ≡ world_after c.args.self.now c.args.steps.now = grind (arith, common_steps) in
    rw after (run_of_steps c.args.self.now c.args.steps.now h)

pub returns-clause-run : goal.returns-clause-run
returns-clause-run c =
    let h : IsReachable c.args.self.now = subst IsReachable c.self.view_is c.self.invariant in
    let after : c.loop-step.self ≡ world_after c.args.self.now c.args.steps.now = grind (arith, common_steps) in
    rw after (run_on_all c.args.self.now c.args.steps.now h)

pub returns-in_err-made-clause-bar : goal.returns-in_err-made-clause-bar
returns-in_err-made-clause-bar c = bar_of_reached c.args.self.now (subst IsReachable c.self.view_is c.self.invariant)

pub returns-clause-bar : goal.returns-clause-bar
returns-clause-bar c = bar_of_reached c.loop-step.self c.loop-step.invariant.reached

pub returns-clause-refuses : goal.returns-clause-refuses
returns-clause-refuses c =
    are_refused_by_loads c.args.self.now c.args.steps.now (subst IsReachable c.self.view_is c.self.invariant)
