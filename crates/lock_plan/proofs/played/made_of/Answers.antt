use Rattle.std.proofs.Common.{◌∙◌, ◌<◌, ℕ, Option, ap, subst, arith}
use Rattle.std.specs.Prelude.{IfSome}
use Rattle.std.proofs.lemmas.Option.{slice_get-get_or}
use Rattle.lock_plan.specs.Stops.{programs_of, world_of, world_if_any}
use Rattle.lock_plan.specs.Worlds.{first_world}
use Rattle.lock_plan.proofs.PlayedSteps.{none_past, one_more}
use Rattle.lock_plan.proofs.played.made_of.Goals as goal

pub loop-made-preserved : goal.loop-made-preserved
loop-made-preserved c =
    let plan = c.args.plan.now in
    let inv = c.loop-made.invariant in
    let made = c.loop-made.made in
    let next = c.in_ok-next.ensures.world ∙ ap (world_if_any plan) c.in-Some.is in
    record {
      made = omega (arith, c.loop-made-test.true);
      node = subst (λ (o : Option ℕ). IfSome o (λ n. n < plan.nodes)) c.in-Some.is c.in_ok-next.ensures.within;
      leads = one_more plan.locks.items (first_world plan.locks.items (programs_of plan)) (world_of plan c.loop-made.node)
          (world_of plan c.in-Some.next) c.args.steps.now made _ inv.leads (slice_get-get_or c.args.steps.now made _ c.loop-made-test.true) next;
    }

pub returns-clause-made : goal.returns-clause-made
returns-clause-made c = record {
  within = c.loop-made.invariant.made;
  leads = c.loop-made.invariant.leads;
  last = λ step e. absurd (none_past c.args.steps.now c.loop-made.made step (omega (arith, c.loop-made-test.false)) e);
}
