use Rattle.std.proofs.Common.{◌≡◌, ◌∙◌, ◌++◌, ◌∷◌, [], List, Option, Some, None, ap, append-nil, sym}
use Rattle.std.proofs.lemmas.List.{get_or_default}
use Rattle.lock_modes.specs.declared.hold.Hold.{Hold}
use Rattle.lock_plan.specs.declared.program.Act.{Act}
use Rattle.lock_plan.specs.Worlds.{act_in}
use Rattle.lock_plan_order.specs.declared.wait_place.WaitPlace.{WaitPlace}
use Rattle.lock_plan_order.specs.WaitChecks.{wait_at, wait_in}
use Rattle.lock_plan_order.proofs.WaitLists.{one_more_place}
use Rattle.lock_plan_order.proofs.wait_ranks.add_waits.Goals.{in-Some+in_ok-push, in_default}
use Rattle.lock_plan_order.proofs.wait_ranks.add_waits.Goals as goal

pub loop-place-preserved : goal.loop-place-preserved
loop-place-preserved c =
    let n = c.loop-place.place in
    let before = c.args.waits.now.items in
    let there = wait_in c.args.number c.args.program.now c.args.known.now in
    let holds : Option (List Hold) = c.index-known-place.result in
    let held = get_or_default c.args.known.now n None holds c.loop-place-test.true ∙ sym c.index-known-place.is in
    let is : there n ≡ c.at.result =
    ap (wait_at c.args.number n (act_in c.args.program.now n)) held ∙ ap (λ (here : Option Act). wait_at c.args.number n here holds) (sym c.act_in.ensures)
    ∙ sym c.at.ensures in
    elim c.match-at.branch [
      | in-Some+in_ok-push w ↦
          ap (λ v. v.items) w.waits-is ∙ w.in_ok-push.ensures.items
          ∙ ap (λ (xs : List WaitPlace). xs ++ w.in-Some.wait ∷ []) c.loop-place.invariant
          ∙ one_more_place before there n (Some w.in-Some.wait) (is ∙ w.in-Some.is)
      | in_default w ↦
          ap (λ v. v.items) w.waits-is ∙ c.loop-place.invariant ∙ sym (append-nil _) ∙ one_more_place before there n None (is ∙ w.in_default.is)
    ]
