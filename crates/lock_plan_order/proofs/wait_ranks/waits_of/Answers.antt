use Rattle.std.proofs.Common.{◌∙◌, ◌++◌, List, ap₂, map, sym}
use Rattle.lock_plan.specs.declared.program.ProgramPlace.{ProgramPlace}
use Rattle.lock_plan.specs.Known.{Known}
use Rattle.lock_plan_order.specs.declared.wait_place.WaitPlace.{WaitPlace}
use Rattle.lock_plan_order.specs.LockOrders.{held_in}
use Rattle.lock_plan_order.specs.WaitChecks.{numbered_waits, waits_in}
use Rattle.lock_plan_order.proofs.WaitLists.{one_more_program}
use Rattle.lock_plan_order.proofs.wait_ranks.waits_of.Goals as goal

pub loop-number-preserved : goal.loop-number-preserved
loop-number-preserved c =
    let n = c.loop-number.number in
    let waits_by = numbered_waits (map (λ v. v.items) c.args.programs.now) (map held_in c.args.known.now) in
    let same = ap₂ (λ (program : List ProgramPlace) (held : Known). waits_in n program held) c.program_of.ensures c.held_of.ensures in
    c.in_ok-add_waits.ensures ∙ ap₂ (λ (xs ys : List WaitPlace). xs ++ ys) c.loop-number.invariant same ∙ sym (one_more_program waits_by n)
