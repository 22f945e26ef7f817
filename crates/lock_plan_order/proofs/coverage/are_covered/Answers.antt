use Rattle.std.proofs.Common.{◌≡◌, ◌∙◌, ℕ, List, [], true, ap₂, arith, get_or, map, sym}
use Rattle.std.proofs.lemmas.List.{length-map}
use Rattle.lock_plan.specs.declared.program.ProgramPlace.{ProgramPlace}
use Rattle.lock_plan.specs.Known.{Known}
use Rattle.lock_plan_laws.specs.OrderChecks.{covers_from}
use Rattle.lock_plan_order.specs.LockOrders.{held_in}
use Rattle.lock_plan_order.proofs.LockOrders.{one_more}
use Rattle.lock_plan_order.proofs.coverage.are_covered.Goals as goal

pub loop-program-preserved : goal.loop-program-preserved
loop-program-preserved c =
    let same = ap₂ (λ (program : List ProgramPlace) (held : Known). covers_from program 0 held) c.program_of.ensures c.held_of.ensures in
    one_more
    (λ (p : ℕ). covers_from (get_or (map (λ v. v.items) c.args.programs.now) p []) 0 (get_or (map held_in c.args.known.now) p []) ≡ true)
    c.loop-program.program c.loop-program.invariant (sym same ∙ sym c.covers_from.ensures ∙ c.if-not-covers_from.false)

pub returns : goal.returns
returns c = λ yes program lt.
    c.loop-program.invariant program
    (omega (arith, lt, length-map c.args.programs.now (λ v. v.items), c.loop-program-test.false, c.loop-program.auto.program-end))
