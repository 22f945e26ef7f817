use Rattle.std.proofs.Common.{◌≡◌, ◌∙◌, ℕ, List, [], true, ap₂, arith, get_or, map, sym}
use Rattle.std.proofs.lemmas.List.{length-map}
use Rattle.lock_plan.specs.declared.program.ProgramPlace.{ProgramPlace}
use Rattle.lock_plan.specs.Known.{Known}
use Rattle.lock_plan_order.specs.LockOrders.{held_in, rank_in}
use Rattle.lock_plan_laws.specs.OrderChecks.{keeps_from}
use Rattle.lock_plan_order.proofs.LockOrders.{one_more}
use Rattle.lock_plan_order.proofs.lock_ranks.are_kept.Goals as goal

pub loop-party-preserved : goal.loop-party-preserved
loop-party-preserved g c =
    let rank = rank_in c.args.order.now in
    let same = ap₂ (λ (program : List ProgramPlace) (held : Known). keeps_from rank program 0 held) c.program_of.ensures c.held_of.ensures in
    one_more
    (λ (p : ℕ). keeps_from rank (get_or (map (λ v. v.items) c.args.programs.now) p []) 0 (get_or (map held_in c.args.known.now) p []) ≡ true)
    c.loop-party.party c.loop-party.invariant (sym same ∙ c.keeps_from.ensures c.if-not-keeps_from.false)

pub returns : goal.returns
returns g c = λ yes party lt.
    c.loop-party.invariant party
    (omega (arith, lt, length-map c.args.programs.now (λ v. v.items), c.loop-party-test.false, c.loop-party.auto.party-end))
