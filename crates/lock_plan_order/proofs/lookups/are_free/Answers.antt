use Rattle.std.proofs.Common.{◌≡◌, ◌∙◌, ℕ, ◌==◌, not, Option, ap, sym}
use Rattle.std.specs.Prelude.{is_some}
use Rattle.std.specs.List.{list_all}
use Rattle.std.proofs.Math.Bool.{not-not}
use Rattle.lock_modes.specs.Modes.{tokens}
use Rattle.lock_plan_order.proofs.FirstHeld.{some_held}
use Rattle.lock_plan_order.proofs.lookups.are_free.Goals as goal

pub returns : goal.returns
returns c =
    let free = list_all (λ h. tokens h.bag == 0) c.args.holds.now in
    let none : not c.is_none.result ≡ not free =
    sym c.is_none.ensures ∙ ap (λ (o : Option ℕ). is_some o) c.first_held.ensures ∙ some_held c.args.holds.now 0 in
    sym (not-not c.is_none.result) ∙ ap not none ∙ not-not free
