use Rattle.std.proofs.Common.{◌∙◌, ℕ, Option, ap, rules, tests}
use Rattle.std.specs.Prelude.{◌==◌}
use Rattle.std.specs.Option.{unwrap_or}
use Rattle.std.proofs.lemmas.Iterator.{YieldsList-from_slice}
use Rattle.std.proofs.lemmas.Iterator.Search.{position_from_yields_List}
use Rattle.lock_plan_order.proofs.lock_ranks.rank_in.Goals as goal

pub returns : goal.returns
returns c =
    let found = position_from_yields_List (λ (other : ℕ). other == c.args.lock) _ _ c.position.result c.position.ensures.ran
    (YieldsList-from_slice c.args.order.now cc) (λ x b q k. search (rules, tests)) in
    c.unwrap_or.ensures ∙ ap (λ (o : Option ℕ). unwrap_or o 0) found
