use Rattle.std.proofs.Common.{rules, ◌∷◌, Some, sym, ap, ◌∙◌}
use Rattle.atomic_table.specs.Table.{rest}
use Rattle.lock_remutex.proofs.Keeps.{takes_levels}
use Rattle.lock_remutex.proofs.owner_table.OwnerTable.take.Goals as goal

pub compare_exchange-requires : goal.compare_exchange-requires
compare_exchange-requires g c = (search rules, search rules, takes_levels g.P.TokenRule.fits _ _ _ _ _ (search rules) c.requires.idle)

pub exchange-requires : goal.exchange-requires
exchange-requires g c =
    let took = c.compare_exchange.ensures.2.0 (search rules) in
    let has = ap (λ m. m.1) took.1 in
    (search rules, (Some took.0, has ∙ sym (λ i. (0, Some took.0) ∷ rest (has i))))
