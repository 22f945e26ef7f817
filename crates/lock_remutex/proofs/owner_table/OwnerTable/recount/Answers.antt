use Rattle.std.proofs.Common.{rules, sym, subst}
use Rattle.lock_remutex.specs.OwnerTables.{TableView, IsWord}
use Rattle.lock_remutex.proofs.Keeps.{recounts}
use Rattle.lock_remutex.proofs.owner_table.OwnerTable.recount.Goals as goal

pub compare_exchange-requires : goal.compare_exchange-requires
compare_exchange-requires g c =
    let counted = subst (λ (v : TableView g.row.K.Denot). IsWord v.key.limit c.args.next) (sym c.self.view_is) c.requires.next in
    (search rules, search rules, recounts g.P.TokenRule.fits _ _ _ _ _ _ (search rules) c.requires.named.0 c.requires.named.1 counted)
