use Rattle.std.proofs.Common.{rules, sym, subst}
use Rattle.lock_remutex.specs.OwnerTables.{TableView, IsAtHome}
use Rattle.lock_remutex.proofs.Keeps.{puts}
use Rattle.lock_remutex.proofs.owner_table.OwnerTable.put.Goals as goal

pub swap-requires : goal.swap-requires
swap-requires g c =
    let home = subst (λ (v : TableView g.row.K.Denot). IsAtHome (g.P.TokenRule.fits v.key.raw) v.key.limit c.args.word c.args.levels) (sym c.self.view_is) c.requires.home in
    (search rules, search rules, puts g.P.TokenRule.fits _ _ _ _ _ c.args.levels (search rules) home)
