use Rattle.std.proofs.Common.{Ok, false, sym, subst}
use Rattle.lock_modes.specs.Party.{id_of}
use Rattle.lock_remutex.specs.OwnerCalls.{Again}
use Rattle.lock_remutex.proofs.owner_table.OwnerTable.again_large.Goals as goal

pub returns-in-Err-clause-did : goal.returns-in-Err-clause-did
returns-in-Err-clause-did g c =
    let saw = c.in-Err.ensures.saw in
    subst (Again c.args.self.now.key.limit (id_of c.args.party) (Ok false)) (sym saw.1) saw.2
