use Rattle.std.proofs.Common.{refl, sym, subst}
use Rattle.lock_modes.specs.Party.{id_of}
use Rattle.lock_modes.specs.declared.fault.Fault.TheVariants.{Foreign}
use Rattle.lock_remutex.specs.OwnerCalls.{IsStranger}
use Rattle.lock_remutex.proofs.owner_table.OwnerTable.leave_large.Goals as goal

pub returns-in-Err-clause-did : goal.returns-in-Err-clause-did
returns-in-Err-clause-did g c =
    let saw = c.in-Err.ensures.saw in
    subst (IsStranger (id_of c.args.party) Foreign) (sym saw.1) (refl, saw.2)
