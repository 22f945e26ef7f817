use Rattle.std.proofs.Common.{refl, rules}
use Rattle.lock_remutex.proofs.owner_table.call.level.Level.keep.Goals as goal

pub returns-clause-kept : goal.returns-clause-kept
returns-clause-kept g c = (record { call = c.args.self.call; on = refl; gained = search rules }, refl)
