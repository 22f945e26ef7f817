use Rattle.std.proofs.Common.{rules}
use Rattle.lock_remutex.proofs.Keeps.{looks}
use Rattle.lock_remutex.proofs.owner_table.OwnerTable.look.Goals as goal

pub load_new_seat-word-requires : goal.load_new_seat-word-requires
load_new_seat-word-requires g c = (search rules, looks g.P.TokenRule.fits _ _)
