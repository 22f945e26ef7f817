use Rattle.std.proofs.Common.{rules}
use Rattle.lock_ruled.proofs.PermitKeeps.{enters}
use Rattle.lock_ruled.proofs.shared_semaphore.table.PermitTable.begin.Goals as goal

pub load_new_seat-free-requires : goal.load_new_seat-free-requires
load_new_seat-free-requires g c = (search rules, enters _ _)
