use Rattle.std.proofs.Common.{rules}
use Rattle.lock_ruled.proofs.PermitKeeps.{enters}
use Rattle.lock_ruled.proofs.shared_semaphore.table.PermitTable.free.Goals as goal

pub load_new_seat-requires : goal.load_new_seat-requires
load_new_seat-requires c = (search rules, enters _ _)
