use Rattle.std.proofs.Common.{rules}
use Rattle.lock_ruled.proofs.PermitKeeps.{takes}
use Rattle.lock_ruled.proofs.shared_semaphore.table.PermitTable.take.Goals as goal

pub compare_exchange-found-requires : goal.compare_exchange-found-requires
compare_exchange-found-requires g c = (search rules, search rules, takes _ _ _ _ _ _ (search rules))
