use Rattle.std.proofs.Common.{rules}
use Rattle.lock_ruled.proofs.PermitKeeps.{gives}
use Rattle.lock_ruled.proofs.shared_semaphore.table.PermitTable.give_back.Goals as goal

pub fetch_add-requires : goal.fetch_add-requires
fetch_add-requires c = (search rules, search rules, gives _ _ _ _ _ (search rules))
