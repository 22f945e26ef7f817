use Rattle.std.proofs.Common.{rules}
use Rattle.lock_wake.proofs.EventKeeps.{begins_to_wait}
use Rattle.lock_wake.proofs.sleepers.event_count.EventCount.begin_wait.Goals as goal

pub load_new_seat-found-requires : goal.load_new_seat-found-requires
load_new_seat-found-requires c = (search rules, begins_to_wait _)
