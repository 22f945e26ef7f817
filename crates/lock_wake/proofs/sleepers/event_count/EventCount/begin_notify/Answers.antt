use Rattle.std.proofs.Common.{rules, true, false}
use Rattle.lock_wake.proofs.EventKeeps.{begins_to_notify}
use Rattle.lock_wake.proofs.sleepers.event_count.EventCount.begin_notify.Goals as goal

pub load_new_seat-requires : goal.load_new_seat-requires
load_new_seat-requires c = (search rules, begins_to_notify true _)

pub load_new_seat-requires-else-all : goal.load_new_seat-requires-else-all
load_new_seat-requires-else-all c = (search rules, begins_to_notify false _)
