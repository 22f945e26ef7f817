use Rattle.lock_wake.proofs.EventKeeps.{at_start}
use Rattle.lock_wake.proofs.sleepers.event_count.EventCount.new.Goals as goal

pub of_words-requires : goal.of_words-requires
of_words-requires c = at_start
