use Rattle.lock_events.proofs.Mutexes.{waits_hand_over_the_mutex}
use Rattle.lock_events.proofs.laws.waits_hand_over_the_mutex.Goals as goal

pub returns : goal.returns
returns c = waits_hand_over_the_mutex
