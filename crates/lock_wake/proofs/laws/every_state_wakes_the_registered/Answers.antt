use Rattle.lock_wake.proofs.EventKeeps.{every_state_wakes_the_registered}
use Rattle.lock_wake.proofs.laws.every_state_wakes_the_registered.Goals as goal

pub returns : goal.returns
returns c = every_state_wakes_the_registered
