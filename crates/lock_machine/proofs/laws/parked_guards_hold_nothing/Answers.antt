use Rattle.lock_machine.proofs.HeldParts.{parked_hold_nothing}
use Rattle.lock_machine.proofs.laws.parked_guards_hold_nothing.Goals as goal

pub returns : goal.returns
returns g c = parked_hold_nothing
