use Rattle.lock_machine.proofs.Outsiders.{new_is_held}
use Rattle.lock_machine.proofs.laws.new_guards_are_held.Goals as goal

pub returns : goal.returns
returns g c = new_is_held
