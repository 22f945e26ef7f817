use Rattle.lock_machine.proofs.Outsiders.{exclusive_excludes, mutex_excludes}
use Rattle.lock_machine.proofs.laws.exclusive_guards_exclude.Goals as goal

pub returns : goal.returns
returns g c = record { exclusive = exclusive_excludes; mutex = mutex_excludes }
