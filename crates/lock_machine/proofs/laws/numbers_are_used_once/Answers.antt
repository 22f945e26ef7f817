use Rattle.lock_machine.proofs.GuardNumbers.{used_once, new_are_free}
use Rattle.lock_machine.proofs.Skips.{skip_forward}
use Rattle.lock_machine.proofs.laws.numbers_are_used_once.Goals as goal

pub returns : goal.returns
returns g c = record { rising = used_once g.O.Op.meaning; free = new_are_free g.O.Op.meaning; skips = skip_forward }
