use Rattle.std.proofs.Common.{subst}
use Rattle.lock_machine.specs.Sound.{IsSound}
use Rattle.lock_desk.proofs.guards.Guards.sound.Goals as goal

pub returns : goal.returns
returns g c = subst IsSound c.self.view_is c.self.invariant.sound
