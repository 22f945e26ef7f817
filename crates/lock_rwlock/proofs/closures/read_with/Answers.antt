use Rattle.std.proofs.Common.{refl}
use Rattle.lock_rwlock.proofs.closures.read_with.Goals as goal

pub returns : goal.returns
returns g c = (c.deref.result.now, (c.deref.result, c.f.ensures, refl))
