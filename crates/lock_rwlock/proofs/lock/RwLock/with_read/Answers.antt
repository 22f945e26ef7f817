use Rattle.std.proofs.Common.{refl}
use Rattle.lock_rwlock.proofs.lock.RwLock.with_read.Goals as goal

pub returns : goal.returns
returns g c = (c.deref.result.now, (c.deref.result, c.f.ensures, refl))
