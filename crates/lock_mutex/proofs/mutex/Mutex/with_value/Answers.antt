use Rattle.std.proofs.Common.{refl}
use Rattle.lock_mutex.proofs.mutex.Mutex.with_value.Goals as goal

pub returns : goal.returns
returns g c = (c.deref.result.now, (c.deref.result, c.f.ensures, refl))
