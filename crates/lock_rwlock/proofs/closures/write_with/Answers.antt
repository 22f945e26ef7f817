use Rattle.std.proofs.Common.{refl}
use Rattle.lock_rwlock.proofs.closures.write_with.Goals as goal

pub returns : goal.returns
returns g c =
    (c.deref_mut.result.now, c.f.new.arg2, record { shown = c.deref_mut.result; shows = refl; left = _; met = c.f.ensures; leaves = refl })
