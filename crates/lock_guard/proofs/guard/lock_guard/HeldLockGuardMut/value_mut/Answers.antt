use Rattle.std.proofs.Common.{rules, refl}
use Rattle.lock_guard.specs.Held.{same_held}
use Rattle.lock_guard.proofs.guard.lock_guard.HeldLockGuardMut.value_mut.Goals as goal

pub returns : goal.returns
returns g c = ((refl, λ w. same_held _ _ _ _ _ _), record { writes_back = tt; value = search rules })
