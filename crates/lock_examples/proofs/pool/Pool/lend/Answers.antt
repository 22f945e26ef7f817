use Rattle.std.proofs.Common.{rules, arith, ◌<◌, length}
use Rattle.lock_api.specs.ArcMutexGuard.{IsArcGuardOf}
use Rattle.lock_examples.specs.Pool.{objects_of}
use Rattle.lock_examples.proofs.Found.{of_any}
use Rattle.lock_examples.proofs.pool.Pool.lend.Goals as goal

pub returns-then-is_some-clause-object : goal.returns-then-is_some-clause-object
returns-then-is_some-clause-object g c =
    let within : c.loop-object.object-index < length (objects_of c.args.self.now) = omega (arith, c.deref-object-items.ensures) in
    of_any IsArcGuardOf _ _ c.loop-object.object-index c.object-item.result within (search rules) c.in_ok-lent.ensures.lock
