use Rattle.std.proofs.Common.{◌≡◌}
use Rattle.lock_ruled.specs.PermitCalls.{IsSameCall}
use Rattle.lock_ruled.proofs.shared_semaphore.SharedSemaphore.attempt.Given as goal

abbrev pub invariant-loop : goal.invariant-loop
invariant-loop g l = IsSameCall l.initial.call l.call × (l.call.own ≡ 0)
