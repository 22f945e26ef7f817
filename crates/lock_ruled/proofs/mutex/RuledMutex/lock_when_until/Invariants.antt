use Rattle.std.proofs.Common.{◌≡◌}
use Rattle.lock_ruled.proofs.mutex.RuledMutex.lock_when_until.Given as goal

abbrev pub invariant-loop : goal.invariant-loop
invariant-loop g l = l.user ≡ l.initial.user
