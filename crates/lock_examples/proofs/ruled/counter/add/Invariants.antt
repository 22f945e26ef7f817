use Rattle.std.proofs.Common.{◌≡◌, ◌+◌}
use Rattle.lock_examples.proofs.ruled.counter.add.Given as goal

abbrev pub invariant-loop-done : goal.invariant-loop-done
invariant-loop-done g l = l.user ≡ record l.initial.user { view = l.initial.user.view + l.done }
