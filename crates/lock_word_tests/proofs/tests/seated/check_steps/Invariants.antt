use Rattle.std.proofs.Common.{◌≡◌}
use Rattle.lock_word_tests.proofs.tests.seated.check_steps.Given as goal

-- both parties stay of the lock
abbrev pub invariant-loop-row : goal.invariant-loop-row
invariant-loop-row l = (l.a.lock ≡ l.fn.lock) × (l.b.lock ≡ l.fn.lock)
