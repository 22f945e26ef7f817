use Rattle.std.proofs.Common.{◌≡◌}
use Rattle.lock_word_tests.proofs.tests.threads.contend.Given as goal

-- the party stays of the lock
abbrev pub invariant-loop : goal.invariant-loop
invariant-loop l = l.party.lock ≡ l.fn.lock
