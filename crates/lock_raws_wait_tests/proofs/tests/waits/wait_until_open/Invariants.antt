use Rattle.std.proofs.Common.{◌≡◌, true}
use Rattle.lock_raws_wait_tests.proofs.tests.waits.wait_until_open.Given as goal

-- the token is one of the mutex
abbrev pub invariant-loop : goal.invariant-loop
invariant-loop g l =
    (goal.iterator-loop g).can_next l.iterator' ×
    (goal.iterator-loop g).is_finite l.iterator' ×
    (g.R.RawMutex.is_own l.raw l.token ≡ true)
