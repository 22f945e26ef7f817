use Rattle.std.proofs.Common.{◌≡◌}
use Rattle.lock_examples.proofs.ruled.lending.borrow_in_turns.Given as goal

abbrev pub invariant-loop : goal.invariant-loop
invariant-loop g l = l.user ≡ l.initial.user
