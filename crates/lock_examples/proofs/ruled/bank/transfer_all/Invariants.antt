use Rattle.std.proofs.Common.{◌≡◌}
use Rattle.lock_examples.proofs.ruled.bank.transfer_all.Given as goal

abbrev pub invariant-loop-amount : goal.invariant-loop-amount
invariant-loop-amount g l = l.teller ≡ l.initial.teller
