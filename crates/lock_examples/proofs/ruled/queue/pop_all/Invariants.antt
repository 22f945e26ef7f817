use Rattle.std.proofs.Common.{◌≡◌, vec_len, vec_capacity}
use Rattle.lock_api.specs.InOrder.{consumer}
use Rattle.lock_examples.proofs.ruled.queue.pop_all.Given as goal

abbrev pub invariant-loop : goal.invariant-loop
invariant-loop g l = (l.client ≡ record l.initial.client { view = consumer l.into.items }) × (vec_len l.into ≡ l.counter) × (vec_capacity l.into ≡ l.count)
