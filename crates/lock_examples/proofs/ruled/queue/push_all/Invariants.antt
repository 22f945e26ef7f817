use Rattle.std.proofs.Common.{◌≡◌, take}
use Rattle.lock_api.specs.InOrder.{producer}
use Rattle.lock_examples.proofs.ruled.queue.push_all.Given as goal

abbrev pub invariant-loop-item : goal.invariant-loop-item
invariant-loop-item g l = l.client ≡ record l.initial.client { view = producer (take l.item-index l.all) }
