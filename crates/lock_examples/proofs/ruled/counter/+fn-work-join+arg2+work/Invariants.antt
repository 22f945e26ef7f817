use Rattle.std.proofs.Common.{◌*◌, ◌-◌}
use Rattle.lock_examples.proofs.ruled.counter.+fn-work-join+arg2+work.Given as goal

abbrev pub decreases-work : goal.decreases-work
decreases-work g l = 2 * l.threads

abbrev pub decreases-join+arg2 : goal.decreases-join+arg2
decreases-join+arg2 g l = 2 * l.threads - 1
