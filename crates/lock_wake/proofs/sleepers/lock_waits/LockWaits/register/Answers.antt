use Rattle.std.proofs.Common.{rules}
use Rattle.lock_wake.proofs.sleepers.lock_waits.LockWaits.register.Goals as goal

pub returns-clause-kept : goal.returns-clause-kept
returns-clause-kept g c = (c.register_with.result, search rules, search rules, search rules)
