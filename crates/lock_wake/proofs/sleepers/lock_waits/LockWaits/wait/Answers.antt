use Rattle.std.proofs.Common.{sym, subst, rules}
use Rattle.lock_wake.specs.EventCalls.{HasKept}
use Rattle.lock_wake.proofs.sleepers.lock_waits.LockWaits.wait.Goals as goal

pub returns-clause-slept : goal.returns-clause-slept
returns-clause-slept g c =
    (subst (HasKept c.args.self.now c.args.held) (sym c.sleep.ensures.wait.1) c.register-registered.ensures.kept, search rules, search rules)
