use Rattle.std.proofs.Common.{sym, subst, rules}
use Rattle.lock_wake.specs.EventCalls.{HasKept}
use Rattle.lock_wake.proofs.sleepers.lock_waits.LockWaits.wait_for.Goals as goal

pub returns : goal.returns
returns g c =
    (subst (HasKept c.args.self.now c.args.held) (sym c.sleep_for.ensures.wait.1) c.register-registered.ensures.kept, search rules, search rules)
