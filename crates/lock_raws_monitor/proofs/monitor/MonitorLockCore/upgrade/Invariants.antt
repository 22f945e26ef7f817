use Rattle.std.proofs.Common.{◌≡◌}
use Rattle.lock_raws_monitor.proofs.monitor.MonitorLockCore.upgrade.Given as goal

abbrev pub invariant-loop : goal.invariant-loop
invariant-loop g l = l.token ≡ l.initial.token
