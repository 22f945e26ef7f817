use Rattle.lock_raws_monitor.proofs.monitor_wake.waiters.MonitorWaiters.wait.Goals as goal

pub returns : goal.returns
returns g c = (c.wait.result, c.wait.ensures.slept)
