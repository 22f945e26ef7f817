use Rattle.std.proofs.Common.{false}
use denote.Param.Always.{always_mut}
use Rattle.lock_mutex.specs.ConditionLoop.{ConditionLoop}
use Rattle.lock_mutex.proofs.condition_loop.run_loop.Given as goal

-- a loop from here on is, with the checks up to here in front, a loop from the start
abbrev pub invariant-loop : goal.invariant-loop
invariant-loop g l =
    let loops = ConditionLoop g.F.FnMut g.W.Waits.current g.W.Waits.with_current g.W.Waits.wait_gives in
    (goal.iterator-loop g).can_next l.iterator' ×
    (goal.iterator-loop g).is_finite l.iterator' ×
    (always_mut g.F.FnMut l.initial.condition → always_mut g.F.FnMut l.condition) ×
    ((end : _) (after : _) → loops l.timed_out l.condition l.waits end after → loops false l.initial.condition l.initial.waits end after)
