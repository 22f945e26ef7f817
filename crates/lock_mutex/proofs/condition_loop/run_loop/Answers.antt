use denote.Param.Always.{mut_next}
use Rattle.std.proofs.Common.{refl}
use Rattle.lock_mutex.proofs.Loops.{was_false, was_timed_out, ran_out, one_more}
use Rattle.lock_mutex.proofs.condition_loop.run_loop.Goals as goal

pub returns-then-not-condition : goal.returns-then-not-condition
returns-then-not-condition g c =
    c.loop.invariant.3 _ _ (was_false _ _ _ _ g.met.W.Waits.current_with c.value.ensures.value c.if-not-condition.ensures)

pub returns-then-timed_out : goal.returns-then-timed_out
returns-then-timed_out g c =
    c.loop.invariant.3 _ _ (was_timed_out _ _ _ _ g.met.W.Waits.current_with c.if-timed_out.true c.value.ensures.value c.if-not-condition.ensures)

pub returns-in-None-wait : goal.returns-in-None-wait
returns-in-None-wait g c =
    c.loop.invariant.3 _ _ (ran_out _ _ _ _ g.met.W.Waits.current_with c.if-timed_out.false c.value.ensures.value
    c.if-not-condition.ensures c.in-None-wait.ensures.wait_gives c.in-None-wait.ensures.stays)

pub loop-preserved : goal.loop-preserved
loop-preserved g c = (
  tt,
  tt,
  (λ h. mut_next g.F.FnMut _ _ _ _ _ c.if-not-condition.ensures refl (c.loop.invariant.2 h)),
  λ end after loop. c.loop.invariant.3 _ _
      (one_more _ _ _ _ c.if-timed_out.false c.value.ensures.value c.if-not-condition.ensures
      c.in-Some-wait.ensures.wait_gives loop),
)
