use Rattle.std.proofs.Common.{rules, ◌≡◌, ◌∙◌}
use Rattle.lock_mutex.proofs.Loops.{only_false}
use Rattle.lock_mutex.specs.declared.condition_loop.LoopEnd.TheVariants.{False, TimedOut}
use Rattle.lock_mutex.specs.Waiting.{answers_as}
use Rattle.lock_mutex.proofs.HeldWaits.{keeps_lock, timed_out_slept, waits_while}
use Rattle.lock_mutex.proofs.waiting.sleep_while.Goals as goal

pub returns-clause-slept : goal.returns-clause-slept
returns-clause-slept g c out =
    (timed_out_slept g.L.Shown.ValueGuard.value_of g.L.Shown.ValueGuardMut.with_value g.met.L.Shown.ValueGuardMut.value_with g.F.FnMut (answers_as g.S.Sleep.may_answer g.S.Sleep.slept)
    c.run_loop-end.result c.run_loop-end.ensures (λ (ended : c.run_loop-end.result ≡ False). rw ended at c.eq.ensures) out).1

pub returns-clause-in_time : goal.returns-clause-in_time
returns-clause-in_time g c never =
    let ended : c.run_loop-end.result ≡ False
    = only_false _ _ _ _ (λ w v timed_out may. never timed_out may.0.0) (λ w v none. none.0) c.run_loop-end.ensures in
    rw ended at c.eq.ensures

pub returns-clause-checks : goal.returns-clause-checks
returns-clause-checks g c =
    waits_while g.L.Shown.ValueGuard.value_of g.L.Shown.ValueGuardMut.with_value g.met.L.Shown.ValueGuardMut.value_with g.F.FnMut (answers_as g.S.Sleep.may_answer g.S.Sleep.slept)
    c.run_loop-end.ensures c.replace-inner.ensures.value (c.put.ensures ∙ c.into_inner.ensures.inner)
    (λ (ended : c.run_loop-end.result ≡ False). rw ended at c.eq.ensures)
    (λ (ended : c.run_loop-end.result ≡ TimedOut). rw ended at c.eq.ensures)

pub invariant_of-held-clause-own : goal.invariant_of-held-clause-own
invariant_of-held-clause-own g c =
    let same = keeps_lock g.L.Shown.ValueGuard.value_of g.L.Shown.ValueGuardMut.with_value g.met.L.Shown.ValueGuardMut.value_with g.F.FnMut (answers_as g.S.Sleep.may_answer g.S.Sleep.slept)
    c.run_loop-end.ensures in
    let own = c.into_inner.ensures.own in
    let put = c.put.ensures in
    search rules
