use Rattle.lock_raws_condvar.proofs.sleeping_condvar.SleepingCondvarRawCondvar.wait.Goals as goal

pub returns-clause-waited : goal.returns-clause-waited
returns-clause-waited g c = (c.wait.result, c.wait.ensures.slept)
