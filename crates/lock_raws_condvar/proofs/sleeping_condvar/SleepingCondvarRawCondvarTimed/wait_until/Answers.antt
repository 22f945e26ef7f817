use Rattle.std.proofs.Common.{rules}
use Rattle.lock_raws_condvar.proofs.sleeping_condvar.SleepingCondvarRawCondvarTimed.wait_until.Goals as goal

pub returns-clause-waited : goal.returns-clause-waited
returns-clause-waited g c = (c.wait_until-slept.result, search rules, c.wait_until-slept.ensures)
