-- The limits of a run that ends well.
use Rattle.std.proofs.Common.{ap}
use Rattle.lock_conform.specs.Makers.{kind_of}
use Rattle.lock_choice.proofs.InRange.{ok_in_range}
use Rattle.lock_choice.proofs.over_raw.over_raw.Goals as goal

pub returns-in-Mutex-clause-in_range : goal.returns-in-Mutex-clause-in_range
returns-in-Mutex-clause-in_range g c = ok_in_range c.run_mutex.result c.run_mutex.ensures.limits (ap kind_of c.in-Mutex.is)

pub returns-in-RwLock-clause-in_range : goal.returns-in-RwLock-clause-in_range
returns-in-RwLock-clause-in_range g c = ok_in_range c.run_rwlock.result c.run_rwlock.ensures.limits (ap kind_of c.in-RwLock.is)

pub returns-in-Reentrant-clause-in_range : goal.returns-in-Reentrant-clause-in_range
returns-in-Reentrant-clause-in_range g c = ok_in_range c.run_reentrant.result c.run_reentrant.ensures.limits (ap kind_of c.in-Reentrant.is)
