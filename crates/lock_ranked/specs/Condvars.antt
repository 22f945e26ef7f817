-- What a ranked condition variable is made of.
use Rattle.lock_mutex.specs.declared.condvar.Condvar.{Condvar}
use Rattle.lock_ranked.specs.declared.condvar.RankedCondvar.{RankedCondvar}

-- the plain condition variable under a ranked one
abbrev pub plain_of : {C : Type 0} → RankedCondvar C → Condvar C
plain_of condvar = condvar.condvar
