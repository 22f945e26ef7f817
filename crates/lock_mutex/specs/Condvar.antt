-- What a condition variable is made of, and what a wait did.
use Rattle.lock_mutex.specs.declared.condvar.Condvar.{Condvar}

-- the raw condition variable under a condition variable
abbrev pub raw_condvar_of : {C : Type 0} → Condvar C → C
raw_condvar_of condvar = condvar.raw

-- the raw condition variable waited with some token
abbrev pub HasWaited : {K : Type 0} → (K → Type 0) → Type 0
HasWaited {K} waited = (token : K) × waited token
