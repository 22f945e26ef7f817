-- What a mutex is made of.
use Rattle.lock_mutex.specs.declared.mutex.Mutex.{Mutex}

-- the raw lock under a mutex
abbrev pub raw_of : {R T : Type 0} → Mutex R T → R
raw_of mutex = mutex.raw
