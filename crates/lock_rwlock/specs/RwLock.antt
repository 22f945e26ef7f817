-- What a reader-writer lock is made of.
use Rattle.lock_rwlock.specs.declared.lock.RwLock.{RwLock}

-- the raw lock under a lock
abbrev pub raw_of : {R T : Type 0} → RwLock R T → R
raw_of lock = lock.raw
