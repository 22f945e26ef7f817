-- The kinds of the machine.
use Rattle.std.specs.Prelude.{Bool, true, false}
use Rattle.lock_modes.specs.declared.kind.Kind.{Kind}
use Rattle.lock_modes.specs.declared.kind.Kind.TheVariants.{Mutex, RwLock, Reentrant}

abbrev pub is_reentrant : Kind → Bool
is_reentrant Mutex = false
is_reentrant RwLock = false
is_reentrant Reentrant = true

abbrev pub is_rwlock : Kind → Bool
is_rwlock Mutex = false
is_rwlock RwLock = true
is_rwlock Reentrant = false
