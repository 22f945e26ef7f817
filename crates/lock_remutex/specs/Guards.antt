-- What a clause reads of a reentrant lock and of its guards.
use Rattle.std.specs.Prelude.{◌≡◌, ℕ, Option, Some}
use Rattle.std.specs.Borrow.{Bor}
use Rattle.lock_modes.specs.Party.{id_of}
use Rattle.lock_remutex.specs.declared.reentrant_mutex.ReentrantMutex.{ReentrantMutex}
use Rattle.lock_remutex.specs.declared.reentrant_mutex_guard.ReentrantMutexGuard.{ReentrantMutexGuard}

module _ {R T G W : Type 0} where
  -- the raw lock under the lock
  abbrev pub raw_of : ReentrantMutex R T G W → R
  raw_of lock = lock.raw

  -- the value behind the lock
  abbrev pub value_of : ReentrantMutex R T G W → T
  value_of lock = lock.value

  -- the lock with another value
  abbrev pub with_value : ReentrantMutex R T G W → T → ReentrantMutex R T G W
  with_value lock value = record lock { value = value }

  -- the lock of a guard
  abbrev pub guard_lock : ReentrantMutexGuard R T G W → Bor (ReentrantMutex R T G W)
  guard_lock guard = guard.remutex

  -- the party whose level a guard is
  abbrev pub guard_party : ReentrantMutexGuard R T G W → ℕ
  guard_party guard = id_of guard.party

  -- the value that a guard reads
  abbrev pub guard_value : ReentrantMutexGuard R T G W → T
  guard_value guard = value_of guard.remutex.now

  -- the same, as what all guards have: it is there as long as the guard is
  abbrev pub shown_value : ReentrantMutexGuard R T G W → Option T
  shown_value guard = Some (guard_value guard)

  -- a guard of this lock for the party
  pub record IsGuardOf (lock : Bor (ReentrantMutex R T G W)) (party : ℕ)
      (guard : ReentrantMutexGuard R T G W) : Type 0 where
    pub same_lock : guard_lock guard ≡ lock
    pub same_party : guard_party guard ≡ party
    pub same_value : guard_value guard ≡ value_of lock.now

  -- a guard of the same lock for the same party
  pub record IsSameGuard (old new : ReentrantMutexGuard R T G W) : Type 0 where
    pub same_lock : guard_lock new ≡ guard_lock old
    pub same_party : guard_party new ≡ guard_party old
    pub same_value : guard_value new ≡ guard_value old
