-- What the guard of a ranked reentrant mutex holds.
use Rattle.std.specs.Prelude.{◌≡◌, ℕ}
use Rattle.lock_remutex.specs.Guards.{guard_lock, guard_party}
use Rattle.lock_remutex.specs.declared.reentrant_mutex.ReentrantMutex.{ReentrantMutex}
use Rattle.lock_ranked.specs.declared.ranked.Ranked.{Ranked}
use Rattle.lock_remutex.specs.declared.reentrant_mutex_guard.ReentrantMutexGuard.{ReentrantMutexGuard}
use Rattle.lock_ranked.specs.declared.ranked.RankedLock.{RankedLock}

module _ {R T K G W : Type 0} where
  -- the plain lock under a ranked one
  abbrev pub plain_of : RankedLock (ReentrantMutex R T G W) K → ReentrantMutex R T G W
  plain_of lock = lock.lock

module _ {R T B K G W : Type 0} where
  -- the plain lock that a guard is of
  abbrev pub remutex_of : Ranked (ReentrantMutexGuard R T G W) B K → ReentrantMutex R T G W
  remutex_of ranked = (guard_lock ranked.guard).now

  -- the party whose level a guard is
  abbrev pub owner_of : Ranked (ReentrantMutexGuard R T G W) B K → ℕ
  owner_of ranked = guard_party ranked.guard

  -- the guard is a level of this lock for the party
  pub record IsLevelOf (lock : ReentrantMutex R T G W) (party : ℕ) (ranked : Ranked (ReentrantMutexGuard R T G W) B K) : Type 0 where
    pub same_lock : remutex_of ranked ≡ lock
    pub same_party : owner_of ranked ≡ party
