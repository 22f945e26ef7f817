-- What a clause reads of the guards of a reentrant lock that keep it alive.
use Rattle.std.specs.Prelude.{◌≡◌, ◌⊎◌, ℕ}
use Rattle.std.specs.Arc.{arc_value}
use Rattle.std.specs.declared.alloc.Global.{Global}
use Rattle.std.specs.declared.sync.Arc.{Arc}
use Rattle.lock_modes.specs.Party.{id_of}
use Rattle.lock_modes.specs.declared.fault.Fault.{Fault}
use Rattle.lock_modes.specs.declared.fault.Fault.TheVariants.{FullCount, OutOfMemory}
use Rattle.lock_remutex.specs.declared.arc_guard.ArcReentrantMutexGuard.{ArcReentrantMutexGuard}
use Rattle.lock_remutex.specs.declared.reentrant_mutex.ReentrantMutex.{ReentrantMutex}
use Rattle.lock_remutex.specs.Guards.{value_of}

-- the party has all its levels, or there was no memory for another owner of the lock
abbrev pub IsArcFault : Fault → Type 0
IsArcFault fault = (fault ≡ FullCount) ⊎ (fault ≡ OutOfMemory)

module _ {R T G W : Type 0} where
  -- the lock that a guard is of
  abbrev pub arc_of : ArcReentrantMutexGuard R T G W → Arc (ReentrantMutex R T G W) Global
  arc_of guard = guard.remutex

  -- the party whose level a guard is
  abbrev pub arc_party : ArcReentrantMutexGuard R T G W → ℕ
  arc_party guard = id_of guard.party

  -- the value that a guard reads
  abbrev pub arc_guard_value : ArcReentrantMutexGuard R T G W → T
  arc_guard_value guard = value_of (arc_value (arc_of guard))

  -- a guard of this lock for the party
  pub record IsArcGuardOf (lock : Arc (ReentrantMutex R T G W) Global) (party : ℕ)
      (guard : ArcReentrantMutexGuard R T G W) : Type 0 where
    pub same_lock : arc_value (arc_of guard) ≡ arc_value lock
    pub same_party : arc_party guard ≡ party

  -- a guard of the same lock for the same party
  pub record IsSameArcGuard (old new : ArcReentrantMutexGuard R T G W) : Type 0 where
    pub same_lock : arc_of new ≡ arc_of old
    pub same_party : arc_party new ≡ arc_party old
