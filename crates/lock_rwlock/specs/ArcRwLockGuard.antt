-- The lock of a guard that keeps it alive.
use Rattle.std.specs.Prelude.{◌≡◌, Option, option_and_then}
use Rattle.std.specs.Arc.{arc_value}
use Rattle.std.specs.declared.alloc.Global.{Global}
use Rattle.std.specs.declared.sync.Arc.{Arc}
use Rattle.lock_guard.specs.Held.{held_token}
use Rattle.lock_rwlock.specs.declared.lock.RwLock.{RwLock}
use Rattle.lock_rwlock.specs.declared.arc.guard.ArcModeGuard.{ArcModeGuard}
use Rattle.lock_rwlock.specs.declared.arc.owned.OwnedInMode.{OwnedInMode}

module _ {M R T A B C D V K W X : Type 0} {r : _} {g : _} where
  -- the lock that a guard is of, in whatever mode
  abbrev pub arc_of : ArcModeGuard (OwnedInMode M R T A B C D) V K W X r g → Arc (RwLock R T) Global
  arc_of guard = guard.held.lock.rwlock

  -- the token of the guard that a try answers, if it answers one
  abbrev pub tried_arc_token : Option (ArcModeGuard (OwnedInMode M R T A B C D) V K W X r g) → Option K
  tried_arc_token answer = option_and_then (λ guard. held_token guard.held) answer

  -- the guard is one of this lock
  abbrev pub IsArcGuardOf : Arc (RwLock R T) Global → ArcModeGuard (OwnedInMode M R T A B C D) V K W X r g → Type 0
  IsArcGuardOf lock guard = arc_value (arc_of guard) ≡ arc_value lock
