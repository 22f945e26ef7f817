-- The mutex of a guard that keeps it alive.
use Rattle.std.specs.Prelude.{◌≡◌, Option, option_and_then}
use Rattle.std.specs.Arc.{arc_value}
use Rattle.std.specs.declared.alloc.Global.{Global}
use Rattle.std.specs.declared.sync.Arc.{Arc}
use Rattle.lock_guard.specs.Held.{held_token}
use Rattle.lock_mutex.specs.declared.arc_guard.ArcGuard.{ArcGuard}
use Rattle.lock_mutex.specs.declared.owned.OwnedMutex.{OwnedMutex}
use Rattle.lock_mutex.specs.declared.mutex.Mutex.{Mutex}

module _ {R T V K W X G H : Type 0} {r : _} {g : _} where
  -- the mutex that a guard is of
  abbrev pub arc_of : ArcGuard (OwnedMutex R T G H) V K W X r g → Arc (Mutex R T) Global
  arc_of guard = guard.held.lock.mutex

  -- the token of the guard that a try answers, if it answers one
  abbrev pub tried_arc_token : Option (ArcGuard (OwnedMutex R T G H) V K W X r g) → Option K
  tried_arc_token answer = option_and_then (λ guard. held_token guard.held) answer

  -- the guard is one of this mutex
  abbrev pub IsArcGuardOf : Arc (Mutex R T) Global → ArcGuard (OwnedMutex R T G H) V K W X r g → Type 0
  IsArcGuardOf mutex guard = arc_value (arc_of guard) ≡ arc_value mutex
