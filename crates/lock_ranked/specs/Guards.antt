-- What a ranked guard holds, and the guard of a ranked mutex.
use Rattle.std.specs.Prelude.{◌≡◌, Option}
use Rattle.lock_guard.specs.declared.guard.held.Held.{Held}
use Rattle.lock_guard.specs.Held.{held_token, held_with_value}
use Rattle.lock_mutex.specs.declared.borrowed.BorrowedMutex.{BorrowedMutex}
use Rattle.lock_mutex.specs.declared.guard.Guard.{Guard}
use Rattle.lock_mutex.specs.declared.mutex.Mutex.{Mutex}
use Rattle.lock_ranked.specs.declared.ranked.Ranked.{Ranked}
use Rattle.lock_ranked.specs.declared.ranked.RankedLock.{RankedLock}

-- the guard with another value
abbrev pub with_value : {G B K X : Type 0} → (G → X → G) → Ranked G B K → X → Ranked G B K
with_value write ranked value = record ranked { guard = write ranked.guard value }

module _ {L V T W X : Type 0} {r : _} {g : _} where
  -- the plain guard with another value
  abbrev pub plain_with_value : (V → X → V) → Guard L V T W X r g → X → Guard L V T W X r g
  plain_with_value write guard value = record guard { held = held_with_value write guard.held value }

  -- what a guard holds: the mutex, its token, and what shows the value
  abbrev pub held_of : {B K : Type 0} → Ranked (Guard L V T W X r g) B K → Held L V T W X r g
  held_of ranked = ranked.guard.held

  -- the token of a guard, which always has one
  abbrev pub token_of : {B K : Type 0} → Ranked (Guard L V T W X r g) B K → Option T
  token_of ranked = held_token (held_of ranked)

-- the plain mutex under a ranked one
abbrev pub plain_of : {R T K : Type 0} → RankedLock (Mutex R T) K → Mutex R T
plain_of mutex = mutex.lock

-- the raw lock under a ranked mutex
abbrev pub raw_of : {R T K : Type 0} → RankedLock (Mutex R T) K → R
raw_of mutex = mutex.lock.raw

module _ {R T B K V Z W X : Type 0} {r : _} {g : _} where
  -- the plain mutex that a guard is of
  abbrev pub mutex_of : Ranked (Guard (BorrowedMutex R T) V Z W X r g) B K → Mutex R T
  mutex_of guard = (held_of guard).lock.mutex.now

  -- the guard is one of this mutex
  abbrev pub IsGuardOf : {K' : Type 0} → RankedLock (Mutex R T) K' → Ranked (Guard (BorrowedMutex R T) V Z W X r g) B K → Type 0
  IsGuardOf mutex guard = mutex_of guard ≡ plain_of mutex
