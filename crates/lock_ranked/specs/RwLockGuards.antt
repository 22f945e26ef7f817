-- What the guard of a ranked reader-writer lock holds.
use Rattle.std.specs.Prelude.{◌≡◌, Option}
use Rattle.lock_guard.specs.declared.guard.held.Held.{Held}
use Rattle.lock_guard.specs.Held.{held_token, held_value, held_with_value}
use Rattle.lock_rwlock.specs.declared.guard.RwLockGuard.{RwLockGuard}
use Rattle.lock_rwlock.specs.declared.lock.RwLock.{RwLock}
use Rattle.lock_rwlock.specs.declared.mode.InMode.{InMode}
use Rattle.lock_ranked.specs.declared.ranked.Ranked.{Ranked}
use Rattle.lock_ranked.specs.declared.ranked.RankedLock.{RankedLock}

module _ {L V T W X : Type 0} {r : _} {g : _} where
  -- the plain guard with another value
  abbrev pub plain_with_value : (V → X → V) → RwLockGuard L V T W X r g → X → RwLockGuard L V T W X r g
  plain_with_value write guard value = record guard { held = held_with_value write guard.held value }

  -- what a guard holds: the lock in its mode, its token, and what shows the value
  abbrev pub held_of : {B K : Type 0} → Ranked (RwLockGuard L V T W X r g) B K → Held L V T W X r g
  held_of ranked = ranked.guard.held

  -- the token of a guard, which always has one
  abbrev pub token_of : {B K : Type 0} → Ranked (RwLockGuard L V T W X r g) B K → Option T
  token_of ranked = held_token (held_of ranked)

-- the plain lock under a ranked one
abbrev pub plain_of : {R T K : Type 0} → RankedLock (RwLock R T) K → RwLock R T
plain_of lock = lock.lock

-- the raw lock under a ranked lock
abbrev pub raw_of : {R T K : Type 0} → RankedLock (RwLock R T) K → R
raw_of lock = lock.lock.raw

module _ {M R T B K V Z W X : Type 0} {r : _} {g : _} where
  -- the plain lock that a guard is of, in whatever mode
  abbrev pub rwlock_of : Ranked (RwLockGuard (InMode M R T) V Z W X r g) B K → RwLock R T
  rwlock_of guard = (held_of guard).lock.rwlock.now

  -- the raw lock under it
  abbrev pub raw_under : Ranked (RwLockGuard (InMode M R T) V Z W X r g) B K → R
  raw_under guard = (rwlock_of guard).raw

  -- the guard is one of this lock
  abbrev pub IsGuardOf : {K' : Type 0} → RankedLock (RwLock R T) K' → Ranked (RwLockGuard (InMode M R T) V Z W X r g) B K → Type 0
  IsGuardOf lock guard = rwlock_of guard ≡ plain_of lock

module _ {M M' R T B B' K K' V V' Z Z' W W' X X' : Type 0} {r r' : _} {g g' : _} where
  -- two guards are of one lock, in whatever modes
  abbrev pub SameLock : Ranked (RwLockGuard (InMode M R T) V Z W X r g) B K
      → Ranked (RwLockGuard (InMode M' R T) V' Z' W' X' r' g') B' K' → Type 0
  SameLock old new = rwlock_of new ≡ rwlock_of old

-- two guards, in whatever modes, show one value
abbrev pub ShowsSame : {L L' B B' K K' V Z Z' W W' X : Type 0} {r r' : _} {g g' : _} → (V → X)
    → Ranked (RwLockGuard L V Z W X r g) B K → Ranked (RwLockGuard L' V Z' W' X r' g') B' K' → Type 0
ShowsSame value_of old new = held_value value_of (held_of old) ≡ held_value value_of (held_of new)
