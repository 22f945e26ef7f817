-- What the guard of a reader-writer lock holds.
use Rattle.std.specs.Prelude.{◌≡◌, Option, option_and_then}
use Rattle.std.specs.Borrow.{Bor}
use Rattle.lock_guard.specs.declared.guard.held.Held.{Held}
use Rattle.lock_guard.specs.Held.{held_token, held_value}
use Rattle.lock_rwlock.specs.declared.guard.RwLockGuard.{RwLockGuard}
use Rattle.lock_rwlock.specs.declared.lock.RwLock.{RwLock}
use Rattle.lock_rwlock.specs.declared.mode.InMode.{InMode}

-- what a guard holds: the lock in its mode, its token, and what shows the value
abbrev pub held_of : {L V K W X : Type 0} {r : _} {g : _} → RwLockGuard L V K W X r g → Held L V K W X r g
held_of guard = guard.held

-- the token of the guard that a try answers, if it answers one
abbrev pub tried_token : {L V K W X : Type 0} {r : _} {g : _} → Option (RwLockGuard L V K W X r g) → Option K
tried_token answer = option_and_then (λ guard. held_token (held_of guard)) answer

-- the guard is one of this lock
abbrev pub IsGuardOf : {M R T V K W X : Type 0} {r : _} {g : _} → Bor (RwLock R T) → RwLockGuard (InMode M R T) V K W X r g → Type 0
IsGuardOf lock guard = (held_of guard).lock.rwlock ≡ lock

-- the raw lock under the lock that a guard is of, in whatever mode
abbrev pub raw_under : {M R T V K W X : Type 0} {r : _} {g : _} → RwLockGuard (InMode M R T) V K W X r g → R
raw_under guard = (held_of guard).lock.rwlock.now.raw

-- two guards are of one lock, in whatever modes
abbrev pub SameLock : {M M' R T V V' K K' W W' X X' : Type 0} {r r' : _} {g g' : _}
    → RwLockGuard (InMode M R T) V K W X r g → RwLockGuard (InMode M' R T) V' K' W' X' r' g' → Type 0
SameLock old new = (held_of new).lock.rwlock ≡ (held_of old).lock.rwlock

-- two guards, in whatever modes, show one value
abbrev pub ShowsSame : {L L' V K K' W W' X : Type 0} {r r' : _} {g g' : _} → (V → X)
    → RwLockGuard L V K W X r g → RwLockGuard L' V K' W' X r' g' → Type 0
ShowsSame value_of old new = held_value value_of (held_of old) ≡ held_value value_of (held_of new)
