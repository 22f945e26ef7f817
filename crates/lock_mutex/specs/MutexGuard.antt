-- What the guard of a mutex holds.
use Rattle.std.specs.Prelude.{◌≡◌, Option, option_and_then}
use Rattle.std.specs.Borrow.{Bor}
use Rattle.lock_guard.specs.Held.{held_token}
use Rattle.lock_guard.specs.declared.guard.held.Held.{Held}
use Rattle.lock_mutex.specs.declared.borrowed.BorrowedMutex.{BorrowedMutex}
use Rattle.lock_mutex.specs.declared.guard.Guard.{Guard}
use Rattle.lock_mutex.specs.declared.mutex.Mutex.{Mutex}

-- what a guard holds: the mutex, its token, and what shows the value
abbrev pub held_of : {L V K W X : Type 0} {r : _} {g : _} → Guard L V K W X r g → Held L V K W X r g
held_of guard = guard.held

-- the token of the guard that a try answers, if it answers one
abbrev pub tried_token : {L V K W X : Type 0} {r : _} {g : _} → Option (Guard L V K W X r g) → Option K
tried_token answer = option_and_then (λ guard. held_token (held_of guard)) answer

-- the guard is one of this mutex
abbrev pub IsGuardOf : {R T V K W X : Type 0} {r : _} {g : _} → Bor (Mutex R T) → Guard (BorrowedMutex R T) V K W X r g → Type 0
IsGuardOf mutex guard = (held_of guard).lock.mutex ≡ mutex
