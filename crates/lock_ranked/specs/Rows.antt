-- The mutexes of a row.
use Rattle.std.specs.Prelude.{◌≡◌, ℕ, List, map, slice_index_or, vec_len}
use Rattle.lock_mutex.specs.declared.borrowed.BorrowedMutex.{BorrowedMutex}
use Rattle.lock_mutex.specs.declared.guard.Guard.{Guard}
use Rattle.lock_mutex.specs.declared.mutex.Mutex.{Mutex}
use Rattle.lock_ranked.specs.Guards.{mutex_of}
use Rattle.lock_ranked.specs.declared.ranked.Ranked.{Ranked}
use Rattle.lock_ranked.specs.declared.row.place.RowPlace.{RowPlace}
use Rattle.lock_ranked.specs.declared.row.places.RankedMutexRow.{RankedMutexRow}

module _ {R T K : Type 0} where
  -- how many mutexes a row has
  abbrev pub places_of : RankedMutexRow R T K → ℕ
  places_of row = vec_len row.mutexes

  -- the mutexes of a row, in the order of places
  abbrev pub mutexes_of : RankedMutexRow R T K → List (Mutex R T)
  mutexes_of row = row.mutexes.items

module _ {R T B K : Type 0} where
  -- the mutex that a place of a row permits to acquire
  abbrev pub mutex_at : RowPlace R T B K → Mutex R T
  mutex_at place = place.mutex.now

  -- the mutex is the one at this place
  abbrev pub IsPlaceAt : {K' : Type 0} → RankedMutexRow R T K' → ℕ → RowPlace R T B K → Type 0
  IsPlaceAt row place found = mutex_at found ≡ slice_index_or (mutexes_of row) place (mutex_at found)

module _ {R T B K K' V Z W X : Type 0} {r : _} {g : _} where
  -- the guard is one of the mutex at this place
  abbrev pub IsGuardAt : RankedMutexRow R T K' → ℕ → Ranked (Guard (BorrowedMutex R T) V Z W X r g) B K → Type 0
  IsGuardAt row place guard = mutex_of guard ≡ slice_index_or (mutexes_of row) place (mutex_of guard)

  -- there is one guard of each mutex, in the order of places
  abbrev pub AreGuardsOf : RankedMutexRow R T K' → List (Ranked (Guard (BorrowedMutex R T) V Z W X r g) B K) → Type 0
  AreGuardsOf row guards = map mutex_of guards ≡ mutexes_of row
