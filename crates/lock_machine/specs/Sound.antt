-- The invariant of registers: what holds after any run of calls.
use Rattle.std.specs.Prelude.{◌≡◌, ℕ, ◌<◌, List, [], ◌∷◌, Option, None}
use Rattle.lock_modes.specs.declared.mode.Mode.{Mode}
use Rattle.lock_modes.specs.declared.mode.Mode.TheVariants.{Exclusive}
use Rattle.lock_modes.specs.declared.kind.Kind.{Kind}
use Rattle.lock_modes.specs.declared.kind.Kind.TheVariants.{Mutex, RwLock, Reentrant}
use Rattle.lock_machine.specs.Entries.{Entry}
use Rattle.lock_machine.specs.Register.{Register}
use Rattle.lock_machine.specs.Legal.{IsLegal}

-- the limit of a mutex is 1, and every other limit is positive
abbrev pub IsLimitOf : Kind → ℕ → Type 0
IsLimitOf Mutex limit = limit ≡ 1
IsLimitOf RwLock limit = 0 < limit
IsLimitOf Reentrant limit = 0 < limit

-- what the kind demands of a limit in range
abbrev pub FitsKind : Kind → ℕ → Type 0
FitsKind Mutex limit = limit ≡ 1
FitsKind RwLock limit = Unit {0}
FitsKind Reentrant limit = Unit {0}

-- only a reader-writer lock has modes other than exclusive
abbrev pub IsModeOf : Kind → Mode → Type 0
IsModeOf Mutex mode = mode ≡ Exclusive
IsModeOf RwLock mode = Unit {0}
IsModeOf Reentrant mode = mode ≡ Exclusive

-- each guard, held or parked, has a mode of the kind
abbrev pub HaveModesOf : Kind → List (ℕ × Entry) → Type 0
HaveModesOf kind [] = Unit {0}
HaveModesOf kind (e ∷ es) = IsModeOf kind e.1.mode × HaveModesOf kind es

-- only a reader-writer lock has a bar
abbrev pub IsBarOf : Kind → Option ℕ → Type 0
IsBarOf Mutex bar = bar ≡ None
IsBarOf RwLock bar = Unit {0}
IsBarOf Reentrant bar = bar ≡ None

-- a legal register whose limit, modes and bar fit its kind
pub record IsSound (r : Register) : Type 0 where
  pub legal : IsLegal r
  pub limit : IsLimitOf r.kind r.limit
  pub modes : HaveModesOf r.kind r.entries
  pub bar : IsBarOf r.kind r.bar
