-- Places, free or taken in a mode, and the chain through the free ones.
use Rattle.std.specs.Prelude.{◌≡◌, ℕ, zero, suc, ◌+◌, ◌-◌, ◌^◌, List, [], ◌∷◌, Option, Some, None, min, slice_get}
use Rattle.lock_modes.specs.declared.mode.Mode.{Mode}
use Rattle.lock_states.specs.declared.places.Place.{Place}
use Rattle.lock_states.specs.declared.places.Place.TheVariants.{Free, Taken}

-- the places, and how often one was read or written
pub record Places : Type 0 where
  pub places : List Place
  pub count : ℕ

-- a saturating count
abbrev pub one_access_more : ℕ → ℕ
one_access_more count = min (count + 1) (2 ^ 64 - 1)

-- the mode in which a place is taken
abbrev pub mode_in : Place → Option Mode
mode_in (Free next) = None
mode_in (Taken mode) = Some mode

abbrev pub modes_in : List Place → List (Option Mode)
modes_in [] = []
modes_in (p ∷ ps) = mode_in p ∷ modes_in ps

-- a chain of this many free places from the start: each names the next, and the last names none
abbrev pub IsChain : List Place → ℕ → Option ℕ → Type 0
IsChain ps zero start = start ≡ None
IsChain ps (suc n) start =
    (at : ℕ) × (next : Option ℕ) × (start ≡ Some at) × (slice_get ps at ≡ Some (Free next)) × IsChain ps n next
