-- A table of places: a token is the number of its place.
use Rattle.std.specs.Prelude.{◌≡◌, ℕ, Bool, ◌+◌, List, [], ◌∷◌, length, Option, Some, None}
use Rattle.lock_modes.specs.declared.mode.Mode.{Mode}
use Rattle.lock_modes.specs.declared.bag.Bag.{Bag}
use Rattle.lock_modes.specs.Limits.{IsLimit}
use Rattle.lock_modes.specs.Tokens.{bag_of_tokens}
use Rattle.lock_states.specs.declared.places.Place.{Place}
use Rattle.lock_states.specs.declared.table.TableToken.{TableToken}
use Rattle.lock_states.specs.Places.{modes_in, IsChain}

-- each place, free or taken in a mode; the readers' limit; whether the bar is set; how often a place was read or
-- written
pub record TableState : Type 0 where
  pub places : List (Option Mode)
  pub readers : ℕ
  pub bar : Bool
  pub count : ℕ

-- as many places, and the same readers' limit
pub record KeepsLimits (old new : TableState) : Type 0 where
  pub places : length new.places ≡ length old.places
  pub readers : new.readers ≡ old.readers

-- the held tokens, if the first place has this number
abbrev pub tokens_from : ℕ → List (Option Mode) → List (TableToken × Mode)
tokens_from place [] = []
tokens_from place (None ∷ places) = tokens_from (place + 1) places
tokens_from place (Some mode ∷ places) = (record { place = place }, mode) ∷ tokens_from (place + 1) places

-- the held tokens
abbrev pub tokens_of : List (Option Mode) → List (TableToken × Mode)
tokens_of places = tokens_from 0 places

-- the bag is that of the held tokens, and the chain from the start has every free place
pub record IsTable (ps : List Place) (bag : Bag) (start : Option ℕ) (readers : ℕ) : Type 0 where
  pub places : IsLimit (length ps)
  pub limit : IsLimit readers
  pub counted : bag ≡ bag_of_tokens (tokens_of (modes_in ps))
  pub free : ℕ
  pub all : free + length (tokens_of (modes_in ps)) ≡ length ps
  pub chain : IsChain ps free start
