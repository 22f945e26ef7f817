-- The owner of a reentrant lock, as the held guards show it.
use Rattle.std.specs.Prelude.{◌≡◌, ℕ, ◌+◌, ◌-◌, ◌<◌, Bool, true, ◌==◌, ◌&&◌, nat_lt, if◌then◌else◌, List, [], ◌∷◌, length, Option, Some, None}
use Rattle.lock_modes.specs.declared.mode.Mode.{Mode}
use Rattle.lock_modes.specs.declared.mode.Mode.TheVariants.{Exclusive}
use Rattle.lock_machine.specs.Entries.{Entry, all_of_party}
use Rattle.lock_modes.specs.Levels.{Owner}

module _ {K : Type 0} where
  -- the owner has a level for each of these entries, which all belong to it
  abbrev pub OwnsLevels : Option (Owner K) → List Entry → Type 0
  OwnsLevels None held = held ≡ []
  OwnsLevels (Some o) held = (0 < o.count) × (length held ≡ o.count) × (all_of_party o.party held ≡ true)

  -- the token that an owner holds
  abbrev pub token_of_owner : Option (Owner K) → List (K × Mode)
  token_of_owner None = []
  token_of_owner (Some o) = (o.token, Exclusive) ∷ []

  -- whether the party may have one level more
  abbrev pub may_add_level : ℕ → ℕ → Option (Owner K) → Bool
  may_add_level limit party None = true
  may_add_level limit party (Some o) = (o.party == party) && nat_lt o.count limit

  -- the party has one level more
  abbrev pub HasAddedLevel : ℕ → Option (Owner K) → Option (Owner K) → Type 0
  HasAddedLevel party None new = (token : K) × (new ≡ Some (record { party = party; count = 1; token = token }))
  HasAddedLevel party (Some o) new = new ≡ Some (record o { count = o.count + 1 })

  -- the owner with one level less
  abbrev pub one_level_less : Option (Owner K) → Option (Owner K)
  one_level_less None = None
  one_level_less (Some o) = if o.count == 1 then None else Some (record o { count = o.count - 1 })
