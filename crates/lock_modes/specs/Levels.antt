-- The owner of a reentrant lock and its levels.
use Rattle.std.specs.Prelude.{◌≡◌, ℕ, ◌+◌, ◌-◌, ◌<◌, ◌≤◌, ◌==◌, IfSome, if◌then◌else◌, Option, None, Some}
use Rattle.std.specs.Option.{option_map, option_map_or}
use Rattle.lock_modes.specs.Limits.{IsLimit}

-- the owning party, the number of its levels, and its token of the raw lock
pub record Owner (K : Type 0) : Type 0 where
  pub party : ℕ
  pub count : ℕ
  pub token : K

-- the limit of levels, and the owner if there is one
pub record Levels (K : Type 0) : Type 0 where
  pub limit : ℕ
  pub owner : Option (Owner K)

module _ {K : Type 0} where
  -- an owner has from one level to the limit
  abbrev pub IsLawful : Levels K → Type 0
  IsLawful l = IsLimit l.limit × IfSome l.owner (λ o. (0 < o.count) × (o.count ≤ l.limit))

  -- no party owns the lock
  abbrev pub free_levels : ℕ → Levels K
  free_levels limit = record { limit = limit; owner = None }

  -- the party owns the lock at level 1
  abbrev pub with_owner : Levels K → ℕ → K → Levels K
  with_owner l party token = record l { owner = Some (record { party = party; count = 1; token = token }) }

  -- the same owner at another number of levels
  abbrev pub at_level : Levels K → ℕ → Levels K
  at_level l level = record l { owner = option_map (λ (o : Owner K). record o { count = level }) l.owner }

  -- the levels of a party: 0 unless it is the owner
  abbrev pub level_of : Levels K → ℕ → ℕ
  level_of l party = option_map_or (λ o. if o.party == party then o.count else 0) l.owner 0

  -- the token that the owner holds
  abbrev pub token_of : Levels K → Option K
  token_of l = option_map (λ o. o.token) l.owner

-- the party had a level, and has one more
pub record GainsLevel {K : Type 0} (old new : Levels K) (party : ℕ) : Type 0 where
  pub owned : 0 < level_of old party
  pub after : new ≡ at_level old (level_of old party + 1)

-- the party had more than one level, and has one less
pub record LosesLevel {K : Type 0} (old new : Levels K) (party : ℕ) : Type 0 where
  pub nested : 1 < level_of old party
  pub after : new ≡ at_level old (level_of old party - 1)

-- the party had one level and this token, and now no party owns the lock
pub record GivesTokenBack {K : Type 0} (old new : Levels K) (party : ℕ) (token : K) : Type 0 where
  pub sole : level_of old party ≡ 1
  pub held : token_of old ≡ Some token
  pub after : new ≡ free_levels old.limit
