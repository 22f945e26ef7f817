-- What each call on an owner table answers, by what its last step found and left.
use Rattle.std.specs.Prelude.{◌≡◌, ◌≢◌, ℕ, ◌<◌, Bool, true, false, Option, None, Some, IsNone, Result, Ok, Err}
use Rattle.lock_modes.specs.declared.fault.Fault.{Fault}
use Rattle.lock_modes.specs.declared.fault.Fault.TheVariants.{FullCount, Foreign}
use Rattle.lock_modes.specs.Levels.{Levels, with_owner, level_of, GainsLevel, LosesLevel, GivesTokenBack}
use Rattle.lock_remutex.specs.declared.owner_table.rule.OwnerStep.{OwnerStep}
use Rattle.lock_remutex.specs.declared.owner_table.rule.OwnerStep.TheVariants.{Saw, Took, Made}
use Rattle.lock_remutex.specs.OwnerTables.{party_in, count_in, TableView, CallView, IsAtHome}

module _ {T : Type 0} where
  -- `again`: the step gave the party a further level, or found it at the limit, or found that it is not the owner
  abbrev pub Again : ℕ → ℕ → Result Bool Fault → OwnerStep T → Type 0
  Again limit party (Ok true) (Made old new) = GainsLevel old new party
  Again limit party (Ok false) (Made old new) = (level_of old party ≡ 0) × (new ≡ old)
  Again limit party (Ok false) (Saw word) = party_in word ≢ party
  Again limit party (Err fault) (Made old new) = (fault ≡ FullCount) × (level_of old party ≡ limit) × (new ≡ old)
  Again limit party (Err fault) (Saw word) = (fault ≡ FullCount) × (party_in word ≡ party) × (count_in word ≡ limit)
  Again limit party answer step = ⊥

  -- `first`: the step made the party the owner with this token, or found an owner, and the token comes back
  abbrev pub First : ℕ → T → Option T → OwnerStep T → Type 0
  First party token None (Made old new) = IsNone old.owner × (new ≡ with_owner old party token)
  First party token (Some back) (Saw word) = (back ≡ token) × (word ≢ 0)
  First party token back step = ⊥

  -- a step that found that the party is not the owner
  abbrev pub IsStranger : ℕ → Fault → OwnerStep T → Type 0
  IsStranger party fault (Made old new) = (fault ≡ Foreign) × (level_of old party ≡ 0) × (new ≡ old)
  IsStranger party fault (Saw word) = (fault ≡ Foreign) × (party_in word ≢ party)
  IsStranger party fault step = ⊥

  -- `leave`: the step took one level of several, or the only one, with its token
  abbrev pub Leaves : ℕ → Result (Option T) Fault → OwnerStep T → Type 0
  Leaves party (Ok None) (Made old new) = LosesLevel old new party
  Leaves party (Ok (Some token)) (Made old new) = GivesTokenBack old new party token
  Leaves party (Err fault) step = IsStranger party fault step
  Leaves party answer step = ⊥

  -- `leave_sole`: the step took the only level, with its token, or found several
  abbrev pub LeavesSole : ℕ → Result (Option T) Fault → OwnerStep T → Type 0
  LeavesSole party (Ok None) (Made old new) = (1 < level_of old party) × (new ≡ old)
  LeavesSole party (Ok None) (Saw word) = (party_in word ≡ party) × (1 < count_in word)
  LeavesSole party (Ok (Some token)) (Made old new) = GivesTokenBack old new party token
  LeavesSole party (Err fault) step = IsStranger party fault step
  LeavesSole party answer step = ⊥

module _ {K T : Type 0} where
  -- the levels that a call took from the slot, at this word
  pub record IsTaken (fits : K → T → Type 0) (own : TableView K) (word : ℕ) (levels : Levels T) (section : CallView K T) : Type 0 where
    pub table : section.table ≡ own
    pub step : section.step ≡ Took levels
    pub home : IsAtHome (fits own.key.raw) own.key.limit word levels
