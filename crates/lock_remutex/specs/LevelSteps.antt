-- What a call that gained or lost a level of a reentrant lock has done.
use Rattle.std.specs.Prelude.{◌≡◌, ◌≢◌, ◌⊎◌, ℕ, ◌+◌, Bool, true, false, Option, None, Some, IfSome, Ok, refl}
use Rattle.std.specs.Coded.{Coded, code_by, coded×, coded_ℕ}
use Rattle.std.specs.declared.snapshot.Snapshot.{Snapshot}
use Rattle.lock_modes.specs.Levels.{Levels, level_of}
use Rattle.lock_remutex.specs.declared.owner_table.rule.OwnerStep.{OwnerStep}
use Rattle.lock_remutex.specs.declared.owner_table.rule.OwnerStep.TheVariants.{Saw, Made}
use Rattle.lock_remutex.specs.OwnerTables.{CallView}
use Rattle.lock_remutex.specs.OwnerCalls.{Again, LeavesSole}

-- a level: the call that gained it, and its party
pub record LevelView (R T : Type 0) : Type 0 where
  pub call : CallView (Snapshot R) T
  pub party : ℕ

abbrev pub level_view_code : {R T : Type 0} → Coded (CallView (Snapshot R) T) → Coded (LevelView R T)
level_view_code {R} {T} call = code_by (CallView (Snapshot R) T × ℕ) (coded× call coded_ℕ) (λ l. (l.call, l.party)) (λ p. record { call = p.0; party = p.1 }) (λ _. refl)

module _ {T : Type 0} where
  -- the step gave the party one more level of a lock whose token fits
  pub record Gained (fits : T → Type 0) (party : ℕ) (step : OwnerStep T) : Type 0 where
    pub old : Levels T
    pub new : Levels T
    pub made : step ≡ Made old new
    pub one_more : level_of new party ≡ level_of old party + 1
    pub fit : IfSome new.owner (λ o. fits o.token)

  -- the step took one level of the party from a lock whose token fits
  pub record Lost (fits : T → Type 0) (party : ℕ) (step : OwnerStep T) : Type 0 where
    pub old : Levels T
    pub new : Levels T
    pub made : step ≡ Made old new
    pub one_less : level_of old party ≡ level_of new party + 1
    pub fit : IfSome old.owner (λ o. fits o.token)

  -- the step found an owner
  abbrev pub WasOwned : OwnerStep T → Type 0
  WasOwned (Made old new) = old.owner ≢ None
  WasOwned step = Unit {0}

  -- the owner that the step left has this token
  abbrev pub HasToken : T → OwnerStep T → Type 0
  HasToken token (Made old new) = IfSome new.owner (λ o. o.token ≡ token)
  HasToken token step = Unit {0}

  -- a step that made an owner did so with a token that a try gave
  abbrev pub ByTry : (Option T → Type 0) → OwnerStep T → Type 0
  ByTry tried (Made old new) = old.owner ≡ None → IfSome new.owner (λ o. tried (Some o.token))
  ByTry tried step = Unit {0}

-- the call is on the table of this raw lock
abbrev pub IsOn : {R T : Type 0} → R → CallView (Snapshot R) T → Type 0
IsOn raw call = call.table.key.raw.value ≡ raw

-- a call found that the party has several levels of this raw lock
pub record HasSeveral {R : Type 0} (T : Type 0) (raw : R) (party : ℕ) : Type 0 where
  pub call : CallView (Snapshot R) T
  pub on : IsOn raw call
  pub several : LeavesSole party (Ok None) call.step

-- a call found that the party does not own this raw lock
pub record IsNoOwner {R : Type 0} (T : Type 0) (raw : R) (party : ℕ) : Type 0 where
  pub call : CallView (Snapshot R) T
  pub on : IsOn raw call
  pub other : Again call.table.key.limit party (Ok false) call.step

-- a call found that this raw lock has an owner
pub record FoundOwner {R : Type 0} (T : Type 0) (raw : R) : Type 0 where
  pub call : CallView (Snapshot R) T
  pub on : IsOn raw call
  pub word : ℕ
  pub saw : call.step ≡ Saw word
  pub owned : word ≢ 0

module _ {R T : Type 0} where
  -- a call gave the party one more level of this raw lock, whose own token the owner holds
  pub record HasGained (is_own : R → T → Bool) (raw : R) (party : ℕ) : Type 0 where
    pub call : CallView (Snapshot R) T
    pub on : IsOn raw call
    pub gained : Gained (λ token. is_own raw token ≡ true) party call.step

  -- a call took one level of the party from this raw lock, whose own token the owner held
  pub record HasLost (is_own : R → T → Bool) (raw : R) (party : ℕ) : Type 0 where
    pub call : CallView (Snapshot R) T
    pub on : IsOn raw call
    pub lost : Lost (λ token. is_own raw token ≡ true) party call.step

  -- why a try for a level was refused: the party was not the owner, and the try of the raw lock was refused or found an owner
  abbrev pub RefusedLevel : (Option T → Type 0) → R → ℕ → Type 0
  RefusedLevel tried raw party = IsNoOwner T raw party × (tried None ⊎ FoundOwner T raw)

  -- what a try for a level did: it gained one, by a try of the raw lock if there was no owner; or it was refused
  abbrev pub TriedLevel : (Option T → Type 0) → (R → T → Bool) → R → ℕ → Bool → Type 0
  TriedLevel tried is_own raw party true = (l : HasGained is_own raw party) × ByTry tried l.call.step
  TriedLevel tried is_own raw party false = RefusedLevel tried raw party

  -- a level of this raw lock and party
  pub record IsNewLevel (raw : R) (party : ℕ) (level : LevelView R T) : Type 0 where
    pub same_raw : IsOn raw level.call
    pub same_party : level.party ≡ party

  -- what a try for a level did, where it answers the level
  abbrev pub TriedFor : (Option T → Type 0) → R → ℕ → Option (LevelView R T) → Type 0
  TriedFor tried raw party (Some level) = IsNewLevel raw party level × ByTry tried level.call.step
  TriedFor tried raw party None = RefusedLevel tried raw party

  -- the level was left to its party: the call that gained it is a `HasGained`
  abbrev pub Kept : (R → T → Bool) → LevelView R T → Type 0
  Kept is_own level = (l : HasGained is_own level.call.table.key.raw.value level.party) × (l.call ≡ level.call)

  -- the answer says whether there was a level, which was left to its party
  abbrev pub AnswersLevel : (R → T → Bool) → Option (LevelView R T) → Bool → Type 0
  AnswersLevel is_own (Some level) answer = (answer ≡ true) × Kept is_own level
  AnswersLevel is_own None answer = answer ≡ false
