-- Users that sleep: who sleeps, who is due to wake them, and that no sleeping user is forgotten.
use Rattle.std.specs.Prelude.{◌≡◌, ℕ, ◌^◌, ◌-◌, ◌<◌, ◌≤◌, List, ◌⊎◌}
use mathlib.Core.Option.{some}
use lib.ListN.{get_elem?}
use Rattle.lock_ruled.specs.declared.rule.UserStage.{UserStage}
use Rattle.lock_ruled.specs.declared.rule.UserStage.TheVariants.{Watches, Sleeps, Owes, OwesAt}
use Rattle.lock_ruled.specs.declared.rule.UserView.{UserView}

-- the word while the mutex is held and a user may sleep
abbrev pub awaited : ℕ
awaited = 2

-- the epoch at which no user sleeps
abbrev pub last_epoch : ℕ
last_epoch = 2 ^ 64 - 1

module _ {T : Type 0} where
  -- the user sleeps or is about to: it loaded this epoch, and then marked the mutex as awaited, which another user held
  abbrev pub IsAsleep : ℕ → UserStage T → Type 0
  IsAsleep epoch stage = (stage ≡ Sleeps epoch) × (epoch < last_epoch)

  -- a user at this stage released an awaited mutex, and has yet to end this epoch
  abbrev pub IsDue : ℕ → UserStage T → Type 0
  IsDue epoch Owes = Unit {0}
  IsDue epoch (OwesAt owed) = owed ≡ epoch
  IsDue epoch stage = ⊥

  -- the epoch that a blocked user loaded, or 0
  abbrev pub watched : UserStage T → ℕ
  watched (Watches epoch) = epoch
  watched (Sleeps epoch) = epoch
  watched stage = 0

module _ {T V : Type 0} where
  -- some user is due
  pub record SomeoneIsDue (epoch : ℕ) (views : List (UserView T V)) : Type 0 where
    pub number : ℕ
    pub user : UserView T V
    pub is : get_elem? views number ≡ some user
    pub due : IsDue epoch user.stage

  -- THE THEOREM: if a user sleeps, the mutex is held and awaited, or some user is due
  abbrev pub NoneIsForgotten : ℕ → ℕ → List (UserView T V) → Type 0
  NoneIsForgotten word epoch views =
      (number : ℕ) (u : UserView T V) → get_elem? views number ≡ some u → IsAsleep epoch u.stage
      → (word ≡ awaited) ⊎ SomeoneIsDue epoch views

  -- the rule
  pub record KeepsWakes (word epoch : ℕ) (views : List (UserView T V)) : Type 0 where
    -- a watched epoch is past or present
    pub within : (number : ℕ) (u : UserView T V) → get_elem? views number ≡ some u → watched u.stage ≤ epoch
    pub none_forgotten : NoneIsForgotten word epoch views

  -- what the rule means
  pub record ForgetsNoUser (word epoch : ℕ) (views : List (UserView T V)) : Type 0 where
    pub none_forgotten : NoneIsForgotten word epoch views
    -- so if a user sleeps and the mutex is free, some user is due
    pub free : (number : ℕ) (u : UserView T V) → get_elem? views number ≡ some u → IsAsleep epoch u.stage → word ≡ 0
        → SomeoneIsDue epoch views
    -- so if a user sleeps and no user is due, the mutex is held, and its release will find it awaited
    pub at_rest : (number : ℕ) (u : UserView T V) → get_elem? views number ≡ some u → IsAsleep epoch u.stage
        → (SomeoneIsDue epoch views → ⊥) → word ≡ awaited
