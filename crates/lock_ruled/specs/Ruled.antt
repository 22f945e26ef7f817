-- What contracts see of a user and of a guard, and what a rule must keep.
use Rattle.std.specs.Prelude.{◌≡◌, ℕ, ◌^◌, List, [], ◌∷◌, ◌++◌}
use Rattle.atomic_table.specs.Seated.{TableId}

-- a user: its mutex, the number of its parts, and its view
pub record UserState (V : Type 0) : Type 0 where
  pub mutex : TableId
  pub parts : ℕ
  pub view : V

-- a guard: the user that holds it, the value as it was acquired, and the value now
pub record Taken (T V : Type 0) : Type 0 where
  pub user : UserState V
  pub taken : T
  pub value : T

-- the number of parts of a mutex; a user with all of them is the only one
abbrev pub all_parts : ℕ
all_parts = 2 ^ 32

abbrev pub first_user : {V : Type 0} → TableId → V → UserState V
first_user mutex view = record { mutex = mutex; parts = all_parts; view = view }

module _ {T V : Type 0} (rule : T → List V → Type 0) where
  -- the rule holds of the value and of some views, this one among them
  abbrev pub Meets : T → V → Type 0
  Meets value view = (before : List V) × (after : List V) × rule value (before ++ view ∷ after)

  -- the guard is held by this user, its value is the acquired one, and the rule holds of that
  pub record HasLocked (own : UserState V) (guard : Taken T V) : Type 0 where
    pub user : guard.user ≡ own
    pub value : guard.value ≡ guard.taken
    pub met : Meets guard.taken own.view

  -- the new rule follows from the old one, whatever the other views are
  abbrev pub Keeps : T → V → T → V → Type 0
  Keeps value view value' view' = (before after : List V) → rule value (before ++ view ∷ after)
      → rule value' (before ++ view' ∷ after)

  -- the rule is kept when a view is split in two
  abbrev pub Splits : V → V → V → Type 0
  Splits view left right = (value : T) (before after : List V) → rule value (before ++ view ∷ after)
      → rule value (before ++ left ∷ (after ++ right ∷ []))

  -- the rule is kept when two views are joined, whichever comes first
  pub record Joins (view other both : V) : Type 0 where
    pub earlier : (value : T) (before between after : List V) → rule value (before ++ view ∷ (between ++ other ∷ after))
        → rule value (before ++ both ∷ (between ++ after))
    pub later : (value : T) (before between after : List V) → rule value (before ++ other ∷ (between ++ view ∷ after))
        → rule value (before ++ (between ++ both ∷ after))
