-- The rule of a table with one slot and two words, derived from that of the mutex. The first word is 0 while the mutex
-- is free, and the second is the epoch.
use Rattle.std.specs.Prelude.{◌≡◌, ◌≢◌, ℕ, zero, suc, ◌+◌, ◌-◌, ◌<◌, List, [], ◌∷◌, ◌++◌, length, slice_index, Some, None}
use Rattle.std.specs.Prelude as std
use mathlib.Core.Option.{Option, some, none}
use lib.ListN.{get_elem?}
use Rattle.atomic_table.specs.Table.{State}
use Rattle.lock_ruled.specs.declared.rule.UserStage.{UserStage}
use Rattle.lock_ruled.specs.declared.rule.UserStage.TheVariants.{Free, Opens, Holds}
use Rattle.lock_ruled.specs.declared.rule.UserView.{UserView}
use Rattle.lock_ruled.specs.Ruled.{all_parts}
use Rattle.lock_ruled.specs.SleepingUsers.{KeepsWakes, ForgetsNoUser}

module _ {T : Type 0} where
  -- the value that was acquired, or else the other one
  abbrev pub taken_value : UserStage T → T → T
  taken_value (Opens value) other = value
  taken_value (Holds value) other = value
  taken_value stage other = other

  abbrev pub IsAway : UserStage T → Type 0
  IsAway (Opens value) = Unit {0}
  IsAway (Holds value) = Unit {0}
  IsAway stage = ⊥

  abbrev pub IsHolding : UserStage T → Type 0
  IsHolding (Holds value) = Unit {0}
  IsHolding stage = ⊥

  -- a user that has the value is the one holder, and the slot is empty or held
  abbrev pub Fits : ℕ → List (Option (std.Option T)) → T → ℕ → ℕ → UserStage T → Type 0
  Fits word homes value holder number (Opens x) = (holder ≡ number) × (word ≢ 0) × (x ≡ value) × (homes ≡ some None ∷ [])
  Fits word homes value holder number (Holds x) = (holder ≡ number) × (word ≢ 0) × (x ≡ value) × (homes ≡ none ∷ [])
  Fits word homes value holder number stage = Unit {0}

abbrev pub known_if : {V : Type 0} → ℕ → V → List V
known_if zero v = []
known_if (suc n) v = v ∷ []

module _ {T V : Type 0} where
  -- the maker of the mutex has all its parts
  abbrev pub opener : T → V → UserView T V
  opener value view = record { parts = all_parts; own = view; stage = Opens value }

  abbrev pub one_fewer : (V → V) → UserView T V → UserView T V
  one_fewer left u = record { parts = u.parts - 1; own = left u.own; stage = Free }

  abbrev pub one_part : (V → V) → UserView T V → UserView T V
  one_part right u = record { parts = 1; own = right u.own; stage = Free }

  abbrev pub both_of : (V → V → V) → UserView T V → UserView T V → UserView T V
  both_of both u w = record { parts = u.parts + w.parts; own = both u.own w.own; stage = Free }

  abbrev pub spent_view : V → UserView T V
  spent_view v = record { parts = 0; own = v; stage = Free }

  abbrev pub parts_of : List (UserView T V) → ℕ
  parts_of [] = 0
  parts_of (u ∷ us) = u.parts + parts_of us

  -- the views in the rule: those of users with a part
  abbrev pub known_views : List (UserView T V) → List V
  known_views [] = []
  known_views (u ∷ us) = known_if u.parts u.own ++ known_views us

  -- a user with a part holds the value
  abbrev pub IsOut : List (UserView T V) → ℕ → Type 0
  IsOut views holder = (u : UserView T V) × (get_elem? views holder ≡ some u) × (0 < u.parts) × IsAway u.stage

  abbrev pub word_in : State (std.Option T) (UserView T V) → ℕ
  word_in s = slice_index s.words 0

  abbrev pub epoch_in : State (std.Option T) (UserView T V) → ℕ
  epoch_in s = slice_index s.words 1

  pub record IsRuled (rule : T → List V → Type 0) (s : State (std.Option T) (UserView T V)) : Type 0 where
    pub value : T
    pub holder : ℕ
    pub two_words : length s.words ≡ 2
    pub parts : parts_of s.views ≡ all_parts
    -- the rule of the mutex holds of the value, or of the value as it was acquired
    pub kept : rule value (known_views s.views)
    pub at_home : word_in s ≡ 0 → s.homes ≡ some (Some value) ∷ []
    pub is_out : word_in s ≢ 0 → IsOut s.views holder
    pub each : (number : ℕ) (u : UserView T V) → get_elem? s.views number ≡ some u
        → Fits (word_in s) s.homes value holder number u.stage
    pub wakes : KeepsWakes (word_in s) (epoch_in s) s.views

  -- of every state that a table under this rule has between two steps
  abbrev pub EveryStateIsRuled : (T → List V → Type 0) → (T → State (std.Option T) (UserView T V) → Type 0) → Type 0
  EveryStateIsRuled rule holds = (first : T) (s : State (std.Option T) (UserView T V)) → holds first s → IsRuled rule s

  abbrev pub EveryStateForgetsNoUser : (T → State (std.Option T) (UserView T V) → Type 0) → Type 0
  EveryStateForgetsNoUser holds =
      (first : T) (s : State (std.Option T) (UserView T V)) → holds first s → ForgetsNoUser (word_in s) (epoch_in s) s.views
