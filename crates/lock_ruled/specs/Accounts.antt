-- The rule of a semaphore: the permits that are free and those of all tokens are all permits.
use Rattle.std.specs.Prelude.{◌≡◌, ℕ, ◌+◌, ◌^◌, ◌<◌, List, [], ◌∷◌, length, slice_index}
use mathlib.Core.Option.{some}
use lib.ListN.{get_elem?}
use Rattle.atomic_table.specs.Table.{State}
use Rattle.atomic_table.specs.Seated.{TableId}
use Rattle.lock_ruled.specs.declared.shared_semaphore.rule.PermitView.{PermitView}

-- a semaphore: its identity, and the number of all permits
pub record SemaphoreView : Type 0 where
  pub id : TableId
  pub permits : ℕ

-- a token: its semaphore, and the number of its permits
pub record TokenView : Type 0 where
  pub semaphore : SemaphoreView
  pub permits : ℕ

abbrev pub token_of : SemaphoreView → ℕ → TokenView
token_of semaphore permits = record { semaphore = semaphore; permits = permits }

-- a party without permits
abbrev pub newcomer : ℕ → PermitView
newcomer all = record { own = 0; all = all }

abbrev pub Table : Type 0
Table = State (Unit {0}) PermitView

-- the permits that are free
abbrev pub free_in : Table → ℕ
free_in s = slice_index s.words 0

-- the permits of all tokens
abbrev pub held_of : List PermitView → ℕ
held_of [] = 0
held_of (view ∷ views) = view.own + held_of views

pub record IsAccounted (all : ℕ) (s : Table) : Type 0 where
  pub one_word : length s.words ≡ 1
  pub range : all < 2 ^ 64
  pub known : (k : ℕ) (v : PermitView) → get_elem? s.views k ≡ some v → v.all ≡ all
  pub sum : free_in s + held_of s.views ≡ all

-- of every state that a table under this rule has between two steps
abbrev pub EveryStateAccounts : (ℕ → Table → Type 0) → Type 0
EveryStateAccounts holds = (all : ℕ) (s : Table) → holds all s → free_in s + held_of s.views ≡ all
