-- Rows by rising numbers, and their items.
use Rattle.std.specs.Prelude.{◌≡◌, ◌≢◌, ℕ, zero, suc, ◌<◌, ◌≤◌, List, [], ◌∷◌, ◌++◌, length, Option, Some, None}
use Rattle.lock_slots.specs.declared.row.Row.{Row}

module _ {X : Type 0} where
  abbrev pub item_under : ℕ → Option X → List (ℕ × X)
  item_under number None = []
  item_under number (Some item) = (number, item) ∷ []

  -- the items of the rows, under their numbers
  abbrev pub items_of : List (Row X) → List (ℕ × X)
  items_of [] = []
  items_of (r ∷ rs) = item_under r.number r.item ++ items_of rs

  -- each number is above those before it; the first is above `low`, and none is above `high`
  abbrev pub AreRising : ℕ → List (Row X) → ℕ → Type 0
  AreRising low [] high = low ≤ high
  AreRising low (r ∷ rs) high = (low < r.number) × AreRising r.number rs high

  -- the number of the row at an index
  abbrev pub number_at : List (Row X) → ℕ → ℕ
  number_at [] i = 0
  number_at (r ∷ rs) zero = r.number
  number_at (r ∷ rs) (suc i) = number_at rs i

  -- no row has the number
  abbrev pub NoRow : ℕ → List (Row X) → Type 0
  NoRow number rows = (i : ℕ) → i < length rows → number_at rows i ≢ number

  -- the row at this index has the number
  pub record IsRow (number : ℕ) (rows : List (Row X)) (i : ℕ) : Type 0 where
    pub inside : i < length rows
    pub number_is : number_at rows i ≡ number

  -- the row with another item
  abbrev pub with_item : Row X → X → Row X
  with_item row item = record row { item = Some item }
