-- Numbered slots as contracts see them.
use Rattle.std.specs.Prelude.{◌≡◌, ℕ, ◌<◌, ◌≤◌, ◌^◌, List, length}
use Rattle.lock_slots.specs.declared.row.Row.{Row}
use Rattle.lock_slots.specs.Rows.{items_of, AreRising}

-- the items by rising numbers, the capacity, and the last number that was used
pub record NumberedItems (X : Type 0) : Type 0 where
  pub items : List (ℕ × X)
  pub capacity : ℕ
  pub last : ℕ

-- the invariant of the rows: the numbers rise up to the last one, the items are counted, and there is room for a row of
-- each
pub record AreSlotRows {X : Type 0} (rows : List (Row X)) (items capacity last room : ℕ) : Type 0 where
  pub rising : AreRising 0 rows last
  pub counted : items ≡ length (items_of rows)
  pub within : items ≤ capacity
  pub small : capacity < 2 ^ 32
  pub reserved : capacity ≤ room
