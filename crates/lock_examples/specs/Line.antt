-- Items in a line.
use Rattle.std.specs.Prelude.{ℕ, Bool, nat_le, ◌==◌, List, length}

pub record Line (T : Type 0) : Type 0 where
  -- the items, the oldest first
  pub items : List T
  -- the capacity
  pub places : ℕ

module _ {T : Type 0} where
  abbrev pub is_full : Line T → Bool
  is_full line = nat_le line.places (length line.items)

  abbrev pub is_empty : Line T → Bool
  is_empty line = length line.items == 0
