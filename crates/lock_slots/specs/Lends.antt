-- What becomes of the slots when a `&mut` to one of the items ends.
use Rattle.std.specs.Prelude.{ℕ}
use Rattle.std.specs.Borrow.{Lends, Fml, RattleType, MutBor}
use Rattle.lock_slots.specs.Items.{put}
use Rattle.lock_slots.specs.NumberedItems.{NumberedItems}
use Rattle.lock_slots.specs.contracts.numbered_slots.NumberedSlots.{the_row}

-- once the borrow r ends, the item under the number is the last value written through r
abbrev pub lends_item : (X : RattleType) → MutBor (NumberedItems X.Denot) → ℕ → MutBor X.Denot → Fml
lends_item X s number r = Lends (the_row X) X s r (λ item. record s.now { items = put number item s.now.items })
