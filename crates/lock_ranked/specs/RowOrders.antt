-- Acquisitions of the mutexes of a row.
use Rattle.std.specs.Prelude.{ℕ}
use Rattle.lock_ranked.specs.declared.row.places.RowOrder.{RowOrder}
use Rattle.lock_ranked.specs.declared.row.places.RankedMutexRow.{RankedMutexRow}

module _ {R T K : Type 0} where
  -- the row whose mutexes a row order acquires
  abbrev pub row_of : RowOrder R T K → RankedMutexRow R T K
  row_of row_order = row_order.row.now

  -- the lowest place that is left
  abbrev pub next_of : RowOrder R T K → ℕ
  next_of row_order = row_order.next.value
