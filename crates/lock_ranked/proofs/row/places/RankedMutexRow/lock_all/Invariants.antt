use Rattle.std.proofs.Common.{◌≡◌, ◌≤◌, map, take}
use Rattle.lock_ranked.specs.Guards.{mutex_of}
use Rattle.lock_ranked.specs.RowOrders.{next_of, row_of}
use Rattle.lock_ranked.specs.Rows.{mutexes_of}
use Rattle.lock_ranked.proofs.row.places.RankedMutexRow.lock_all.Given as goal

abbrev pub invariant-loop-place : goal.invariant-loop-place
invariant-loop-place g l =
    (row_of l.row_order ≡ l.fn.self) × (next_of l.row_order ≤ l.place)
    × (map mutex_of l.guards.items ≡ take l.place (mutexes_of l.fn.self))
