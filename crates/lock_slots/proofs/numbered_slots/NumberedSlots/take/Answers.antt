use Rattle.std.proofs.Common.{ap}
use Rattle.lock_slots.specs.declared.row.Row.{Row}
use Rattle.lock_slots.specs.Items.{without}
use Rattle.lock_slots.specs.Rows.{items_of}
use Rattle.lock_slots.proofs.Rising.{without_row}
use Rattle.lock_slots.proofs.Kept.{taken, with_items}
use Rattle.lock_slots.proofs.numbered_slots.NumberedSlots.take.Goals as goal

pub invariant_of-self : goal.invariant_of-self
invariant_of-self g c =
    taken c.self.inside.rows.items _ _ _ _ _ _ c.index_mut.result.now _ _ c.self.invariant c.marked_row-row.ensures.row
    c.index_mut.ensures.value c.take-item.ensures.item c.take-item.ensures.left

pub returns-clause-taken : goal.returns-clause-taken
returns-clause-taken g c =
    let gone = ap (λ (r : Row g.row.X.Denot). r.item) c.take-item.ensures.left in
    with_items (without c.args.bookmark.number) (items_of c.self.inside.rows.items) _ _ _ _
    (without_row _ _ c.self.inside.rows.items c.self.invariant.rising _ _ c.index_mut.result.now _ _ c.marked_row-row.ensures.row
    c.index_mut.ensures.value c.take-item.ensures.item gone)
    c.self.view_is
