use Rattle.std.proofs.Common.{ap, sym, ◌∙◌, refl}
use Rattle.lock_slots.specs.Items.{find, put}
use Rattle.lock_slots.specs.Rows.{items_of}
use Rattle.lock_slots.proofs.Rising.{put_row}
use Rattle.lock_slots.proofs.Kept.{with_items, written}
use Rattle.lock_slots.proofs.numbered_slots.NumberedSlots.item_mut.Goals as goal

pub invariant_of-self-lent : goal.invariant_of-self-lent
invariant_of-self-lent g c w =
    written c.self.inside.rows.items _ _ _ _ _ _ c.index_mut.result.now _ w c.self.invariant c.marked_row-row.ensures.row
    c.index_mut.ensures.value c.item_mut.ensures.value

pub returns : goal.returns
returns g c =
    let found = ap (λ r. find c.args.bookmark.number r.items) (sym c.self.view_is) ∙ c.marked_row-row.ensures.found _ c.index_mut.ensures.value in (
      (
        refl,
        λ w. with_items (put c.args.bookmark.number w) (items_of c.self.inside.rows.items) _ _ _ _
            (put_row _ _ c.self.inside.rows.items c.self.invariant.rising _ _ c.index_mut.result.now _ w c.marked_row-row.ensures.row
            c.index_mut.ensures.value c.item_mut.ensures.value) c.self.view_is,
      ),
      record { writes_back = tt; item = found ∙ c.item_mut.ensures.value },
    )
