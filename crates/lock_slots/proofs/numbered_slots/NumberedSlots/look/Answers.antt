use Rattle.std.proofs.Common.{ap, sym, refl, ◌∙◌}
use Rattle.lock_slots.specs.Items.{find}
use Rattle.lock_slots.proofs.Rising.{find_none, find_row, none_by}
use Rattle.lock_slots.proofs.Kept.{some_is}
use Rattle.lock_slots.proofs.numbered_slots.NumberedSlots.look.Goals as goal

pub returns-in_err-row : goal.returns-in_err-row
returns-in_err-row g c =
    rw c.from_residual.ensures (ap (λ r. find c.args.number r.items) (sym c.self.view_is) ∙ find_none c.args.number c.self.inside.rows.items c.in_err-row.ensures)

pub returns-then-has_item : goal.returns-then-has_item
returns-then-has_item g c =
    let found = find_row _ _ c.self.inside.rows.items c.self.invariant.rising _ _ c.index.result.now c.in_ok-row.ensures c.index.ensures in
    let item = ap (λ r. find c.args.number r.items) (sym c.self.view_is) ∙ found in
    (refl, some_is _ _ item (sym c.has_item.ensures ∙ c.if-has_item.true))

pub returns-else-has_item : goal.returns-else-has_item
returns-else-has_item g c =
    let found = find_row _ _ c.self.inside.rows.items c.self.invariant.rising _ _ c.index.result.now c.in_ok-row.ensures c.index.ensures in
    ap (λ r. find c.args.number r.items) (sym c.self.view_is) ∙ found ∙ none_by _ (sym c.has_item.ensures ∙ c.if-has_item.false)
