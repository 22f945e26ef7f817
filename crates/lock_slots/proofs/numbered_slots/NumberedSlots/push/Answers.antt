use Rattle.std.proofs.Common.{◌≡◌, ◌+◌, ◌++◌, ◌∷◌, [], length, vec_capacity, arith, ap, sym, ◌∙◌, refl, subst}
use Rattle.lock_slots.specs.declared.numbered_slots.NumberedSlots.TheInside.{Inside}
use Rattle.lock_slots.specs.Rows.{items_of}
use Rattle.lock_slots.specs.NumberedItems.{AreSlotRows, NumberedItems}
use Rattle.lock_slots.proofs.Rising.{items_of-push}
use Rattle.lock_slots.proofs.Kept.{pushed, pushed_view}
use Rattle.lock_slots.proofs.numbered_slots.NumberedSlots.push.Given as given
use Rattle.lock_slots.proofs.numbered_slots.NumberedSlots.push.Goals as goal
use Rattle.lock_slots.proofs.numbered_slots.NumberedSlots.push.Goals.{then-is_crowded, else-is_crowded}

-- an instance with the same items
record IsSame {X : Type 0} (old new : Inside X) : Type 0 where
  roll : AreSlotRows new.rows.items new.items new.capacity new.last (vec_capacity new.rows)
  items : items_of new.rows.items ≡ items_of old.rows.items
  capacity : new.capacity ≡ old.capacity
  counted : new.items ≡ old.items
  last : new.last ≡ old.last

-- before the push the instance has the same items
before : (g : given.Over) (c : goal.After-self-2-1 g) → IsSame c.self.inside c.if-is_crowded.self-inside
before g c =
    elim c.if-is_crowded.branch [
      | then-is_crowded w ↦ subst (λ s. IsSame c.self.inside s) (sym w.self-inside-is) (record {
        roll = record {
          rising = w.clear_away.ensures.rising _ c.self.invariant.rising;
          counted = c.self.invariant.counted ∙ ap length (sym w.clear_away.ensures.items);
          within = c.self.invariant.within;
          small = c.self.invariant.small;
          reserved = rw w.clear_away.ensures.capacity c.self.invariant.reserved;
        };
        items = w.clear_away.ensures.items;
        capacity = refl;
        counted = refl;
        last = refl;
      })
      | else-is_crowded w ↦ subst (λ s. IsSame c.self.inside s) (sym w.self-inside-is)
          (record { roll = c.self.invariant; items = refl; capacity = refl; counted = refl; last = refl })
    ]

pub invariant_of-self : goal.invariant_of-self
invariant_of-self g c =
    let same = before g c in
    let capacity = ap (λ r. r.capacity) c.self.view_is in
    let items = ap (λ r. length r.items) c.self.view_is in
    let fresh = pushed _ c.push_reserved.new.self.items _ _ _ _ c.args.item same.roll
    (omega (
      arith,
      same.capacity,
      same.counted,
      capacity,
      items,
      c.requires.room,
      c.self.invariant.counted,
    )) c.push_reserved.ensures.items in
    rw c.push_reserved.ensures.capacity fresh

pub returns-clause-added : goal.returns-clause-added
returns-clause-added g c =
    let same = before g c in
    let items = ap items_of c.push_reserved.ensures.items
    ∙ items_of-push c.if-is_crowded.self-inside.rows.items (c.if-is_crowded.self-inside.last + 1) c.args.item
    ∙ ap (λ w. w ++ (c.if-is_crowded.self-inside.last + 1, c.args.item) ∷ []) same.items in
    let with_push : NumberedItems g.row.X.Denot → NumberedItems g.row.X.Denot
    = λ r. record r { items = r.items ++ (r.last + 1, c.args.item) ∷ []; last = r.last + 1 } in
    pushed_view _ _ _ _ _ _ c.args.item items same.last same.capacity ∙ ap with_push c.self.view_is
