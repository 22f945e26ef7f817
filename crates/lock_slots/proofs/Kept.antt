-- Numbered slots after a push, a take and a write.
use Rattle.std.proofs.Common.{◌≡◌, ℕ, ◌+◌, ◌-◌, ◌<◌, List, [], ◌∷◌, ◌++◌, length, set, get_or, is_some, true, refl, sym, ap, ◌∙◌, Option, None, Some, arith, length-append}
use Rattle.std.specs.Prelude.{IsSome}
use Rattle.lock_slots.specs.declared.row.Row.{Row}
use Rattle.lock_slots.specs.Items.{find}
use Rattle.lock_slots.specs.Rows.{items_of, AreRising, IsRow, with_item}
use Rattle.lock_slots.specs.NumberedItems.{AreSlotRows, NumberedItems}
use Rattle.lock_slots.proofs.Rising.{rising_push, items_of-push, rising_set, number_at-get, find_row, without_row, put_row, length-without, length-put}

module _ {X : Type 0} where
  pub pushed : (rows fresh : List (Row X)) (items capacity last room : ℕ) (item : X)
      → AreSlotRows rows items capacity last room → items < capacity
      → fresh ≡ rows ++ record { number = last + 1; item = Some item } ∷ []
      → AreSlotRows fresh (items + 1) capacity (last + 1) room
  pushed rows fresh items capacity last room item h l e =
      let rising : AreRising 0 (rows ++ record { number = last + 1; item = Some item } ∷ []) (last + 1) =
      rising_push 0 last (last + 1) rows (Some item) h.rising (omega arith) in
      let longer = ap length (items_of-push rows (last + 1) item) in
      record {
        rising = rw e rising;
        counted = rw e (omega (arith, longer, length-append (items_of rows) ((last + 1, item) ∷ []), h.counted));
        within = omega arith;
        small = h.small;
        reserved = h.reserved;
      }

  pub taken : (rows : List (Row X)) (items capacity last room i n : ℕ) (r gone : Row X) (item : X)
      → AreSlotRows rows items capacity last room → IsRow n rows i → r ≡ get_or rows i r → r.item ≡ Some item
      → gone ≡ record r { item = None } → AreSlotRows (set rows i gone) (items - 1) capacity last room
  taken rows items capacity last room i n r gone item h at e some left =
      let found = find_row 0 last rows h.rising n i r at e ∙ some in
      let is_there : is_some (find n (items_of rows)) ≡ true = ap is_some found in
      let fewer = length-without n (items_of rows) is_there in
      let rest = ap length (without_row 0 last rows h.rising n i r gone item at e some (ap (λ (w : Row X). w.item) left)) in
      let number = number_at-get rows i r at.inside e ∙ sym (ap (λ (w : Row X). w.number) left) in
      record {
        rising = rising_set 0 last rows i gone h.rising number;
        counted = omega (arith, fewer, rest, h.counted);
        within = omega (arith, h.within);
        small = h.small;
        reserved = h.reserved;
      }

  pub written : (rows : List (Row X)) (items capacity last room i n : ℕ) (r : Row X) (item new : X)
      → AreSlotRows rows items capacity last room → IsRow n rows i → r ≡ get_or rows i r → r.item ≡ Some item
      → AreSlotRows (set rows i (with_item r new)) items capacity last room
  written rows items capacity last room i n r item new h at e some =
      let number = number_at-get rows i r at.inside e in
      record {
        rising = rising_set 0 last rows i (with_item r new) h.rising number;
        counted = h.counted ∙ sym (ap length (put_row 0 last rows h.rising n i r item new at e some) ∙ length-put n new (items_of rows));
        within = h.within;
        small = h.small;
        reserved = h.reserved;
      }

  pub no_none : (o : Option X) → IsSome o → o ≡ None → ⊥
  no_none None h e = cc
  no_none (Some x) h e = cc

  pub some_is : (o p : Option X) → o ≡ p → is_some p ≡ true → IsSome o
  some_is o None e h = cc
  some_is o (Some x) e h = rw e refl

  -- an instance with other items
  pub with_items : (change : List (ℕ × X) → List (ℕ × X)) (items rest : List (ℕ × X)) (capacity last : ℕ) (seen : NumberedItems X)
      → rest ≡ change items → record { items = items; capacity = capacity; last = last } ≡ seen
      → record { items = rest; capacity = capacity; last = last } ≡ record seen { items = change seen.items }
  with_items change items rest capacity last seen e view =
      let view_of : List (ℕ × X) → NumberedItems X = λ es. record { items = es; capacity = capacity; last = last } in
      let changed : NumberedItems X → NumberedItems X = λ s. record s { items = change s.items } in
      ap view_of e ∙ ap changed view

  pub pushed_view : (items old : List (ℕ × X)) (last before capacity room : ℕ) (item : X)
      → items ≡ old ++ (last + 1, item) ∷ [] → last ≡ before → capacity ≡ room
      → ◌≡◌ {A = NumberedItems X} (record { items = items; capacity = capacity; last = last + 1 })
      (record { items = old ++ (before + 1, item) ∷ []; capacity = room; last = before + 1 })
  pushed_view items old last before capacity room item e l p =
      let view : List (ℕ × X) → ℕ → ℕ → NumberedItems X = λ es m n. record { items = es; capacity = m; last = n + 1 } in
      ap (λ es. view es capacity last) e ∙ ap (λ n. view (old ++ (n + 1, item) ∷ []) capacity n) l
      ∙ ap (λ m. view (old ++ (before + 1, item) ∷ []) m before) p
