-- Held entries: two lists of which one has a held entry more, and what that means for bags and counts.
use Rattle.std.proofs.Common.{◌≡◌, ℕ, ◌+◌, Bool, false, if◌then◌else◌, List, [], ◌∷◌, ◌++◌, length, IsTrue, refl, ap, sym, ◌∙◌, arith, append-nil, length-append}
use Rattle.lock_modes.specs.declared.mode.Mode.{Mode}
use Rattle.lock_modes.specs.Modes.{bag_of, one_more}
use Rattle.lock_machine.specs.Entries.{Entry, without, update, parked_entry, resumed_entry, in_mode, held_entries, held_count, held_bag, modes_of_entries}
use Rattle.lock_machine.proofs.Splices.{EntryMap, Splice, held-append, bag_of-modes-middle}

-- an entry that is held is unchanged after it was parked and resumed
pub resumed_entry-parked_entry : (e : Entry) → IsTrue e.held → resumed_entry (parked_entry e) ≡ e
resumed_entry-parked_entry e held = ap (λ (b : Bool). record e { held = b }) (sym held)

-- the one list has the held entries of the other, and this entry
pub record HasOneMore (e : Entry) (more fewer : EntryMap) : Type 0 where
  pub before : List Entry
  pub after : List Entry
  pub more_is : held_entries more ≡ before ++ e ∷ after
  pub fewer_is : held_entries fewer ≡ before ++ after

pub held_bag-more : (e : Entry) (more fewer : EntryMap) → HasOneMore e more fewer → held_bag more ≡ one_more (held_bag fewer) e.mode
held_bag-more e more fewer h =
    ap (λ (hs : List Entry). bag_of (modes_of_entries hs)) h.more_is
    ∙ bag_of-modes-middle h.before e h.after
    ∙ ap (λ (hs : List Entry). one_more (bag_of (modes_of_entries hs)) e.mode) (sym h.fewer_is)

length-one_more : (hs : List Entry) (e : Entry) (ks : List Entry) → length (hs ++ e ∷ ks) ≡ length (hs ++ ks) + 1
length-one_more hs e ks = simp length-append (omega arith)

pub held_count-more : (e : Entry) (more fewer : EntryMap) → HasOneMore e more fewer → held_count more ≡ held_count fewer + 1
held_count-more e more fewer h =
    ap length h.more_is ∙ length-one_more h.before e h.after ∙ ap (λ (hs : List Entry). length hs + 1) (sym h.fewer_is)

-- an entry that is held, or is not, at its place

held_here : (xs : EntryMap) (number : ℕ) (e : Entry) (ys : EntryMap) → IsTrue e.held
    → held_entries (xs ++ (number, e) ∷ ys) ≡ held_entries xs ++ e ∷ held_entries ys
held_here xs number e ys held =
    held-append xs ((number, e) ∷ ys) ∙ ap (λ (b : Bool). held_entries xs ++ (if b then e ∷ held_entries ys else held_entries ys)) held

held_past : (xs : EntryMap) (number : ℕ) (e : Entry) (ys : EntryMap) → e.held ≡ false
    → held_entries (xs ++ (number, e) ∷ ys) ≡ held_entries xs ++ held_entries ys
held_past xs number e ys free =
    held-append xs ((number, e) ∷ ys) ∙ ap (λ (b : Bool). held_entries xs ++ (if b then e ∷ held_entries ys else held_entries ys)) free

module _ (guard : ℕ) (e : Entry) (es : EntryMap) (s : Splice guard e es) where
  -- of two lists that differ only at this guard, one may have it held, and the other parked or not at all

  whole_held : IsTrue e.held → held_entries es ≡ held_entries s.before ++ e ∷ held_entries s.after
  whole_held held = ap held_entries s.whole ∙ held_here s.before guard e s.after held

  whole_parked : e.held ≡ false → held_entries es ≡ held_entries s.before ++ held_entries s.after
  whole_parked free = ap held_entries s.whole ∙ held_past s.before guard e s.after free

  rest_held : held_entries (without guard es) ≡ held_entries s.before ++ held_entries s.after
  rest_held = ap held_entries s.removed ∙ held-append s.before s.after

  updated_held : (change : Entry → Entry) → IsTrue (change e).held
      → held_entries (update guard change es) ≡ held_entries s.before ++ change e ∷ held_entries s.after
  updated_held change held = ap held_entries (s.updated change) ∙ held_here s.before guard (change e) s.after held

  updated_parked : (change : Entry → Entry) → (change e).held ≡ false
      → held_entries (update guard change es) ≡ held_entries s.before ++ held_entries s.after
  updated_parked change free = ap held_entries (s.updated change) ∙ held_past s.before guard (change e) s.after free

  pub more_than_rest : IsTrue e.held → HasOneMore e es (without guard es)
  more_than_rest held =
      record { before = held_entries s.before; after = held_entries s.after; more_is = whole_held held; fewer_is = rest_held }

  pub more_than_parked : IsTrue e.held → HasOneMore e es (update guard parked_entry es)
  more_than_parked held =
      record {
        before = held_entries s.before;
        after = held_entries s.after;
        more_is = whole_held held;
        fewer_is = updated_parked parked_entry refl;
      }

  pub resumed_is_more : e.held ≡ false → HasOneMore (resumed_entry e) (update guard resumed_entry es) es
  resumed_is_more free =
      record {
        before = held_entries s.before;
        after = held_entries s.after;
        more_is = updated_held resumed_entry refl;
        fewer_is = whole_parked free;
      }

  pub moved_is_more : (to : Mode) → IsTrue e.held → HasOneMore (in_mode to e) (update guard (in_mode to) es) (without guard es)
  moved_is_more to held =
      record {
        before = held_entries s.before;
        after = held_entries s.after;
        more_is = updated_held (in_mode to) held;
        fewer_is = rest_held;
      }

  pub abandoned_holds_same : e.held ≡ false → held_entries (without guard es) ≡ held_entries es
  abandoned_holds_same free = rest_held ∙ sym (whole_parked free)

pub issued_is_more : (es : EntryMap) (number : ℕ) (e : Entry) → IsTrue e.held → HasOneMore e (es ++ (number, e) ∷ []) es
issued_is_more es number e held =
    record { before = held_entries es; after = []; more_is = held_here es number e [] held; fewer_is = sym (append-nil (held_entries es)) }
