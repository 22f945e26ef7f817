-- An entry among others: each change of the entries adds one at a place, removes it, or replaces it.
use Rattle.std.proofs.Common.{◌≡◌, ℕ, ◌+◌, ◌≤◌, Bool, true, false, ◌==◌, if◌then◌else◌, List, [], ◌∷◌, ◌++◌, length, Some, None, refl, ap, sym, ◌∙◌, arith, eqb-true, length-append}
use Rattle.lock_modes.specs.declared.mode.Mode.{Mode}
use Rattle.lock_modes.specs.Modes.{bag_of, one_more}
use Rattle.lock_machine.specs.Entries.{Entry, find, without, update, held_entries, modes_of_entries}
use Rattle.lock_machine.specs.Legal.{AreNumbered}
use Rattle.lock_modes.proofs.ModeLemmas.{bag_of-middle}

-- the guards, each under its number
abbrev pub EntryMap : Type 0
EntryMap = List (ℕ × Entry)

-- the entry of the guard is between these two parts of the list
pub record Splice (guard : ℕ) (e : Entry) (es : EntryMap) : Type 0 where
  pub before : EntryMap
  pub after : EntryMap
  pub whole : es ≡ before ++ (guard, e) ∷ after
  pub removed : without guard es ≡ before ++ after
  pub updated : (change : Entry → Entry) → update guard change es ≡ before ++ (guard, change e) ∷ after

splice_at : (guard : ℕ) (e : Entry) (x : ℕ × Entry) (es : EntryMap) (here : Bool) → (x.0 == guard) ≡ here
    → (if here then Some x.1 else find guard es) ≡ Some e
    → (find guard es ≡ Some e → Splice guard e es) → Splice guard e (x ∷ es)
splice_at guard e x es true at found rest =
    let number : x.0 ≡ guard = eqb-true x.0 guard at in
    let entry : x.1 ≡ e = cc in
    let pair : x ≡ (guard, e) = ap (λ (n : ℕ). (n, x.1)) number ∙ ap (λ (y : Entry). (guard, y)) entry in
    record {
      before = [];
      after = es;
      whole = ap (λ (y : ℕ × Entry). y ∷ es) pair;
      removed = ap (λ (b : Bool). if b then es else x ∷ without guard es) at;
      updated = λ change. ap (λ (b : Bool). if b then (x.0, change x.1) ∷ es else x ∷ update guard change es) at
          ∙ ap (λ (y : ℕ × Entry). (y.0, change y.1) ∷ es) pair;
    }
splice_at guard e x es false at found rest =
    let s = rest found in
    record {
      before = x ∷ s.before;
      after = s.after;
      whole = ap (λ (ys : EntryMap). x ∷ ys) s.whole;
      removed = ap (λ (b : Bool). if b then es else x ∷ without guard es) at ∙ ap (λ (ys : EntryMap). x ∷ ys) s.removed;
      updated = λ change. ap (λ (b : Bool). if b then (x.0, change x.1) ∷ es else x ∷ update guard change es) at
          ∙ ap (λ (ys : EntryMap). x ∷ ys) (s.updated change);
    }

pub splice : (guard : ℕ) (e : Entry) (es : EntryMap) → find guard es ≡ Some e → Splice guard e es
splice guard e [] found = cc
splice guard e (x ∷ es) found = splice_at guard e x es (x.0 == guard) refl found (splice guard e es)

-- a guard whose entry is changed, and changed back

find_updated : (x : ℕ × Entry) (guard : ℕ) (change : Entry → Entry) (e : Entry) (es : EntryMap) (here : Bool) → (x.0 == guard) ≡ here
    → (if here then Some x.1 else find guard es) ≡ Some e → (find guard es ≡ Some e → find guard (update guard change es) ≡ Some (change e))
    → find guard (if here then (x.0, change x.1) ∷ es else x ∷ update guard change es) ≡ Some (change e)
find_updated x guard change e es true at found rest =
    let is : x.1 ≡ e = cc in ap (λ (b : Bool). if b then Some (change x.1) else find guard es) at ∙ ap (λ (y : Entry). Some (change y)) is
find_updated x guard change e es false at found rest =
    ap (λ (b : Bool). if b then Some x.1 else find guard (update guard change es)) at ∙ rest found

pub find-update : (guard : ℕ) (change : Entry → Entry) (e : Entry) (es : EntryMap) → find guard es ≡ Some e
    → find guard (update guard change es) ≡ Some (change e)
find-update guard change e [] found = cc
find-update guard change e (x ∷ es) found = find_updated x guard change e es (x.0 == guard) refl found (find-update guard change e es)

updated_twice : (x : ℕ × Entry) (guard : ℕ) (first second : Entry → Entry) (es : EntryMap) (here : Bool) → (x.0 == guard) ≡ here
    → update guard second (update guard first es) ≡ update guard (λ e. second (first e)) es
    → update guard second (if here then (x.0, first x.1) ∷ es else x ∷ update guard first es) ≡ (if here then
    (x.0, second (first x.1)) ∷ es else x ∷ update guard (λ e. second (first e)) es)
updated_twice x guard first second es true at rest =
    ap (λ (b : Bool). if b then (x.0, second (first x.1)) ∷ es else (x.0, first x.1) ∷ update guard second es) at
updated_twice x guard first second es false at rest =
    ap (λ (b : Bool). if b then (x.0, second x.1) ∷ update guard first es else x ∷ update guard second (update guard first es)) at
    ∙ ap (λ (ys : EntryMap). x ∷ ys) rest

update-update : (guard : ℕ) (first second : Entry → Entry) (es : EntryMap)
    → update guard second (update guard first es) ≡ update guard (λ e. second (first e)) es
update-update guard first second [] = refl
update-update guard first second (x ∷ es) = updated_twice x guard first second es (x.0 == guard) refl (update-update guard first second es)

pub update-back : (guard : ℕ) (change back : Entry → Entry) (e : Entry) (es : EntryMap) → find guard es ≡ Some e → back (change e) ≡ e
    → update guard back (update guard change es) ≡ es
update-back guard change back e es found undone =
    let s = splice guard e es found in
    update-update guard change back es ∙ s.updated (λ x. back (change x))
    ∙ ap (λ (x : Entry). s.before ++ (guard, x) ∷ s.after) undone ∙ sym s.whole

-- behind entries of other numbers a number is found further on
pub find-append : (number : ℕ) (es fs : EntryMap) → find number es ≡ None → find number (es ++ fs) ≡ find number fs
find-append number [] fs none = refl
find-append number (e ∷ es) fs none = past (e.0 == number) none (find-append number es fs)
  where
    past : (here : Bool) → (if here then Some e.1 else find number es) ≡ None
        → (find number es ≡ None → find number (es ++ fs) ≡ find number fs)
        → (if here then Some e.1 else find number (es ++ fs)) ≡ find number fs
    past true none rest = cc
    past false none rest = rest none

-- lists of entries with one at a place

pub length-middle : (xs : EntryMap) (x : ℕ × Entry) (ys : EntryMap) → length (xs ++ x ∷ ys) ≡ length (xs ++ ys) + 1
length-middle xs x ys = simp length-append (omega arith)

-- the numbers
numbered_lower : (low higher last : ℕ) (es : EntryMap) → low ≤ higher → AreNumbered higher last es → AreNumbered low last es
numbered_lower low higher last [] below h = omega arith
numbered_lower low higher last (e ∷ es) below h = (omega arith, h.1)

pub numbered_removed : (low last : ℕ) (xs : EntryMap) (x : ℕ × Entry) (ys : EntryMap) → AreNumbered low last (xs ++ x ∷ ys)
    → AreNumbered low last (xs ++ ys)
numbered_removed low last [] x ys h = numbered_lower low x.0 last ys (omega arith) h.1
numbered_removed low last (e ∷ xs) x ys h = (h.0, numbered_removed e.0 last xs x ys h.1)

pub numbered_changed : (low last number : ℕ) (xs : EntryMap) (e other : Entry) (ys : EntryMap)
    → AreNumbered low last (xs ++ (number, e) ∷ ys)
    → AreNumbered low last (xs ++ (number, other) ∷ ys)
numbered_changed low last number [] e other ys h = h
numbered_changed low last number (x ∷ xs) e other ys h = (h.0, numbered_changed x.0 last number xs e other ys h.1)

pub numbered_issued : (low last : ℕ) (es : EntryMap) (e : Entry) → AreNumbered low last es
    → AreNumbered low (last + 1) (es ++ (last + 1, e) ∷ [])
numbered_issued low last [] e h = (omega arith, omega arith)
numbered_issued low last (x ∷ es) e h = (h.0, numbered_issued x.0 last es e h.1)

-- the held entries
pub held-append : (xs ys : EntryMap) → held_entries (xs ++ ys) ≡ held_entries xs ++ held_entries ys
held-append [] ys = refl
held-append (x ∷ xs) ys = held_if x.1.held x.1 (held_entries (xs ++ ys)) (held_entries xs) (held_entries ys) (held-append xs ys)
  where
    held_if : (b : Bool) (e : Entry) (all hs ks : List Entry) → all ≡ hs ++ ks
        → (if b then e ∷ all else all) ≡ (if b then e ∷ hs else hs) ++ ks
    held_if true e all hs ks h = ap (λ (zs : List Entry). e ∷ zs) h
    held_if false e all hs ks h = h

modes-append : (hs ks : List Entry) → modes_of_entries (hs ++ ks) ≡ modes_of_entries hs ++ modes_of_entries ks
modes-append [] ks = refl
modes-append (h ∷ hs) ks = ap (λ (ms : List Mode). h.mode ∷ ms) (modes-append hs ks)

pub bag_of-modes-middle : (hs : List Entry) (e : Entry) (ks : List Entry)
    → bag_of (modes_of_entries (hs ++ e ∷ ks)) ≡ one_more (bag_of (modes_of_entries (hs ++ ks))) e.mode
bag_of-modes-middle hs e ks = rw (modes-append hs (e ∷ ks), modes-append hs ks)
    (bag_of-middle (modes_of_entries hs) e.mode (modes_of_entries ks))
