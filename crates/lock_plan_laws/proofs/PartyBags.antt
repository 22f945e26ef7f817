-- What one party holds of a machine, where a guard is added, removed or changed.
use Rattle.std.proofs.Common.{◌≡◌, ℕ, suc, ◌<◌, ◌≤◌, Bool, true, false, ◌&&◌, ◌==◌, if◌then◌else◌, List, [], ◌∷◌, ◌++◌, length, Some, IsTrue, refl, ap, sym, ◌∙◌, arith, eqb-true, eq-eqb}
use Rattle.std.proofs.lemmas.Bool.{eqb-false, ne_eqb}
use Rattle.lock_modes.specs.declared.mode.Mode.{Mode}
use Rattle.lock_modes.specs.declared.mode.Mode.TheVariants.{Shared, Exclusive, Upgradable}
use Rattle.lock_modes.specs.declared.bag.Bag.{Bag}
use Rattle.lock_modes.specs.Modes.{bag_of, one_more, tokens, count_of}
use Rattle.lock_machine.specs.Entries.{Entry, find, held_entries, held_count, held_bag, modes_of_entries, all_of_party}
use Rattle.lock_machine.specs.Legal.{AreNumbered}
use Rattle.lock_modes.proofs.ModeLemmas.{tokens-one_more}
use Rattle.lock_machine.proofs.Splices.{EntryMap, bag_of-modes-middle}
use Rattle.lock_machine.proofs.HeldEntries.{HasOneMore}
use Rattle.lock_plan_laws.specs.Bridge.{of_party, bag_held_by}

of_party-append : (q : ℕ) (xs ys : List Entry) → of_party q (xs ++ ys) ≡ of_party q xs ++ of_party q ys
of_party-append q [] ys = refl
of_party-append q (x ∷ xs) ys = by_party (x.party == q) (of_party-append q xs ys)
  where
    by_party : (b : Bool) → of_party q (xs ++ ys) ≡ of_party q xs ++ of_party q ys
        → (if b then x ∷ of_party q (xs ++ ys) else of_party q (xs ++ ys)) ≡ (if b then x ∷ of_party q xs else of_party q xs) ++ of_party q ys
    by_party true h = ap (λ (zs : List Entry). x ∷ zs) h
    by_party false h = h

abbrev bag_in : List Entry → Bag
bag_in hs = bag_of (modes_of_entries hs)

-- one guard more is one mode more of its party, and none of another

pub own_more : (q : ℕ) (e : Entry) (more fewer : EntryMap) → HasOneMore e more fewer → e.party ≡ q
    → bag_held_by q more ≡ one_more (bag_held_by q fewer) e.mode
own_more q e more fewer h is =
    ap (λ (hs : List Entry). bag_in (of_party q hs)) h.more_is
    ∙ ap bag_in (of_party-append q h.before (e ∷ h.after))
    ∙ ap (λ (b : Bool). bag_in (of_party q h.before ++ (if b then e ∷ of_party q h.after else of_party q h.after))) (eq-eqb e.party q is)
    ∙ bag_of-modes-middle (of_party q h.before) e (of_party q h.after)
    ∙ ap (λ (hs : List Entry). one_more (bag_in hs) e.mode) (sym (of_party-append q h.before h.after))
    ∙ ap (λ (hs : List Entry). one_more (bag_in (of_party q hs)) e.mode) (sym h.fewer_is)

pub other_more : (q : ℕ) (e : Entry) (more fewer : EntryMap) → HasOneMore e more fewer → (e.party ≡ q → ⊥)
    → bag_held_by q more ≡ bag_held_by q fewer
other_more q e more fewer h other =
    ap (λ (hs : List Entry). bag_in (of_party q hs)) h.more_is
    ∙ ap bag_in (of_party-append q h.before (e ∷ h.after))
    ∙ ap (λ (b : Bool). bag_in (of_party q h.before ++ (if b then e ∷ of_party q h.after else of_party q h.after))) (ne_eqb e.party q other)
    ∙ ap bag_in (sym (of_party-append q h.before h.after))
    ∙ ap (λ (hs : List Entry). bag_in (of_party q hs)) (sym h.fewer_is)

-- how many are held

length-modes : (hs : List Entry) → length (modes_of_entries hs) ≡ length hs
length-modes [] = refl
length-modes (h ∷ hs) = ap suc (length-modes hs)

tokens-bag_of : (ms : List Mode) → tokens (bag_of ms) ≡ length ms
tokens-bag_of [] = refl
tokens-bag_of (m ∷ ms) = let more = tokens-one_more (bag_of ms) m in let rest = tokens-bag_of ms in omega arith

pub tokens-held : (es : EntryMap) → tokens (held_bag es) ≡ held_count es
tokens-held es = tokens-bag_of (modes_of_entries (held_entries es)) ∙ length-modes (held_entries es)

pub tokens-own : (q : ℕ) (es : EntryMap) → tokens (bag_held_by q es) ≡ length (of_party q (held_entries es))
tokens-own q es = tokens-bag_of (modes_of_entries (of_party q (held_entries es))) ∙ length-modes (of_party q (held_entries es))

-- all entries are the party's exactly where it has as many as there are

of_party-fewer : (q : ℕ) (hs : List Entry) → length (of_party q hs) ≤ length hs
of_party-fewer q [] = omega arith
of_party-fewer q (h ∷ hs) = by_party (h.party == q) (of_party-fewer q hs)
  where
    by_party : (b : Bool) → length (of_party q hs) ≤ length hs
        → length (if b then h ∷ of_party q hs else of_party q hs) ≤ suc (length hs)
    by_party true rest = omega arith
    by_party false rest = omega arith

same_next : (a b : ℕ) → (a == b) ≡ (suc a == suc b)
same_next a b = by_equal (a == b) refl
  where
    by_equal : (t : Bool) → (a == b) ≡ t → t ≡ (suc a == suc b)
    by_equal true e = let same = eqb-true a b e in sym (eq-eqb (suc a) (suc b) (omega arith))
    by_equal false e = let other = eqb-false a b e in sym (ne_eqb (suc a) (suc b) (λ same. other (omega arith)))

pub all_of_party-count : (q : ℕ) (hs : List Entry) → all_of_party q hs ≡ (length hs == length (of_party q hs))
all_of_party-count q [] = refl
all_of_party-count q (h ∷ hs) = by_party (h.party == q) (all_of_party-count q hs)
  where
    by_party : (b : Bool) → all_of_party q hs ≡ (length hs == length (of_party q hs))
        → (b && all_of_party q hs) ≡ (suc (length hs) == length (if b then h ∷ of_party q hs else of_party q hs))
    by_party true rest = rest ∙ same_next (length hs) (length (of_party q hs))
    by_party false rest =
        sym (ne_eqb (suc (length hs)) (length (of_party q hs)) (λ same. let few = of_party-fewer q hs in omega arith))

-- numbers

numbered_found : (low last number : ℕ) (e : Entry) (es : EntryMap) → AreNumbered low last es → find number es ≡ Some e → low < number
numbered_found low last number e [] h found = cc
numbered_found low last number e (x ∷ es) h found =
    by_number (x.0 == number) refl found (λ further. numbered_found x.0 last number e es h.1 further)
  where
    by_number : (b : Bool) → (x.0 == number) ≡ b → (if b then Some x.1 else find number es) ≡ Some e
        → (find number es ≡ Some e → x.0 < number) → low < number
    by_number true is f rest = let same = eqb-true x.0 number is in omega (arith, h.0, same)
    by_number false is f rest = let above = rest f in omega (arith, h.0, above)

-- a guard for each mode that a party holds

pub record HasGuard (es : EntryMap) (q : ℕ) (mode : Mode) : Type 0 where
  pub guard : ℕ
  pub found : find guard es ≡ Some (record { party = q; mode = mode; held = true })

further_on : (low last q : ℕ) (mode : Mode) (x : ℕ × Entry) (es : EntryMap) → AreNumbered low last (x ∷ es)
    → HasGuard es q mode → HasGuard (x ∷ es) q mode
further_on low last q mode x es h g =
    let above = numbered_found x.0 last g.guard (record { party = q; mode = mode; held = true }) es h.1 g.found in
    record {
      guard = g.guard;
      found = ap (λ (b : Bool). if b then Some x.1 else find g.guard es) (ne_eqb x.0 g.guard (λ same. omega arith)) ∙ g.found;
    }

at_first : (q : ℕ) (mode : Mode) (x : ℕ × Entry) (es : EntryMap) → x.1 ≡ record { party = q; mode = mode; held = true }
    → HasGuard (x ∷ es) q mode
at_first q mode x es is = record {
  guard = x.0;
  found = ap (λ (b : Bool). if b then Some x.1 else find x.0 es) (eq-eqb x.0 x.0 refl) ∙ ap Some is;
}

-- one more of a mode is that mode, or counts none of another
mode_by : (b : Bag) (more mode : Mode) → (P : Type 0) → (more ≡ mode → P) → (0 < count_of b mode → P)
    → 0 < count_of (one_more b more) mode → P
mode_by b Shared Shared P same rest h = same refl
mode_by b Shared Exclusive P same rest h = rest h
mode_by b Shared Upgradable P same rest h = rest h
mode_by b Exclusive Shared P same rest h = rest h
mode_by b Exclusive Exclusive P same rest h = same refl
mode_by b Exclusive Upgradable P same rest h = rest h
mode_by b Upgradable Shared P same rest h = rest h
mode_by b Upgradable Exclusive P same rest h = rest h
mode_by b Upgradable Upgradable P same rest h = same refl

none_counted : (mode : Mode) → 0 < count_of (bag_of []) mode → ⊥
none_counted Shared h = omega arith
none_counted Exclusive h = omega arith
none_counted Upgradable h = omega arith

entry_is : (e : Entry) (q : ℕ) (mode : Mode) → e.party ≡ q → e.mode ≡ mode → IsTrue e.held
    → e ≡ record { party = q; mode = mode; held = true }
entry_is e q mode party in_mode held =
    ap (λ (n : ℕ). record e { party = n }) party
    ∙ ap (λ (m : Mode). record { party = q; mode = m; held = e.held }) in_mode
    ∙ ap (λ (b : Bool). record { party = q; mode = mode; held = b }) held

pub has_guard : (low last q : ℕ) (mode : Mode) (es : EntryMap) → AreNumbered low last es → 0 < count_of (bag_held_by q es) mode
    → HasGuard es q mode
has_guard low last q mode [] h out = absurd (none_counted mode out)
has_guard low last q mode (x ∷ es) h out =
    by_held x.1.held refl out (λ later. further_on low last q mode x es h (has_guard x.0 last q mode es h.1 later))
  where
    by_party : (b : Bool) → (x.1.party == q) ≡ b → IsTrue x.1.held
        → 0 < count_of (bag_in (if b then x.1 ∷ of_party q (held_entries es) else of_party q (held_entries es))) mode
        → (0 < count_of (bag_held_by q es) mode → HasGuard (x ∷ es) q mode) → HasGuard (x ∷ es) q mode
    by_party true is held more rest =
        mode_by (bag_held_by q es) x.1.mode mode (HasGuard (x ∷ es) q mode)
        (λ same. at_first q mode x es (entry_is x.1 q mode (eqb-true x.1.party q is) same held)) rest more
    by_party false is held more rest = rest more

    by_held : (b : Bool) → x.1.held ≡ b
        → 0 < count_of (bag_in (of_party q (if b then x.1 ∷ held_entries es else held_entries es))) mode
        → (0 < count_of (bag_held_by q es) mode → HasGuard (x ∷ es) q mode) → HasGuard (x ∷ es) q mode
    by_held true is more rest = by_party (x.1.party == q) refl is more rest
    by_held false is more rest = rest more
