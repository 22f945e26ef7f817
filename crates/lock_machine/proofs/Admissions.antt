-- Which acquisitions a register admits, and that they keep the held guards legal. A change of `admits_party` changes
-- these lemmas.
use Rattle.std.proofs.Common.{◌≡◌, ℕ, ◌<◌, ◌≤◌, Bool, true, false, ◌&&◌, ◌==◌, nat_lt, if◌then◌else◌, List, [], ◌∷◌, ◌++◌, length, IsTrue, refl, ap, sym, ◌∙◌, subst, arith, eqb-true, eq-eqb, ltb-true, lt-ltb}
use Rattle.std.proofs.lemmas.Bool.{and_parts, and_from, and_right, ne_eqb}
use Rattle.lock_modes.specs.declared.mode.Mode.{Mode}
use Rattle.lock_modes.specs.Modes.{bag_of, AreCompatible, admits}
use Rattle.lock_modes.specs.Kind.{is_reentrant}
use Rattle.lock_machine.specs.Entries.{Entry, held_entries, held_count, held_bag, modes_of_entries, all_of_party}
use Rattle.lock_modes.specs.Bar.{bar_lets_pass}
use Rattle.lock_machine.specs.Register.{Register, admits_ignoring_bar, admits_party, owns, is_full_count}
use Rattle.lock_machine.specs.Legal.{AreLegallyHeld}
use Rattle.lock_modes.proofs.ModeLemmas.{compatible_acquired, compatible_released, admits-released, admits-beside_exclusive}
use Rattle.lock_machine.proofs.Splices.{EntryMap}
use Rattle.lock_machine.proofs.HeldEntries.{HasOneMore, held_bag-more, held_count-more}

in_then : (b x y : Bool) → b ≡ true → IsTrue (if b then x else y) → IsTrue x
in_then true x y is h = h
in_then false x y is h = cc

in_else : (b x y : Bool) → b ≡ false → IsTrue (if b then x else y) → IsTrue y
in_else true x y is h = cc
in_else false x y is h = h

from_then : (b x y : Bool) → b ≡ true → IsTrue x → IsTrue (if b then x else y)
from_then true x y is h = h
from_then false x y is h = cc

from_else : (b x y : Bool) → b ≡ false → IsTrue y → IsTrue (if b then x else y)
from_else true x y is h = cc
from_else false x y is h = h

-- one more level of the party is admitted next to these
pub record HasNextLevel (r : Register) (party : ℕ) : Type 0 where
  pub own : IsTrue (all_of_party party (held_entries r.entries))
  pub below : held_count r.entries < r.limit

module _ (r : Register) (party : ℕ) (mode : Mode) where
  -- an admitted acquisition
  pub passed_bar : IsTrue (admits_party r party mode) → IsTrue (bar_lets_pass r.bar party mode)
  passed_bar ok = (and_parts (bar_lets_pass r.bar party mode) (admits_ignoring_bar r party mode) ok).0

  pub fitted_in : IsTrue (admits_party r party mode) → IsTrue (admits_ignoring_bar r party mode)
  fitted_in ok = (and_parts (bar_lets_pass r.bar party mode) (admits_ignoring_bar r party mode) ok).1

  -- an admitted level of a reentrant lock
  pub next_level : is_reentrant r.kind ≡ true → IsTrue (admits_ignoring_bar r party mode) → HasNextLevel r party
  next_level nested ok =
      let own : Bool = all_of_party party (held_entries r.entries) in
      let below : Bool = nat_lt (held_count r.entries) r.limit in
      let two = and_parts own below (in_then (is_reentrant r.kind) (own && below) (admits r.limit (held_bag r.entries) mode) nested ok) in
      record { own = two.0; below = ltb-true (held_count r.entries) r.limit two.1 }

  pub admits_ignoring_bar-level : is_reentrant r.kind ≡ true → HasNextLevel r party → IsTrue (admits_ignoring_bar r party mode)
  admits_ignoring_bar-level nested level =
      let own : Bool = all_of_party party (held_entries r.entries) in
      let below : Bool = nat_lt (held_count r.entries) r.limit in
      from_then (is_reentrant r.kind) (own && below) (admits r.limit (held_bag r.entries) mode) nested
      (and_from own below level.own (lt-ltb (held_count r.entries) r.limit level.below))

  -- an admitted guard of another lock
  pub admitted_mode : is_reentrant r.kind ≡ false → IsTrue (admits_ignoring_bar r party mode) → IsTrue (admits r.limit (held_bag r.entries) mode)
  admitted_mode plain ok = in_else (is_reentrant r.kind) _ (admits r.limit (held_bag r.entries) mode) plain ok

  pub admits_ignoring_bar-mode : is_reentrant r.kind ≡ false → IsTrue (admits r.limit (held_bag r.entries) mode) → IsTrue (admits_ignoring_bar r party mode)
  admits_ignoring_bar-mode plain ok = from_else (is_reentrant r.kind) _ (admits r.limit (held_bag r.entries) mode) plain ok

-- nothing is admitted next to an exclusive guard

not_let_in : (let_in admitted : Bool) → (IsTrue let_in → IsTrue admitted) → admitted ≡ false → let_in ≡ false
not_let_in true true h barred = barred
not_let_in true false h barred = sym (h refl)
not_let_in false admitted h barred = refl

pub not_let_in_beside_exclusive : (r : Register) (party : ℕ) (mode : Mode) → is_reentrant r.kind ≡ false → 0 < (held_bag r.entries).exclusive
    → admits_party r party mode ≡ false
not_let_in_beside_exclusive r party mode plain out =
    not_let_in (admits_party r party mode) (admits r.limit (held_bag r.entries) mode)
    (λ ok. admitted_mode r party mode plain (fitted_in r party mode ok))
    (admits-beside_exclusive r.limit (held_bag r.entries) mode out)

-- only the held guards count
pub admits_party-same_held : (r : Register) (es : EntryMap) (party : ℕ) (mode : Mode) → held_entries es ≡ held_entries r.entries
    → admits_party (record r { entries = es }) party mode ≡ admits_party r party mode
admits_party-same_held r es party mode same =
    ap (λ (hs : List Entry). bar_lets_pass r.bar party mode && (if is_reentrant r.kind then all_of_party party hs && nat_lt (length hs) r.limit
    else admits r.limit (bag_of (modes_of_entries hs)) mode)) same

-- the party of the held guards

of_party_removed : (party : ℕ) (hs : List Entry) (e : Entry) (ks : List Entry) → IsTrue (all_of_party party (hs ++ e ∷ ks))
    → (e.party ≡ party) × IsTrue (all_of_party party (hs ++ ks))
of_party_removed party [] e ks h =
    let two = and_parts (e.party == party) (all_of_party party ks) h in (eqb-true e.party party two.0, two.1)
of_party_removed party (x ∷ hs) e ks h =
    let two = and_parts (x.party == party) (all_of_party party (hs ++ e ∷ ks)) h in
    let rest = of_party_removed party hs e ks two.1 in
    (rest.0, and_from (x.party == party) (all_of_party party (hs ++ ks)) two.0 rest.1)

of_party_added : (party : ℕ) (hs : List Entry) (e : Entry) (ks : List Entry) → e.party ≡ party → IsTrue (all_of_party party (hs ++ ks))
    → IsTrue (all_of_party party (hs ++ e ∷ ks))
of_party_added party [] e ks own h =
    and_from (e.party == party) (all_of_party party ks) (eq-eqb e.party party own) h
of_party_added party (x ∷ hs) e ks own h =
    let two = and_parts (x.party == party) (all_of_party party (hs ++ ks)) h in
    and_from (x.party == party) (all_of_party party (hs ++ e ∷ ks)) two.0 (of_party_added party hs e ks own two.1)

-- the held guards stay legal

pub legal_same : (reentrant : Bool) (limit : ℕ) (es other : EntryMap) → held_entries other ≡ held_entries es
    → AreLegallyHeld reentrant limit es
    → AreLegallyHeld reentrant limit other
legal_same true limit es other same h = (
  (h.0.0, subst (λ (hs : List Entry). IsTrue (all_of_party h.0.0 hs)) (sym same) h.0.1),
  subst (λ (hs : List Entry). length hs ≤ limit) (sym same) h.1,
)
legal_same false limit es other same h = subst (λ (hs : List Entry). AreCompatible limit (bag_of (modes_of_entries hs))) (sym same) h

pub legal_fewer : (reentrant : Bool) (limit : ℕ) (e : Entry) (more fewer : EntryMap) → HasOneMore e more fewer
    → AreLegallyHeld reentrant limit more
    → AreLegallyHeld reentrant limit fewer
legal_fewer true limit e more fewer one h =
    let party = h.0.0 in
    let all = subst (λ (hs : List Entry). IsTrue (all_of_party party hs)) one.more_is h.0.1 in
    let rest = of_party_removed party one.before e one.after all in
    let count = held_count-more e more fewer one in
    ((party, subst (λ (hs : List Entry). IsTrue (all_of_party party hs)) (sym one.fewer_is) rest.1), omega (arith, h.1, count))
legal_fewer false limit e more fewer one h =
    compatible_released limit (held_bag fewer) e.mode (subst (AreCompatible limit) (held_bag-more e more fewer one) h)

module _ (r : Register) (party : ℕ) (e : Entry) (more : EntryMap) (one : HasOneMore e more r.entries)
    (own : is_reentrant r.kind ≡ true → e.party ≡ party) where
  -- an admitted guard keeps the held guards legal
  pub legal_more : IsTrue (admits_ignoring_bar r party e.mode) → AreLegallyHeld (is_reentrant r.kind) r.limit r.entries
      → AreLegallyHeld (is_reentrant r.kind) r.limit more
  legal_more ok h = by_kind (is_reentrant r.kind) refl h
    where
      by_kind : (nested : Bool) → is_reentrant r.kind ≡ nested → AreLegallyHeld nested r.limit r.entries → AreLegallyHeld nested r.limit more
      by_kind true nested h =
          let level = next_level r party e.mode nested ok in
          let count = held_count-more e more r.entries one in
          let beside = subst (λ (hs : List Entry). IsTrue (all_of_party party hs)) one.fewer_is level.own in
          let all = of_party_added party one.before e one.after (own nested) beside in (
            (party, subst (λ (hs : List Entry). IsTrue (all_of_party party hs)) (sym one.more_is) all),
            omega (arith, count, level.below),
          )
      by_kind false plain h =
          subst (AreCompatible r.limit) (sym (held_bag-more e more r.entries one))
          (compatible_acquired r.limit (held_bag r.entries) e.mode h (admitted_mode r party e.mode plain ok))

  -- and a guard that was held next to these is admitted again
  pub fits_in_again : AreLegallyHeld (is_reentrant r.kind) r.limit more → IsTrue (admits_ignoring_bar r party e.mode)
  fits_in_again h = by_kind (is_reentrant r.kind) refl h
    where
      by_kind : (nested : Bool) → is_reentrant r.kind ≡ nested → AreLegallyHeld nested r.limit more → IsTrue (admits_ignoring_bar r party e.mode)
      by_kind true nested h =
          let owner : ℕ = h.0.0 in
          let all = subst (λ (hs : List Entry). IsTrue (all_of_party owner hs)) one.more_is h.0.1 in
          let rest = of_party_removed owner one.before e one.after all in
          let beside = subst (λ (hs : List Entry). IsTrue (all_of_party owner hs)) (sym one.fewer_is) rest.1 in
          let count = held_count-more e more r.entries one in
          let within : held_count more ≤ r.limit = h.1 in
          admits_ignoring_bar-level r party e.mode nested (record {
            own = subst (λ (p : ℕ). IsTrue (all_of_party p (held_entries r.entries))) (sym rest.0 ∙ own nested) beside;
            below = omega (arith, count, within);
          })
      by_kind false plain h =
          admits_ignoring_bar-mode r party e.mode plain
          (admits-released r.limit (held_bag r.entries) e.mode (subst (AreCompatible r.limit) (held_bag-more e more r.entries one) h))

  -- without a level there are fewer than the limit
  pub is_full_count-fewer : AreLegallyHeld (is_reentrant r.kind) r.limit more → is_full_count r party ≡ false
  is_full_count-fewer h = by_kind (is_reentrant r.kind) h
    where
      by_kind : (nested : Bool) → AreLegallyHeld nested r.limit more → nested && (owns r party && (held_count r.entries == r.limit)) ≡ false
      by_kind true h =
          let count = held_count-more e more r.entries one in
          let within : held_count more ≤ r.limit = h.1 in
          and_right (owns r party) (held_count r.entries == r.limit) (ne_eqb (held_count r.entries) r.limit (λ full. omega arith))
      by_kind false h = refl
