-- A call on a guard is refused, or acts on an entry that meets the call's demand.
use Rattle.std.proofs.Common.{◌≡◌, ℕ, Bool, true, false, not, ◌&&◌, ◌==◌, if◌then◌else◌, [], ◌∷◌, Option, Some, None, IsTrue, refl, ap, ◌∙◌, eqb-true, eq-eqb}
use Rattle.std.proofs.lemmas.Bool.{not-false, not_from_true}
use Rattle.lock_modes.specs.declared.fault.Fault.{Fault}
use Rattle.lock_modes.specs.declared.fault.Fault.TheVariants as fault
use Rattle.lock_modes.specs.Kind.{is_reentrant}
use Rattle.lock_machine.specs.Entries.{Entry, find}
use Rattle.lock_machine.specs.Register.{Register}
use Rattle.lock_machine.specs.Machine.{Machine}
use Rattle.lock_machine.specs.Refusals.{Demand, first_refusal, entry_refusal, found_refusal, guard_refusal}
use Rattle.lock_machine.specs.Calls.{CallEffect, refuse, unless, at_entry, on_guard}

-- the entry of the guard meets the demand
pub record Meets (r : Register) (demand : Demand) (party guard : ℕ) (e : Entry) : Type 0 where
  pub found : find guard r.entries ≡ Some e
  pub on_kind : IsTrue (demand.on_kind r.kind)
  pub own : IsTrue (is_reentrant r.kind) → e.party ≡ party
  pub held : e.held ≡ demand.held
  pub in_mode : IsTrue (demand.in_mode e.mode)

-- four tests of which none refuses
pub record AllPassed (a b c d : Bool) : Type 0 where
  pub first : a ≡ false
  pub second : b ≡ false
  pub third : c ≡ false
  pub fourth : d ≡ false

pub all_passed : (a b c d : Bool) (f g h i : Fault) → first_refusal ((a, f) ∷ (b, g) ∷ (c, h) ∷ (d, i) ∷ []) ≡ None → AllPassed a b c d
all_passed true b c d f g h i none = cc
all_passed false true c d f g h i none = cc
all_passed false false true d f g h i none = cc
all_passed false false false true f g h i none = cc
all_passed false false false false f g h i none = record { first = refl; second = refl; third = refl; fourth = refl }

-- two tests of which none refuses
pub both_passed : (a b : Bool) (f g : Fault) → first_refusal ((a, f) ∷ (b, g) ∷ []) ≡ None → (a ≡ false) × (b ≡ false)
both_passed true b f g none = cc
both_passed false true f g none = cc
both_passed false false f g none = (refl, refl)

pub refusal-none : (a b c d : Bool) (f g h i : Fault) → AllPassed a b c d
    → first_refusal ((a, f) ∷ (b, g) ∷ (c, h) ∷ (d, i) ∷ []) ≡ None
refusal-none true b c d f g h i all = cc
refusal-none false true c d f g h i all = cc
refusal-none false false true d f g h i all = cc
refusal-none false false false true f g h i all = cc
refusal-none false false false false f g h i all = refl

kind_passed : (b : Bool) (o : Option Fault) → (if b then o else Some fault.WrongKind) ≡ None → IsTrue b × (o ≡ None)
kind_passed true o h = (refl, h)
kind_passed false o h = cc

kind_passes : (b : Bool) (o : Option Fault) → IsTrue b → o ≡ None → (if b then o else Some fault.WrongKind) ≡ None
kind_passes true o e h = h
kind_passes false o e h = cc

own_party : (reentrant : Bool) (x y : ℕ) → (reentrant && not (x == y)) ≡ false → IsTrue reentrant → x ≡ y
own_party true x y h e = eqb-true x y (not-false (x == y) h)
own_party false x y h e = cc

held_as_asked : (asked held : Bool) → (asked && not held) ≡ false → (not asked && held) ≡ false → held ≡ asked
held_as_asked true true a b = refl
held_as_asked true false a b = cc
held_as_asked false true a b = cc
held_as_asked false false a b = refl

-- an entry that no test refuses meets the demand
meets_from : (r : Register) (demand : Demand) (party guard : ℕ) (e : Entry) → IsTrue (demand.on_kind r.kind)
    → find guard r.entries ≡ Some e
    → entry_refusal r.kind demand party e ≡ None → Meets r demand party guard e
meets_from r demand party guard e kind found none =
    let all = all_passed (is_reentrant r.kind && not (e.party == party)) (demand.held && not e.held) (not demand.held && e.held)
    (not (demand.in_mode e.mode)) _ _ _ _ none in
    record {
      found = found;
      on_kind = kind;
      own = own_party (is_reentrant r.kind) e.party party all.first;
      held = held_as_asked demand.held e.held all.second all.third;
      in_mode = not-false (demand.in_mode e.mode) all.fourth;
    }

module _ {R T : Type 0} where
  -- a fact of each refusal, and of the effect of a call that is not refused, is a fact of the call
  pub of_unless : (P : CallEffect R T → Type 0) (m : Machine T) (o : Option Fault) (turn : CallEffect R T) → ((f : Fault) → P (refuse m f))
      → (o ≡ None → P turn) → P (unless o m turn)
  of_unless P m None turn refused made = made refl
  of_unless P m (Some f) turn refused made = refused f

  of_entry : (P : CallEffect R T → Type 0) (m : Machine T) (demand : Demand) (party guard : ℕ) (act : Entry → CallEffect R T) (o : Option Entry)
      → find guard m.entries ≡ o
      → IsTrue (demand.on_kind m.kind) → found_refusal m.kind demand party o ≡ None
      → ((e : Entry) → Meets m.register demand party guard e → P (act e)) → P (at_entry o m act)
  of_entry P m demand party guard act None found kind none made = cc
  of_entry P m demand party guard act (Some e) found kind none made = made e (meets_from m.register demand party guard e kind found none)

  -- a fact of each refusal, and of the effect on an entry that meets the demand, is a fact of the call
  pub of_guard : (P : CallEffect R T → Type 0) (m : Machine T) (demand : Demand) (party guard : ℕ) (act : Entry → CallEffect R T)
      → ((f : Fault) → P (refuse m f))
      → ((e : Entry) → Meets m.register demand party guard e → P (act e)) → P (on_guard m demand party guard act)
  of_guard P m demand party guard act refused made =
      of_unless P m (guard_refusal m.register demand party guard) (at_entry (find guard m.entries) m act) refused
      (λ none.
      let two = kind_passed (demand.on_kind m.kind) (found_refusal m.kind demand party (find guard m.entries)) none in
      of_entry P m demand party guard act (find guard m.entries) refl two.0 two.1 made)

  pub of_both : (P : CallEffect R T → Type 0) (b : Bool) (x y : CallEffect R T) → (IsTrue b → P x) → (b ≡ false → P y) → P (if b then x else y)
  of_both P true x y one other = one refl
  of_both P false x y one other = other refl

passes_own : (reentrant : Bool) (x y : ℕ) → (IsTrue reentrant → x ≡ y) → (reentrant && not (x == y)) ≡ false
passes_own true x y own = not_from_true (x == y) (eq-eqb x y (own refl))
passes_own false x y own = refl

passes_held : (asked held : Bool) → held ≡ asked → AllPassed (asked && not held) (not asked && held) false false
passes_held true true h = record { first = refl; second = refl; third = refl; fourth = refl }
passes_held true false h = cc
passes_held false true h = cc
passes_held false false h = record { first = refl; second = refl; third = refl; fourth = refl }

-- a call on a guard whose entry meets its demand acts on that entry
pub on_guard-met : {R T : Type 0} (m : Machine T) (demand : Demand) (party guard : ℕ) (act : Entry → CallEffect R T) (e : Entry)
    → Meets m.register demand party guard e → on_guard m demand party guard act ≡ act e
on_guard-met m demand party guard act e meets =
    let held = passes_held demand.held e.held meets.held in
    let all : AllPassed (is_reentrant m.kind && not (e.party == party)) (demand.held && not e.held) (not demand.held && e.held)
    (not (demand.in_mode e.mode)) = record {
      first = passes_own (is_reentrant m.kind) e.party party meets.own;
      second = held.first;
      third = held.second;
      fourth = not_from_true (demand.in_mode e.mode) meets.in_mode;
    } in
    let none : entry_refusal m.kind demand party e ≡ None = refusal-none _ _ _ _ fault.Foreign fault.Parked fault.NotParked fault.WrongMode all in
    let found : found_refusal m.kind demand party (find guard m.entries) ≡ None = ap (found_refusal m.kind demand party) meets.found ∙ none in
    let passed : guard_refusal m.register demand party guard ≡ None =
    kind_passes (demand.on_kind m.kind) (found_refusal m.kind demand party (find guard m.entries)) meets.on_kind found in
    ap (λ (o : Option Fault). unless o m (at_entry (find guard m.entries) m act)) passed ∙ ap (λ (o : Option Entry). at_entry o m act) meets.found
