-- A machine without its parked guards.
use Rattle.std.proofs.Common.{◌≡◌, ℕ, Bool, true, false, not, ◌&&◌, ◌==◌, if◌then◌else◌, List, [], ◌∷◌, length, Option, Some, None, Result, Ok, Err, IsTrue, refl, ap, sym, ◌∙◌}
use Rattle.lock_modes.specs.declared.mode.Mode.TheVariants.{Exclusive}
use Rattle.lock_modes.specs.declared.fault.Fault.{Fault}
use Rattle.lock_modes.specs.declared.fault.Fault.TheVariants as fault
use Rattle.lock_modes.specs.Modes.{bag_of, may_become}
use Rattle.lock_modes.specs.Kind.{is_reentrant, is_rwlock}
use Rattle.lock_machine.specs.Entries.{Entry, find, held_entries, held_bag, modes_of_entries, some_of_party}
use Rattle.lock_machine.specs.Machine.{Machine}
use Rattle.lock_machine.specs.Refusals.{found_refusal, upgradable_guard}
use Rattle.lock_machine.specs.Calls.{refuse, give, unless, at_entry, with_mode, upgrade}
use Rattle.lock_machine.proofs.Splices.{EntryMap}
use Rattle.lock_machine.proofs.Admissions.{admits_party-same_held}
use Rattle.lock_machine.specs.Exclusion.{IsHeld}
use Rattle.lock_machine.specs.Parked.{held_part, without_parked, ParkedGuardsHoldNothing}

held_entries-held_part : (es : EntryMap) → held_entries (held_part es) ≡ held_entries es
held_entries-held_part [] = refl
held_entries-held_part (e ∷ es) = by_held e.1.held refl (held_entries-held_part es)
  where
    by_held : (held : Bool) → e.1.held ≡ held → held_entries (held_part es) ≡ held_entries es
        → held_entries (if held then e ∷ held_part es else held_part es) ≡ (if held then e.1 ∷ held_entries es else held_entries es)
    by_held true is rest =
        ap (λ (b : Bool). if b then e.1 ∷ held_entries (held_part es) else held_entries (held_part es)) is
        ∙ ap (λ (hs : List Entry). e.1 ∷ hs) rest
    by_held false is rest = rest

-- a held guard is found among the held ones
find-held_part : (guard : ℕ) (e : Entry) (es : EntryMap) → find guard es ≡ Some e → IsTrue e.held → find guard (held_part es) ≡ Some e
find-held_part guard e [] found held = cc
find-held_part guard e (x ∷ es) found held =
    by_number (x.0 == guard) refl found (λ further. find-held_part guard e es further held)
  where
    past : (b : Bool) → (x.0 == guard) ≡ false → find guard (held_part es) ≡ Some e
        → find guard (if b then x ∷ held_part es else held_part es) ≡ Some e
    past true other rest = ap (λ (b : Bool). if b then Some x.1 else find guard (held_part es)) other ∙ rest
    past false other rest = rest

    here : (b : Bool) → x.1.held ≡ b → (x.0 == guard) ≡ true → x.1 ≡ e
        → find guard (if b then x ∷ held_part es else held_part es) ≡ Some e
    here true is at same = ap (λ (b : Bool). if b then Some x.1 else find guard (held_part es)) at ∙ ap Some same
    here false is at same = let wrong : true ≡ false = sym held ∙ sym (ap (λ (y : Entry). y.held) same) ∙ is in cc

    by_number : (b : Bool) → (x.0 == guard) ≡ b → (if b then Some x.1 else find guard es) ≡ Some e
        → (find guard es ≡ Some e → find guard (held_part es) ≡ Some e)
        → find guard (if x.1.held then x ∷ held_part es else held_part es) ≡ Some e
    by_number true at found rest = let same : x.1 ≡ e = cc in here x.1.held refl at same
    by_number false other found rest = past x.1.held other (rest found)

module _ {R T : Type 0} (m n : Machine T) where
  -- an answer about a lock of some kind, or a refusal
  same_told : (b : Bool) (x y : R) → x ≡ y
      → (if b then give x m else refuse m fault.WrongKind).answer ≡ (if b then give y n else refuse n fault.WrongKind).answer
  same_told true x y same = ap Ok same
  same_told false x y same = refl

-- the answer to an upgrade, by its refusal, the entry that is found, and whether that is the only one held
upgrade_answer : Option Fault → Option Entry → Bool → Result (Option (Unit {0})) Fault
upgrade_answer (Some f) found sole = Err f
upgrade_answer None None sole = Err fault.UnknownGuard
upgrade_answer None (Some e) true = Ok (Some tt)
upgrade_answer None (Some e) false = Ok None

module _ {T : Type 0} (m : Machine T) (party guard : ℕ) where
  abbrev refusal_of : Option Entry → Option Fault
  refusal_of found = if is_rwlock m.kind then found_refusal m.kind upgradable_guard party found else Some fault.WrongKind

  answer-upgrade : (n : Machine T) (refusal : Option Fault) (found : Option Entry) (sole : Bool)
      → (unless refusal n (at_entry found n (λ e. if sole then give (Some tt) (with_mode n guard Exclusive) else give None n))).answer
      ≡ upgrade_answer refusal found sole
  unfolding upgrade_answer
  answer-upgrade n (Some f) found sole = refl
  answer-upgrade n None None sole = refl
  answer-upgrade n None (Some e) true = refl
  answer-upgrade n None (Some e) false = refl

  same_upgrade : IsHeld m.register guard → (upgrade (without_parked m) party guard).answer ≡ (upgrade m party guard).answer
  same_upgrade holder =
      let alone : EntryMap = held_part m.entries in
      let found : find guard alone ≡ find guard m.entries =
      find-held_part guard holder.entry m.entries holder.found holder.held ∙ sym holder.found in
      let sole : may_become (held_bag alone) Exclusive ≡ may_become (held_bag m.entries) Exclusive =
      ap (λ (hs : List Entry). may_become (bag_of (modes_of_entries hs)) Exclusive) (held_entries-held_part m.entries) in
      answer-upgrade (without_parked m) (refusal_of (find guard alone)) (find guard alone) (may_become (held_bag alone) Exclusive)
      ∙ ap (λ (o : Option Entry). upgrade_answer (refusal_of o) o (may_become (held_bag alone) Exclusive)) found
      ∙ ap (λ (b : Bool). upgrade_answer (refusal_of (find guard m.entries)) (find guard m.entries) b) sole
      ∙ sym (answer-upgrade m (refusal_of (find guard m.entries)) (find guard m.entries) (may_become (held_bag m.entries) Exclusive))

pub parked_hold_nothing : {T : Type 0} → ParkedGuardsHoldNothing T
parked_hold_nothing m =
    let same = held_entries-held_part m.entries in
    let one_exclusive : List Entry → Bool = λ hs. not ((bag_of (modes_of_entries hs)).exclusive == 0) in
    record {
      admission = λ party mode. admits_party-same_held m.register (held_part m.entries) party mode same;
      full = λ party. ap (λ (hs : List Entry). is_reentrant m.kind && (some_of_party party hs && (length hs == m.limit))) same;
      locked = ap (λ (hs : List Entry). not (length hs == 0)) same;
      exclusive = same_told (without_parked m) m (is_rwlock m.kind) _ _ (ap one_exclusive same);
      owned = λ party. same_told (without_parked m) m (is_reentrant m.kind) _ _ (ap (some_of_party party) same);
      upgraded = λ party guard holder. same_upgrade m party guard holder;
    }
