-- A sound register stays sound, whichever guard is added, removed or changed.
use Rattle.std.proofs.Common.{◌≡◌, ◌≢◌, ◌<◌, ◌∙◌, Bool, ℕ, ◌+◌, ◌≤◌, true, false, [], ◌∷◌, ◌++◌, length, if◌then◌else◌, Option, Some, None, IsTrue, refl, ap, sym, subst, arith, append-nil}
use Rattle.lock_modes.specs.declared.mode.Mode.{Mode}
use Rattle.lock_modes.specs.declared.bag.Bag.{Bag}
use Rattle.lock_modes.specs.declared.kind.Kind.{Kind}
use Rattle.lock_modes.specs.declared.kind.Kind.TheVariants.{Mutex, RwLock, Reentrant}
use Rattle.lock_machine.specs.declared.call.Want.{Want}
use Rattle.lock_machine.specs.declared.call.Want.TheVariants.{Lock, Read, Write, UpgradableRead}
use Rattle.lock_modes.specs.Modes.{one_more, is_exclusive, is_move, may_become, AreCompatible}
use Rattle.lock_modes.specs.Kind.{is_reentrant, is_rwlock}
use Rattle.lock_machine.specs.Entries.{Entry, find, without, update, parked_entry, resumed_entry, in_mode, held_bag}
use Rattle.lock_modes.specs.Bar.{bar_after}
use Rattle.lock_machine.specs.Register.{Register, empty_register, admits_ignoring_bar, with_guard, without_guard, with_change, with_bar, after_admission}
use Rattle.lock_machine.specs.Legal.{AreLegallyHeld, AreNumbered}
use Rattle.lock_machine.specs.Refusals.{has_want, mode_of}
use Rattle.lock_machine.specs.Sound.{FitsKind, IsLimitOf, IsModeOf, HaveModesOf, IsBarOf, IsSound}
use Rattle.lock_modes.proofs.ModeLemmas.{compatible_changed, compatible_empty}
use Rattle.lock_machine.proofs.Splices.{EntryMap, Splice, splice, length-middle, numbered_removed, numbered_changed, numbered_issued}
use Rattle.lock_machine.proofs.HeldEntries.{held_bag-more, more_than_rest, more_than_parked, resumed_is_more, moved_is_more, abandoned_holds_same, issued_is_more}
use Rattle.lock_machine.proofs.Admissions.{legal_same, legal_fewer, legal_more}

-- a new register has no guard
start_legal : (kind : Kind) (limit : ℕ) → AreLegallyHeld (is_reentrant kind) limit []
start_legal Mutex limit = compatible_empty limit
start_legal RwLock limit = compatible_empty limit
start_legal Reentrant limit = ((0, refl), omega arith)

-- no bar fits every kind
pub no_bar : (kind : Kind) → IsBarOf kind None
no_bar Mutex = refl
no_bar RwLock = tt
no_bar Reentrant = refl

pub empty_sound : (kind : Kind) (places limit : ℕ) → IsLimitOf kind limit → IsSound (empty_register kind places limit)
empty_sound kind places limit lawful =
    record {
      legal = record { held = start_legal kind limit; numbered = omega arith; room = omega arith };
      limit = lawful;
      modes = tt;
      bar = no_bar kind;
    }

-- the modes of the kind

have_modes_removed : (kind : Kind) (xs : EntryMap) (x : ℕ × Entry) (ys : EntryMap) → HaveModesOf kind (xs ++ x ∷ ys)
    → IsModeOf kind x.1.mode × HaveModesOf kind (xs ++ ys)
have_modes_removed kind [] x ys h = h
have_modes_removed kind (e ∷ xs) x ys h = let rest = have_modes_removed kind xs x ys h.1 in (rest.0, (h.0, rest.1))

have_modes_added : (kind : Kind) (xs : EntryMap) (x : ℕ × Entry) (ys : EntryMap) → IsModeOf kind x.1.mode → HaveModesOf kind (xs ++ ys)
    → HaveModesOf kind (xs ++ x ∷ ys)
have_modes_added kind [] x ys mode h = (mode, h)
have_modes_added kind (e ∷ xs) x ys mode h = (h.0, have_modes_added kind xs x ys mode h.1)

module _ (r : Register) (sound : IsSound r) where
  pub with_guard_sound : (party : ℕ) (mode : Mode) → IsModeOf r.kind mode → length r.entries ≢ r.places → IsTrue (admits_ignoring_bar r party mode)
      → IsSound (with_guard r party mode)
  with_guard_sound party mode of_kind room fits =
      let e : Entry = record { party = party; mode = mode; held = true } in
      let one = issued_is_more r.entries (r.last + 1) e refl in
      let rest = append-nil r.entries in
      let more = length-middle r.entries (r.last + 1, e) [] in
      let same = ap length rest in
      let within = sound.legal.room in
      record {
        legal = record {
          held = legal_more r party e (r.entries ++ (r.last + 1, e) ∷ []) one (λ nested. refl) fits sound.legal.held;
          numbered = numbered_issued 0 r.last r.entries e sound.legal.numbered;
          room = omega arith;
        };
        limit = sound.limit;
        modes = have_modes_added r.kind r.entries (r.last + 1, e) [] of_kind
            (subst (HaveModesOf r.kind) (sym rest) sound.modes);
        bar = sound.bar;
      }

  module _ (guard : ℕ) (e : Entry) (s : Splice guard e r.entries) where
    whole_numbered : AreNumbered 0 r.last (s.before ++ (guard, e) ∷ s.after)
    whole_numbered = subst (AreNumbered 0 r.last) s.whole sound.legal.numbered

    whole_modes : IsModeOf r.kind e.mode × HaveModesOf r.kind (s.before ++ s.after)
    whole_modes = have_modes_removed r.kind s.before (guard, e) s.after (subst (HaveModesOf r.kind) s.whole sound.modes)

    -- the register without the guard, and with the guard changed, is sound if the held guards are legal
    without_sound : AreLegallyHeld (is_reentrant r.kind) r.limit (without guard r.entries) → IsSound (without_guard r guard)
    without_sound held =
        let whole = ap length s.whole in
        let removed = ap length s.removed in
        let more = length-middle s.before (guard, e) s.after in
        let within = sound.legal.room in
        record {
          legal = record {
            held = held;
            numbered = subst (AreNumbered 0 r.last) (sym s.removed) (numbered_removed 0 r.last s.before (guard, e) s.after whole_numbered);
            room = omega arith;
          };
          limit = sound.limit;
          modes = subst (HaveModesOf r.kind) (sym s.removed) whole_modes.1;
          bar = sound.bar;
        }

    change_sound : (change : Entry → Entry) → IsModeOf r.kind (change e).mode
        → AreLegallyHeld (is_reentrant r.kind) r.limit (update guard change r.entries)
        → IsSound (with_change r guard change)
    change_sound change mode held =
        let whole = ap length s.whole in
        let updated = ap length (s.updated change) in
        let more = length-middle s.before (guard, e) s.after in
        let more_too = length-middle s.before (guard, change e) s.after in
        let within = sound.legal.room in
        record {
          legal = record {
            held = held;
            numbered = subst (AreNumbered 0 r.last) (sym (s.updated change))
                (numbered_changed 0 r.last guard s.before e (change e) s.after whole_numbered);
            room = omega arith;
          };
          limit = sound.limit;
          modes = subst (HaveModesOf r.kind) (sym (s.updated change))
              (have_modes_added r.kind s.before (guard, change e) s.after mode whole_modes.1);
          bar = sound.bar;
        }

    pub unlocked_sound : IsTrue e.held → IsSound (without_guard r guard)
    unlocked_sound held =
        without_sound (legal_fewer (is_reentrant r.kind) r.limit e r.entries (without guard r.entries)
        (more_than_rest guard e r.entries s held) sound.legal.held)

    pub parked_sound : IsTrue e.held → IsSound (with_change r guard parked_entry)
    parked_sound held =
        change_sound parked_entry whole_modes.0
        (legal_fewer (is_reentrant r.kind) r.limit e r.entries (update guard parked_entry r.entries)
        (more_than_parked guard e r.entries s held) sound.legal.held)

    pub resumed_sound : (party : ℕ) → e.held ≡ false → (IsTrue (is_reentrant r.kind) → e.party ≡ party)
        → IsTrue (admits_ignoring_bar r party e.mode)
        → IsSound (with_change r guard resumed_entry)
    resumed_sound party free own ok =
        change_sound resumed_entry whole_modes.0
        (legal_more r party (resumed_entry e) (update guard resumed_entry r.entries)
        (resumed_is_more guard e r.entries s free) own ok sound.legal.held)

    pub abandoned_sound : e.held ≡ false → IsSound (without_guard r guard)
    abandoned_sound free =
        without_sound (legal_same (is_reentrant r.kind) r.limit r.entries (without guard r.entries)
        (abandoned_holds_same guard e r.entries s free) sound.legal.held)

    pub moved_sound : (to : Mode) → IsTrue e.held → r.kind ≡ RwLock → IsTrue (is_move e.mode to) → IsTrue (may_become (held_bag r.entries) to)
        → IsSound (with_change r guard (in_mode to))
    moved_sound to held kind move sole =
        let rest : Bag = held_bag (without guard r.entries) in
        let before : held_bag r.entries ≡ one_more rest e.mode = held_bag-more e r.entries (without guard r.entries)
        (more_than_rest guard e r.entries s held) in
        let after : held_bag (update guard (in_mode to) r.entries) ≡ one_more rest to =
        held_bag-more (in_mode to e) (update guard (in_mode to) r.entries) (without guard r.entries)
        (moved_is_more guard e r.entries s to held) in
        let legal = subst (λ (k : Kind). AreLegallyHeld (is_reentrant k) r.limit r.entries) kind sound.legal.held in
        let changed = compatible_changed r.limit rest e.mode to (subst (λ (k : Kind). IsLimitOf k r.limit) kind sound.limit) move
        (subst (λ (b : Bag). IsTrue (may_become b to)) before sole) (subst (AreCompatible r.limit) before legal) in
        change_sound (in_mode to) (subst (λ (k : Kind). IsModeOf k to) (sym kind) tt)
        (subst (λ (k : Kind). AreLegallyHeld (is_reentrant k) r.limit (update guard (in_mode to) r.entries)) (sym kind)
        (subst (AreCompatible r.limit) (sym after) changed))

-- a guard has a mode of the kind
pub out_mode : (r : Register) (guard : ℕ) (e : Entry) → IsSound r → find guard r.entries ≡ Some e → IsModeOf r.kind e.mode
out_mode r guard e sound found = (whole_modes r sound guard e (splice guard e r.entries found)).0

-- a guard that is removed, or is parked, held or not

pub removed_sound : (r : Register) (guard : ℕ) (e : Entry) → IsSound r → find guard r.entries ≡ Some e → IsSound (without_guard r guard)
removed_sound r guard e sound found = by_held e.held refl
  where
    by_held : (held : Bool) → e.held ≡ held → IsSound (without_guard r guard)
    by_held true is = unlocked_sound r sound guard e (splice guard e r.entries found) is
    by_held false is = abandoned_sound r sound guard e (splice guard e r.entries found) is

pub parked_again_sound : (r : Register) (guard : ℕ) (e : Entry) → IsSound r → find guard r.entries ≡ Some e
    → IsSound (with_change r guard parked_entry)
parked_again_sound r guard e sound found = by_held e.held refl
  where
    place : Splice guard e r.entries
    place = splice guard e r.entries found

    by_held : (held : Bool) → e.held ≡ held → IsSound (with_change r guard parked_entry)
    by_held true is = parked_sound r sound guard e place is
    by_held false is =
        let same : parked_entry e ≡ e = ap (λ (b : Bool). record e { held = b }) (sym is) in
        let entries : update guard parked_entry r.entries ≡ r.entries =
        place.updated parked_entry ∙ ap (λ (x : Entry). place.before ++ (guard, x) ∷ place.after) same ∙ sym place.whole in
        subst (λ (es : EntryMap). IsSound (record r { entries = es })) (sym entries) sound

-- what a new register and a new guard must fit

pub limit_of_kind : (kind : Kind) (limit : ℕ) → 0 < limit → FitsKind kind limit → IsLimitOf kind limit
limit_of_kind Mutex limit positive fits = fits
limit_of_kind RwLock limit positive fits = positive
limit_of_kind Reentrant limit positive fits = positive

pub want_of_kind : (kind : Kind) (want : Want) → IsTrue (has_want kind want) → IsModeOf kind (mode_of want)
want_of_kind Mutex Lock h = refl
want_of_kind Reentrant Lock h = refl
want_of_kind RwLock want h = tt
want_of_kind Mutex Read h = cc
want_of_kind Mutex Write h = refl
want_of_kind Mutex UpgradableRead h = cc
want_of_kind Reentrant Read h = cc
want_of_kind Reentrant Write h = refl
want_of_kind Reentrant UpgradableRead h = cc

pub rwlock_is : (kind : Kind) → IsTrue (is_rwlock kind) → kind ≡ RwLock
rwlock_is Mutex h = cc
rwlock_is RwLock h = refl
rwlock_is Reentrant h = cc

-- skipping to a higher number keeps a register sound

numbered_raised : (low last higher : ℕ) (es : EntryMap) → last ≤ higher → AreNumbered low last es → AreNumbered low higher es
numbered_raised low last higher [] above h = omega arith
numbered_raised low last higher (e ∷ es) above h = (h.0, numbered_raised e.0 last higher es above h.1)

pub raised_sound : (r : Register) (higher : ℕ) → r.last ≤ higher → IsSound r → IsSound (record r { last = higher })
raised_sound r higher above sound = record {
  legal = record {
    held = sound.legal.held;
    numbered = numbered_raised 0 r.last higher r.entries above sound.legal.numbered;
    room = sound.legal.room;
  };
  limit = sound.limit;
  modes = sound.modes;
  bar = sound.bar;
}

-- another bar of the kind keeps a register sound

pub rwlock_bar : (kind : Kind) (bar : Option ℕ) → IsTrue (is_rwlock kind) → IsBarOf kind bar
rwlock_bar Mutex bar h = cc
rwlock_bar RwLock bar h = tt
rwlock_bar Reentrant bar h = cc

pub with_bar_sound : (r : Register) (bar : Option ℕ) → IsBarOf r.kind bar → IsSound r → IsSound (with_bar r bar)
with_bar_sound r bar of_kind sound =
    record {
      legal = record { held = sound.legal.held; numbered = sound.legal.numbered; room = sound.legal.room };
      limit = sound.limit;
      modes = sound.modes;
      bar = of_kind;
    }

pub admitted_sound : (r : Register) (mode : Mode) → IsSound r → IsSound (after_admission r mode)
admitted_sound r mode sound = with_bar_sound r (bar_after r.bar mode) (by_mode (is_exclusive mode)) sound
  where
    by_mode : (ends : Bool) → IsBarOf r.kind (if ends then None else r.bar)
    by_mode true = no_bar r.kind
    by_mode false = sound.bar
