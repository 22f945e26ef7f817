-- What a call changes on a machine, as its party, the other parties and the bar see it.
use Rattle.std.proofs.Common.{◌≡◌, ℕ, ◌+◌, ◌≤◌, Bool, true, false, not, ◌&&◌, ◌⊎◌, inl, inr, List, [], ◌∷◌, ◌++◌, length, append-nil, Option, Some, None, option_map, is_some, refl, ap, sym, ◌∙◌, arith, eqb-true, eq-eqb}
use Rattle.std.proofs.lemmas.Bool.{ne_eqb}
use Rattle.lock_modes.specs.declared.mode.Mode.{Mode}
use Rattle.lock_modes.specs.declared.mode.Mode.TheVariants.{Shared, Exclusive, Upgradable}
use Rattle.lock_modes.specs.declared.mode_step.ModeStep.TheVariants.{Acquire, Release, Change}
use Rattle.lock_modes.specs.declared.bag.Bag.{Bag}
use Rattle.lock_modes.specs.declared.party.PartyId.{PartyId}
use Rattle.lock_modes.specs.declared.lock_step.LockStep.{LockStep}
use Rattle.lock_modes.specs.declared.lock_step.LockStep.TheVariants as lock_step
use Rattle.lock_modes.specs.declared.hold.Hold.{Hold}
use Rattle.lock_modes.specs.Party.{id_of}
use Rattle.lock_modes.specs.Modes.{one_more, one_less, is_exclusive}
use Rattle.lock_modes.specs.ModeRuns.{bag_after}
use Rattle.lock_modes.specs.Bar.{has_announced, bar_lets_pass, bar_after}
use Rattle.lock_machine.specs.Entries.{Entry, find, without, update, in_mode, held_bag, held_count}
use Rattle.lock_machine.specs.Register.{with_guard, without_guard, with_bar, after_admission}
use Rattle.lock_machine.specs.Machine.{Machine, after_release}
use Rattle.lock_machine.specs.Calls.{with_register, with_mode}
use Rattle.lock_machine.specs.Sound.{IsSound}
use Rattle.lock_modes.proofs.ModeLemmas.{one_less-one_more}
use Rattle.lock_machine.proofs.Splices.{Splice, splice, length-middle}
use Rattle.lock_machine.proofs.HeldEntries.{HasOneMore, held_bag-more, held_count-more, more_than_rest, moved_is_more, issued_is_more}
use Rattle.lock_modes.specs.Holds.{hold_after}
use Rattle.lock_plan.specs.declared.lock.PlanLock.{PlanLock}
use Rattle.lock_plan.specs.Worlds.{bag_on, bar_from}
use Rattle.lock_plan_laws.specs.Scenes.{limit_for}
use Rattle.lock_plan_laws.specs.Bridge.{bag_held_by}
use Rattle.lock_plan_laws.proofs.PartyBags.{own_more, other_more}
use Rattle.lock_plan_laws.proofs.Columns.{hold_of}

-- the machine is what a party of the world sees
pub record IsSeen {T : Type 0} (ids : ℕ → PartyId) (lock : PlanLock) (m : Machine T) (hss : List (List Hold)) (p l : ℕ) : Type 0 where
  pub kind : m.kind ≡ lock.kind
  pub limit : m.limit ≡ limit_for lock.kind lock.limit
  pub sound : IsSound m.register
  pub all : held_bag m.entries ≡ (bag_on l hss)
  pub own : bag_held_by (id_of (ids p)) m.entries ≡ (hold_of hss p l).bag
  pub bar : m.bar ≡ option_map (λ q. id_of (ids q)) (bar_from 0 l hss)
  pub announced : has_announced m.bar (id_of (ids p)) ≡ (hold_of hss p l).announced

-- each guard is held
abbrev pub AreHeld : List (ℕ × Entry) → Type 0
AreHeld entries = length entries ≡ held_count entries

-- after it the party `x` has this hold, all have this bag, the other parties have what they had, and at most one guard is new
pub record Moved {T : Type 0} (m after : Machine T) (x : ℕ) (h : Hold) (bag : Bag) : Type 0 where
  pub own : bag_held_by x after.entries ≡ h.bag
  pub others : (y : ℕ) → (x ≡ y → ⊥) → bag_held_by y after.entries ≡ bag_held_by y m.entries
  pub all : held_bag after.entries ≡ bag
  pub announced : has_announced after.bar x ≡ h.announced
  pub other_bars : (y : ℕ) → (x ≡ y → ⊥) → has_announced after.bar y ≡ has_announced m.bar y
  pub barred : (after.bar ≡ m.bar) ⊎ ((after.bar ≡ None) ⊎ (after.bar ≡ Some x))
  pub last : after.last ≤ m.last + 1
  pub held : AreHeld m.entries → AreHeld after.entries

-- the bag after a call
abbrev pub bag_after_step : Bag → LockStep → Bag
bag_after_step b (lock_step.Modes step) = bag_after b step
bag_after_step b lock_step.Announce = b
bag_after_step b lock_step.Withdraw = b

-- who has announced, when the bar is set, cleared or passed

pub other_announced : (bar : Option ℕ) (x y : ℕ) → has_announced bar x ≡ true → (x ≡ y → ⊥) → false ≡ has_announced bar y
other_announced None x y own other = refl
other_announced (Some a) x y own other = let here = eqb-true a x own in sym (ne_eqb a y (λ same. other (sym here ∙ same)))

pub passed_other : (bar : Option ℕ) (x y : ℕ) (mode : Mode) → bar_lets_pass bar x mode ≡ true → (x ≡ y → ⊥)
    → has_announced (bar_after bar mode) y ≡ has_announced bar y
passed_other bar x y Shared passes other = refl
passed_other None x y Exclusive passes other = refl
passed_other (Some a) x y Exclusive passes other = other_announced (Some a) x y passes other
passed_other bar x y Upgradable passes other = refl

pub none_announced : (bar : Option ℕ) (y : ℕ) → is_some bar ≡ false → false ≡ has_announced bar y
none_announced None y none = refl
none_announced (Some a) y none = cc

own_after : (bar : Option ℕ) (x : ℕ) (mode : Mode) (before : Bool) → has_announced bar x ≡ before
    → has_announced (bar_after bar mode) x ≡ (not (is_exclusive mode) && before)
own_after bar x Shared before is = is
own_after bar x Exclusive before is = refl
own_after bar x Upgradable before is = is

bar_by : (bar : Option ℕ) (x : ℕ) (mode : Mode)
    → (bar_after bar mode ≡ bar) ⊎ ((bar_after bar mode ≡ None) ⊎ (bar_after bar mode ≡ Some x))
bar_by bar x Shared = inl refl
bar_by bar x Exclusive = inr (inl refl)
bar_by bar x Upgradable = inl refl

module _ {T : Type 0} (ids : ℕ → PartyId) (lock : PlanLock) (m : Machine T) (hss : List (List Hold)) (p l : ℕ)
    (seen : IsSeen ids lock m hss p l) where
  abbrev x : ℕ
  x = id_of (ids p)

  -- an acquisition that the bar lets pass
  pub acquired : (mode : Mode) → bar_lets_pass m.bar x mode ≡ true
      → Moved m (with_register m (after_admission (with_guard m.register x mode) mode)) x
      (hold_after (hold_of hss p l) (lock_step.Modes (Acquire mode))) (bag_after_step (bag_on l hss) (lock_step.Modes (Acquire mode)))
  acquired mode passes =
      let new : Entry = record { party = x; mode = mode; held = true } in
      let entries = m.entries ++ (m.last + 1, new) ∷ [] in
      let one : HasOneMore new entries m.entries = issued_is_more m.entries (m.last + 1) new refl in
      record {
        own = own_more x new entries m.entries one refl ∙ ap (λ (b : Bag). one_more b mode) seen.own;
        others = λ y other. other_more y new entries m.entries one other;
        all = held_bag-more new entries m.entries one ∙ ap (λ (b : Bag). one_more b mode) seen.all;
        announced = own_after m.bar x mode (hold_of hss p l).announced seen.announced;
        other_bars = λ y other. passed_other m.bar x y mode passes other;
        barred = bar_by m.bar x mode;
        last = omega arith;
        held = λ all. (let counts = held_count-more new entries m.entries one in
            let long = length-middle m.entries (m.last + 1, new) [] in
            let same : length (m.entries ++ []) ≡ length m.entries = ap length (append-nil m.entries) in
            omega (arith, all, counts, long, same));
      }

  -- the bags without a guard of the party
  module _ (guard : ℕ) (mode : Mode) (found : find guard m.entries ≡ Some (record { party = x; mode = mode; held = true })) where
    abbrev e : Entry
    e = record { party = x; mode = mode; held = true }

    one_fewer : HasOneMore (record { party = x; mode = mode; held = true }) m.entries (without guard m.entries)
    one_fewer = more_than_rest guard (record { party = x; mode = mode; held = true }) m.entries
        (splice guard (record { party = x; mode = mode; held = true }) m.entries found) refl

    own_fewer : bag_held_by x (without guard m.entries) ≡ one_less (hold_of hss p l).bag mode
    own_fewer =
        sym (one_less-one_more (bag_held_by x (without guard m.entries)) mode)
        ∙ ap (λ (b : Bag). one_less b mode) (sym (own_more x e m.entries (without guard m.entries) one_fewer refl) ∙ seen.own)

    all_fewer : held_bag (without guard m.entries) ≡ one_less (bag_on l hss) mode
    all_fewer =
        sym (one_less-one_more (held_bag (without guard m.entries)) mode)
        ∙ ap (λ (b : Bag). one_less b mode) (sym (held_bag-more e m.entries (without guard m.entries) one_fewer) ∙ seen.all)

    other_fewer : (y : ℕ) → (x ≡ y → ⊥) → bag_held_by y (without guard m.entries) ≡ bag_held_by y m.entries
    other_fewer y other = sym (other_more y e m.entries (without guard m.entries) one_fewer other)

    parted : Splice guard (record { party = x; mode = mode; held = true }) m.entries
    parted = splice guard (record { party = x; mode = mode; held = true }) m.entries found

    long_here : length m.entries ≡ length (parted.before ++ parted.after) + 1
    long_here = ap length parted.whole ∙ length-middle parted.before (guard, e) parted.after

    pub released : Moved m (after_release m (without_guard m.register guard)) x
        (hold_after (hold_of hss p l) (lock_step.Modes (Release mode))) (bag_after_step (bag_on l hss) (lock_step.Modes (Release mode)))
    released = record {
      own = own_fewer;
      others = other_fewer;
      all = all_fewer;
      announced = seen.announced;
      other_bars = λ y other. refl;
      barred = inl refl;
      last = omega arith;
      held = λ all. (let counts = held_count-more e m.entries (without guard m.entries) one_fewer in
          let fewer = ap length parted.removed in
          let long = long_here in
          omega (arith, all, counts, fewer, long));
    }

    pub changed : (to : Mode) → Moved m (with_mode m guard to) x
        (hold_after (hold_of hss p l) (lock_step.Modes (Change mode to))) (bag_after_step (bag_on l hss) (lock_step.Modes (Change mode to)))
    changed to =
        let entries = update guard (in_mode to) m.entries in
        let one : HasOneMore (in_mode to e) entries (without guard m.entries) =
        moved_is_more guard e m.entries (splice guard e m.entries found) to refl in
        record {
          own = own_more x (in_mode to e) entries (without guard m.entries) one refl ∙ ap (λ (b : Bag). one_more b to) own_fewer;
          others = λ y other. other_more y (in_mode to e) entries (without guard m.entries) one other ∙ other_fewer y other;
          all = held_bag-more (in_mode to e) entries (without guard m.entries) one ∙ ap (λ (b : Bag). one_more b to) all_fewer;
          announced = seen.announced;
          other_bars = λ y other. refl;
          barred = inl refl;
          last = omega arith;
          held = λ all. (let counts = held_count-more e m.entries (without guard m.entries) one_fewer in
              let again = held_count-more (in_mode to e) entries (without guard m.entries) one in
              let long = long_here in
              let same = ap length (parted.updated (in_mode to)) ∙ length-middle parted.before (guard, in_mode to e) parted.after in
              omega (arith, all, counts, again, long, same));
        }

  pub announced : is_some m.bar ≡ false
      → Moved m (with_register m (with_bar m.register (Some x))) x (hold_after (hold_of hss p l) lock_step.Announce) (bag_on l hss)
  announced none = record {
    own = seen.own;
    others = λ y other. refl;
    all = seen.all;
    announced = eq-eqb x x refl;
    other_bars = λ y other. ne_eqb x y other ∙ none_announced m.bar y none;
    barred = inr (inr refl);
    last = omega arith;
    held = λ all. all;
  }

  pub withdrawn : has_announced m.bar x ≡ true
      → Moved m (with_register m (with_bar m.register None)) x (hold_after (hold_of hss p l) lock_step.Withdraw) (bag_on l hss)
  withdrawn own = record {
    own = seen.own;
    others = λ y other. refl;
    all = seen.all;
    announced = refl;
    other_bars = λ y other. other_announced m.bar x y own other;
    barred = inr (inl refl);
    last = omega arith;
    held = λ all. all;
  }
