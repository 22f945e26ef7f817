-- An acquisition of a plan is refused by no machine, and is admitted where the world admits it.
use Rattle.std.proofs.Common.{◌≡◌, ℕ, ◌+◌, ◌-◌, ◌<◌, ◌^◌, Bool, true, false, not, ◌&&◌, ◌||◌, ◌==◌, nat_lt, if◌then◌else◌, List, [], ◌∷◌, length, Option, Some, None, option_map, refl, ap, sym, ◌∙◌, subst, arith, eqb-true, eq-eqb, ltb-true, lt-ltb}
use Rattle.std.proofs.lemmas.Bool.{ne_eqb, eqb-false, and_parts, not-false}
use Rattle.lock_modes.specs.declared.mode.Mode.{Mode}
use Rattle.lock_modes.specs.declared.mode.Mode.TheVariants.{Shared, Exclusive, Upgradable}
use Rattle.lock_modes.specs.declared.mode_step.ModeStep.TheVariants.{Acquire}
use Rattle.lock_modes.specs.declared.bag.Bag.{Bag}
use Rattle.lock_modes.specs.declared.kind.Kind.{Kind}
use Rattle.lock_modes.specs.declared.kind.Kind.TheVariants.{Mutex, RwLock, Reentrant}
use Rattle.lock_modes.specs.declared.party.PartyId.{PartyId}
use Rattle.lock_modes.specs.declared.fault.Fault.TheVariants as fault
use Rattle.lock_modes.specs.declared.hold.Hold.{Hold}
use Rattle.lock_modes.specs.Party.{id_of}
use Rattle.lock_modes.specs.Modes.{tokens, is_exclusive, admits}
use Rattle.lock_modes.specs.Kind.{is_reentrant, is_rwlock}
use Rattle.lock_modes.specs.Bar.{bar_lets_pass}
use Rattle.lock_machine.specs.Entries.{Entry, held_entries, held_bag, held_count, all_of_party, some_of_party}
use Rattle.lock_machine.specs.Register.{admits_ignoring_bar, admits_party, owns, is_full_count}
use Rattle.lock_machine.specs.Legal.{AreLegallyHeld}
use Rattle.lock_machine.specs.Machine.{Machine}
use Rattle.lock_machine.specs.Refusals.{has_want, mode_of, acquisition_refusal}
use Rattle.lock_machine.proofs.CallEffects.{refusal-none}
use Rattle.lock_plan.specs.declared.lock.PlanLock.{PlanLock}
use Rattle.lock_plan.specs.Worlds.{bag_on, bar_from, lock_holds}
use Rattle.lock_plan.specs.Holds.{admits_step}
use Rattle.lock_plan_laws.specs.MachineTurns.{want_for}
use Rattle.lock_plan_laws.specs.Scenes.{limit_for}
use Rattle.lock_plan_laws.specs.Bridge.{of_party, AreDistinct}
use Rattle.lock_plan_laws.proofs.PartyBags.{tokens-held, tokens-own, all_of_party-count}
use Rattle.lock_plan_laws.proofs.Columns.{hold_of}
use Rattle.lock_plan_laws.proofs.Moves.{IsSeen}

pub wanted_by_kind : (kind : Kind) (mode : Mode) → (is_exclusive mode || is_rwlock kind) ≡ true → has_want kind (want_for kind mode) ≡ true
wanted_by_kind Mutex Exclusive h = refl
wanted_by_kind RwLock Exclusive h = refl
wanted_by_kind Reentrant Exclusive h = refl
wanted_by_kind kind mode h = cc

pub mode_wanted : (kind : Kind) (mode : Mode) → mode_of (want_for kind mode) ≡ mode
mode_wanted kind Shared = refl
mode_wanted Mutex Exclusive = refl
mode_wanted kind mode = refl

-- of entries of one party, another has none
one_owner : (q x : ℕ) (hs : List Entry) → all_of_party q hs ≡ true → some_of_party x hs ≡ true → q ≡ x
one_owner q x [] all some = cc
one_owner q x (h ∷ hs) all some =
    let both = and_parts (h.party == q) (all_of_party q hs) all in
    by_party (h.party == x) refl some (eqb-true h.party q both.0) (λ rest. one_owner q x hs both.1 rest)
  where
    by_party : (b : Bool) → (h.party == x) ≡ b → (b || some_of_party x hs) ≡ true → h.party ≡ q
        → (some_of_party x hs ≡ true → q ≡ x) → q ≡ x
    by_party true is any first rest = sym first ∙ eqb-true h.party x is
    by_party false is any first rest = rest any

implied : (a b : Bool) → (a ≡ true → b ≡ true) → (a && b) ≡ a
implied true b h = h refl
implied false b h = refl

not_both : (a b : Bool) → (a ≡ true → b ≡ true → ⊥) → (a && b) ≡ false
not_both true true h = absurd (h refl refl)
not_both true false h = refl
not_both false b h = refl

any_limit : (one other : ℕ) (b : Bag) (mode : Mode) → is_exclusive mode ≡ true → admits one b mode ≡ admits other b mode
any_limit one other b Shared h = cc
any_limit one other b Exclusive h = refl
any_limit one other b Upgradable h = cc

or_right : (a : Bool) → (a || false) ≡ true → a ≡ true
or_right true h = refl
or_right false h = cc

-- one guard more has a place and a number
pub record HasRoom {T : Type 0} (m : Machine T) : Type 0 where
  pub room : length m.entries < m.places
  pub number : m.last + 1 < 2 ^ 64

module _ {T : Type 0} (ids : ℕ → PartyId) (distinct : AreDistinct ids) (lock : PlanLock) (m : Machine T) (hss : List (List Hold)) (p l : ℕ)
    (seen : IsSeen ids lock m hss p l) (mode : Mode)
    (of_kind : (is_exclusive mode || is_rwlock lock.kind) ≡ true)
    (not_over : (is_exclusive mode && (is_reentrant lock.kind && not (nat_lt (tokens (hold_of hss p l).bag) lock.limit))) ≡ false) where
  abbrev x : ℕ
  x = id_of (ids p)

  -- of a reentrant lock the party has fewer levels than the limit
  below : lock.kind ≡ Reentrant → tokens (hold_of hss p l).bag < lock.limit
  below is =
      let exclusive : is_exclusive mode ≡ true =
      or_right (is_exclusive mode) (ap (λ (k : Kind). is_exclusive mode || is_rwlock k) (sym is) ∙ of_kind) in
      let over : not (nat_lt (tokens (hold_of hss p l).bag) lock.limit) ≡ false =
      ap (λ (k : Kind). is_reentrant k && not (nat_lt (tokens (hold_of hss p l).bag) lock.limit)) (sym is)
      ∙ ap (λ (b : Bool). b && (is_reentrant lock.kind && not (nat_lt (tokens (hold_of hss p l).bag) lock.limit))) (sym exclusive)
      ∙ not_over in
      ltb-true (tokens (hold_of hss p l).bag) lock.limit (not-false (nat_lt (tokens (hold_of hss p l).bag) lock.limit) over)

  -- the party is the only owner exactly where all levels are its own
  all_own : all_of_party x (held_entries m.entries) ≡ (tokens (bag_on l hss) == tokens (hold_of hss p l).bag)
  all_own =
      all_of_party-count x (held_entries m.entries)
      ∙ ap (λ (n : ℕ). n == length (of_party x (held_entries m.entries))) (sym (tokens-held m.entries) ∙ ap tokens seen.all)
      ∙ ap (λ (n : ℕ). tokens (bag_on l hss) == n) (sym (tokens-own x m.entries) ∙ ap tokens seen.own)

  few_levels : lock.kind ≡ Reentrant → all_of_party x (held_entries m.entries) ≡ true → held_count m.entries < m.limit
  few_levels is all =
      let same : tokens (bag_on l hss) ≡ tokens (hold_of hss p l).bag = eqb-true (tokens (bag_on l hss)) (tokens (hold_of hss p l).bag) (sym all_own ∙ all) in
      let few = below is in
      let count : held_count m.entries ≡ tokens (bag_on l hss) = sym (tokens-held m.entries) ∙ ap tokens seen.all in
      let limit : m.limit ≡ lock.limit = seen.limit ∙ ap (λ (k : Kind). limit_for k lock.limit) is in
      omega (arith, same, few, count, limit)

  not_full : (kind : Kind) → lock.kind ≡ kind → is_full_count m.register x ≡ false
  not_full Mutex is = ap (λ (k : Kind). is_reentrant k && (owns m.register x && (held_count m.entries == m.limit))) (seen.kind ∙ is)
  not_full RwLock is = ap (λ (k : Kind). is_reentrant k && (owns m.register x && (held_count m.entries == m.limit))) (seen.kind ∙ is)
  not_full Reentrant is =
      let legal : AreLegallyHeld true m.limit m.entries =
      subst (λ (k : Kind). AreLegallyHeld (is_reentrant k) m.limit m.entries) (seen.kind ∙ is) seen.sound.legal.held in
      ap (λ (k : Kind). is_reentrant k && (owns m.register x && (held_count m.entries == m.limit))) (seen.kind ∙ is)
      ∙ not_both (owns m.register x) (held_count m.entries == m.limit)
      (λ own full.
      let owner : legal.0.0 ≡ x = one_owner legal.0.0 x (held_entries m.entries) legal.0.1 own in
      let all : all_of_party x (held_entries m.entries) ≡ true =
      subst (λ (q : ℕ). all_of_party q (held_entries m.entries) ≡ true) owner legal.0.1 in
      let few = few_levels is all in
      let same = eqb-true (held_count m.entries) m.limit full in
      absurd (omega (arith, few, same)))

  -- no acquisition of the plan is refused
  pub none_refused : HasRoom m → acquisition_refusal m.register (want_for lock.kind mode) x ≡ None
  none_refused more =
      let want = want_for lock.kind mode in
      refusal-none (not (has_want m.kind want)) (length m.entries == m.places) (m.last == 2 ^ 64 - 1) (is_full_count m.register x)
      fault.WrongKind fault.NoPlace fault.NumbersSpent fault.FullCount
      (record {
        first = ap (λ (k : Kind). not (has_want k want)) seen.kind ∙ ap not (wanted_by_kind lock.kind mode of_kind);
        second = ne_eqb (length m.entries) m.places (λ same. let room = more.room in omega arith);
        third = ne_eqb m.last (2 ^ 64 - 1) (λ same. let number = more.number in omega arith);
        fourth = not_full lock.kind refl;
      })

  abbrev admitted_in_world : Kind → Bool
  admitted_in_world k = if is_reentrant k then tokens (bag_on l hss) == tokens (hold_of hss p l).bag else admits lock.limit (bag_on l hss) mode

  abbrev admitted_by : Kind → Bool
  admitted_by k =
      if is_reentrant k
      then all_of_party x (held_entries m.entries) && nat_lt (held_count m.entries) m.limit
      else admits m.limit (held_bag m.entries) mode

  same_ignoring : (kind : Kind) → lock.kind ≡ kind → admits_ignoring_bar m.register x mode ≡ admitted_in_world lock.kind
  same_ignoring Mutex is =
      ap admitted_by (seen.kind ∙ is)
      ∙ ap (λ (b : Bag). admits m.limit b mode) seen.all
      ∙ any_limit m.limit lock.limit (bag_on l hss) mode
      (or_right (is_exclusive mode) (ap (λ (k : Kind). is_exclusive mode || is_rwlock k) (sym is) ∙ of_kind))
      ∙ ap admitted_in_world (sym is)
  same_ignoring RwLock is =
      ap admitted_by (seen.kind ∙ is)
      ∙ ap (λ (b : Bag). admits m.limit b mode) seen.all
      ∙ ap (λ (n : ℕ). admits n (bag_on l hss) mode) (seen.limit ∙ ap (λ (k : Kind). limit_for k lock.limit) is)
      ∙ ap admitted_in_world (sym is)
  same_ignoring Reentrant is =
      ap admitted_by (seen.kind ∙ is)
      ∙ implied (all_of_party x (held_entries m.entries)) (nat_lt (held_count m.entries) m.limit)
      (λ all. lt-ltb (held_count m.entries) m.limit (few_levels is all))
      ∙ all_own
      ∙ ap admitted_in_world (sym is)

  same_party : (a b : ℕ) → (id_of (ids a) == id_of (ids b)) ≡ (a == b)
  same_party a b = by_equal (a == b) refl
    where
      by_equal : (t : Bool) → (a == b) ≡ t → (id_of (ids a) == id_of (ids b)) ≡ t
      by_equal true is = eq-eqb (id_of (ids a)) (id_of (ids b)) (ap (λ (n : ℕ). id_of (ids n)) (eqb-true a b is))
      by_equal false is = ne_eqb (id_of (ids a)) (id_of (ids b)) (λ same. eqb-false a b is (distinct a b same))

  same_passes : (bar : Option ℕ) → bar_lets_pass (option_map (λ q. id_of (ids q)) bar) x mode ≡ bar_lets_pass bar p mode
  same_passes None = refl
  same_passes (Some a) = ap (λ (b : Bool). is_exclusive mode && b) (same_party a p)

  -- the machine admits the party where the world does
  pub same_admission : admits_party m.register x mode ≡ admits_step lock (lock_holds hss p l) (Acquire mode)
  same_admission =
      ap (λ (b : Option ℕ). bar_lets_pass b x mode && admits_ignoring_bar m.register x mode) seen.bar
      ∙ ap (λ (b : Bool). b && admits_ignoring_bar m.register x mode) (same_passes (bar_from 0 l hss))
      ∙ ap (λ (b : Bool). bar_lets_pass (bar_from 0 l hss) p mode && b) (same_ignoring lock.kind refl)
