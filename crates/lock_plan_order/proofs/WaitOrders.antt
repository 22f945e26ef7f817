-- Programs whose waits are ranked make no circle, whatever parties run them.
use Rattle.std.proofs.Common.{◌≡◌, ◌≢◌, ℕ, zero, suc, ◌+◌, ◌<◌, inl, inr, Bool, true, false, not, ◌&&◌, ◌||◌, if◌then◌else◌, List, [], ◌∷◌, length, get_or, Option, Some, None, refl, ap, sym, ◌∙◌, subst, arith}
use Rattle.std.specs.Prelude.{◌==◌, nat_lt}
use Rattle.std.specs.List.{list_all}
use Rattle.std.specs.Option.{unwrap_or}
use Rattle.std.proofs.lemmas.Bool.{and_parts, and_from, cases_Bool, cases_eq, eq-eqb, ltb-true, ne_eqb, not_from_false, or_left, or_right}
use Rattle.lock_modes.specs.declared.hold.Hold.{Hold}
use Rattle.lock_modes.specs.declared.lock_step.LockStep.TheVariants.{Modes}
use Rattle.lock_modes.specs.declared.mode_step.ModeStep.TheVariants.{Acquire}
use Rattle.lock_modes.specs.Holds.{no_hold}
use Rattle.lock_modes.specs.Kind.{is_reentrant}
use Rattle.lock_modes.specs.Modes.{admits, tokens}
use Rattle.lock_plan.specs.declared.lock.PlanLock.{PlanLock}
use Rattle.lock_plan.specs.declared.program.Act.{Act}
use Rattle.lock_plan.specs.declared.program.Act.TheVariants.{Call}
use Rattle.lock_plan.specs.declared.program.ProgramPlace.{ProgramPlace}
use Rattle.lock_plan.specs.Checks.{fit_machines}
use Rattle.lock_plan.specs.Known.{Known, known_at, known_of}
use Rattle.lock_plan.specs.Worlds.{act_in, no_lock}
use Rattle.lock_plan_laws.specs.OrderChecks.{covers_at}
use Rattle.lock_plan_laws.specs.Ranks.{IsCovered}
use Rattle.lock_plan_laws.specs.WaitRanks.{excludes, HasWaitRanks, IsLenient, IsWaitOf, may_hold_up, MayHoldUp, Wait}
use Rattle.lock_plan_laws.proofs.OrderChecks.{all_free, covered_at, covers_place}
use Rattle.lock_plan_laws.proofs.WaitRanks.{never_deadlock}
use Rattle.lock_plan_order.specs.declared.setting.Setting.{Setting}
use Rattle.lock_plan_order.specs.declared.wait_place.WaitPlace.{WaitPlace}
use Rattle.lock_plan_order.specs.LockOrders.{AreCovered, AreKnown, AreRuns, AreStrict, IsWithoutCircle, most_reads}
use Rattle.lock_plan_order.proofs.FewReads.{most_at, runs_sum, sum_listed}
use Rattle.lock_plan_order.specs.WaitChecks.{are_ranked, are_together, are_two, holds_at, holds_some, is_below_all, is_same, known_in, may_be_held_up, meet_from, rank_at, rises, wait_at, waits_of}
use Rattle.lock_plan_order.proofs.LockOrders.{as_many, known_at_program}
use Rattle.lock_plan_order.proofs.WaitLists.{in_programs}

-- what is known of a place is known of one of the places
known_below : (known : Known) (place : ℕ) (holds : List Hold) → known_at known place ≡ Some holds → place < length known
known_below [] place holds e = cc
known_below (x ∷ known) zero holds e = omega arith
known_below (x ∷ known) (suc place) holds e = omega (arith, known_below known place holds e)

-- a party that holds some of a lock holds something
some_held : (hs : List Hold) (l : ℕ) → 0 < tokens (get_or hs l no_hold).bag → holds_some hs ≡ true
some_held hs l some = by (list_all (λ h. tokens h.bag == 0) hs) refl
  where
    by : (b : Bool) → list_all (λ h. tokens h.bag == 0) hs ≡ b → not b ≡ true
    by true e = let none = all_free hs e l in absurd (omega (arith, some, none))
    by false e = refl

-- parties that can meet are kept apart by no lock
can_meet_from : (locks : List PlanLock) (from : ℕ) (hs ks : List Hold)
    → ((lock : ℕ) → excludes (get_or locks lock no_lock) (get_or hs (from + lock) no_hold).bag (get_or ks (from + lock) no_hold).bag ≡ false)
    → meet_from locks from hs ks ≡ true
can_meet_from [] from hs ks each = refl
can_meet_from (l ∷ locks) from hs ks each =
    and_from (not (excludes l (get_or hs from no_hold).bag (get_or ks from no_hold).bag)) (meet_from locks (from + 1) hs ks)
    (not_from_false _ (ap (λ (i : ℕ). excludes l (get_or hs i no_hold).bag (get_or ks i no_hold).bag) (omega arith) ∙ each 0))
    (can_meet_from locks (from + 1) hs ks (λ lock.
    ap (λ (i : ℕ). excludes (get_or locks lock no_lock) (get_or hs i no_hold).bag (get_or ks i no_hold).bag) (omega arith) ∙ each (suc lock)))

rises_by : (b : Bool) (m n : ℕ) → b ≡ true → (not b || nat_lt m n) ≡ true → m < n
rises_by true m n is e = ltb-true m n e
rises_by false m n is e = cc

module _ (s : Setting) (programs : List (List ProgramPlace)) (ranks : List (List ℕ)) (waits : List WaitPlace)
    (told : AreKnown s.locks.now programs (known_in s)) (strict : AreStrict s.locks.now s.many.now (known_in s) s.strict.now)
    (are_all : waits ≡ waits_of programs (known_in s))
    (fit : fit_machines s.locks.now ≡ true) (covered : AreCovered programs (known_in s)) (ranked : are_ranked s ranks waits ≡ true)
    (parties : List (List ProgramPlace)) (runs : ℕ → ℕ) (are : AreRuns programs s.many.now parties runs) where
  abbrev locks : List PlanLock
  locks = s.locks.now

  abbrev Known_of : ℕ → Known
  Known_of p = get_or (known_in s) (runs p) []

  abbrev is_strict : ℕ → Bool
  is_strict lock = get_or s.strict.now lock true

  -- a party that holds nothing has the lowest rank
  abbrev rank_by : List Hold → ℕ → ℕ
  rank_by hs rank = if holds_some hs then suc rank else 0

  abbrev rank : ℕ → ℕ → ℕ
  rank p place = rank_by (holds_at (known_in s) (runs p) place) (rank_at ranks (runs p) place)

  covered_place : (p place : ℕ) (hs : List Hold) → p < length parties → known_at (Known_of p) place ≡ Some hs
      → IsCovered hs (act_in (get_or parties p []) place)
  covered_place p place hs lt is =
      let of = are.each p lt in
      subst (λ (program : List ProgramPlace). IsCovered hs (act_in program place)) (sym of.1)
      (covered_at hs (act_in (get_or programs (runs p) []) place)
      (ap (λ (i : ℕ). covers_at (act_in (get_or programs (runs p) []) i) (Some hs)) (omega arith)
      ∙ covers_place (get_or programs (runs p) []) 0 (Known_of p) (covered (runs p) of.0) place hs is))

  -- a wait of a party is one of the waits, if it holds something
  abbrev place_of : Wait → WaitPlace
  place_of x = record { program = runs x.party; place = x.place; lock = x.lock; mode = x.mode }

  holds_is : (x : Wait) → IsWaitOf parties Known_of x → holds_at (known_in s) (runs x.party) x.place ≡ x.holds
  holds_is x is = ap (λ (o : Option (List Hold)). unwrap_or o []) is.is

  found : (x : Wait) → IsWaitOf parties Known_of x → holds_some x.holds ≡ true
      → wait_at (runs x.party) x.place (act_in (get_or programs (runs x.party) []) x.place) (known_at (Known_of x.party) x.place) ≡ Some (place_of x)
  found x is some =
      let of = are.each x.party is.within in
      let here : act_in (get_or programs (runs x.party) []) x.place ≡ Some (Call (record { lock = x.lock; step = Modes (Acquire x.mode) })) =
      ap (λ (program : List ProgramPlace). act_in program x.place) (sym of.1) ∙ is.here in
      ap (wait_at (runs x.party) x.place (act_in (get_or programs (runs x.party) []) x.place)) is.is
      ∙ ap (λ (o : Option Act). wait_at (runs x.party) x.place o (Some x.holds)) here
      ∙ ap (λ (b : Bool). if b then Some (place_of x) else None) some

  among : (f : WaitPlace → Bool) → list_all f waits ≡ true → (x : Wait) → IsWaitOf parties Known_of x → holds_some x.holds ≡ true → f (place_of x) ≡ true
  among f e x is some =
      let of = are.each x.party is.within in
      in_programs f programs (known_in s) (ap (list_all f) (sym are_all) ∙ e) (runs x.party) x.place (place_of x) of.0
      (known_below (Known_of x.party) x.place x.holds is.is) (found x is some)

  -- two parties at the waits
  two_there : (x y : Wait) → x.party < length parties → y.party < length parties → x.party ≢ y.party
      → are_two s.many.now (place_of x) (place_of y) ≡ true
  two_there x y lt below different = elim (cases_eq (runs x.party) (runs y.party)) [
    | inl same ↦
        or_right (not (runs x.party == runs y.party)) (get_or s.many.now (runs x.party) false)
        (are.single x.party y.party lt below different same)
    | inr other ↦
        or_left (not (runs x.party == runs y.party)) (get_or s.many.now (runs x.party) false)
        (not_from_false _ (ne_eqb (runs x.party) (runs y.party) other))
  ]

  together : (x y : Wait) → IsWaitOf parties Known_of x → IsWaitOf parties Known_of y → MayHoldUp is_strict locks x y
      → are_together s (place_of x) (place_of y) ≡ true
  together x y is_x is_y may =
      let two = are_two s.many.now (place_of x) (place_of y)
      && meet_from locks 0 (holds_at (known_in s) (runs x.party) x.place) (holds_at (known_in s) (runs y.party) y.place) in
      let one = is_same (place_of x) (place_of y) && not (is_reentrant (get_or locks x.lock no_lock).kind) in
      elim may.together [
        | inl apart ↦
            or_left two one (and_from (are_two s.many.now (place_of x) (place_of y))
            (meet_from locks 0 (holds_at (known_in s) (runs x.party) x.place) (holds_at (known_in s) (runs y.party) y.place))
            (two_there x y is_x.within is_y.within apart.0)
            (ap (λ (hs : List Hold). meet_from locks 0 hs (holds_at (known_in s) (runs y.party) y.place)) (holds_is x is_x)
            ∙ ap (meet_from locks 0 x.holds) (holds_is y is_y)
            ∙ can_meet_from locks 0 x.holds y.holds (λ lock.
            ap (λ (i : ℕ). excludes (get_or locks lock no_lock) (get_or x.holds i no_hold).bag (get_or y.holds i no_hold).bag) (omega arith)
            ∙ apart.1 lock)))
        | inr same ↦
            or_right two one (and_from (is_same (place_of x) (place_of y)) (not (is_reentrant (get_or locks x.lock no_lock).kind))
            (and_from (runs x.party == runs y.party) (x.place == y.place)
            (eq-eqb (runs x.party) (runs y.party) (ap runs same.0.0)) (eq-eqb x.place y.place same.0.1))
            (not_from_false _ same.1))
      ]

  held_up : (x y : Wait) → IsWaitOf parties Known_of x → IsWaitOf parties Known_of y → MayHoldUp is_strict locks x y
      → may_be_held_up s (place_of x) (place_of y) ≡ true
  held_up x y is_x is_y may =
      and_from
      (may_hold_up (is_strict x.lock) (get_or locks x.lock no_lock).limit x.mode
      (get_or (holds_at (known_in s) (runs y.party) y.place) x.lock no_hold).bag)
      (are_together s (place_of x) (place_of y))
      (ap (λ (hs : List Hold). may_hold_up (is_strict x.lock) (get_or locks x.lock no_lock).limit x.mode (get_or hs x.lock no_hold).bag) (holds_is y is_y)
      ∙ may.refuses)
      (together x y is_x is_y may)

  upward : (x y : Wait) → IsWaitOf parties Known_of x → IsWaitOf parties Known_of y → MayHoldUp is_strict locks x y
      → rank x.party x.place < rank y.party y.place
  upward x y is_x is_y may =
      let bag = (get_or y.holds x.lock no_hold).bag in
      let some = ltb-true 0 (tokens bag)
      (and_parts (nat_lt 0 (tokens bag)) (is_strict x.lock || not (admits (get_or locks x.lock no_lock).limit bag x.mode)) may.refuses).0 in
      let y_holds = some_held y.holds x.lock some in
      let there : rank y.party y.place ≡ suc (rank_at ranks (runs y.party) y.place) =
      ap (λ (hs : List Hold). rank_by hs (rank_at ranks (runs y.party) y.place)) (holds_is y is_y)
      ∙ ap (λ (b : Bool). if b then suc (rank_at ranks (runs y.party) y.place) else 0) y_holds in
      let here : rank x.party x.place ≡ rank_by x.holds (rank_at ranks (runs x.party) x.place) =
      ap (λ (hs : List Hold). rank_by hs (rank_at ranks (runs x.party) x.place)) (holds_is x is_x) in
      elim (cases_Bool (holds_some x.holds)) [
        | inl x_holds ↦
            let up = rises_by (may_be_held_up s (place_of x) (place_of y)) (rank_at ranks (runs x.party) x.place) (rank_at ranks (runs y.party) y.place)
            (held_up x y is_x is_y may)
            (among (rises s ranks (place_of x)) (among (is_below_all s ranks waits) ranked x is_x x_holds) y is_y y_holds) in
            let at : rank_by x.holds (rank_at ranks (runs x.party) x.place) ≡ suc (rank_at ranks (runs x.party) x.place) =
            ap (λ (b : Bool). if b then suc (rank_at ranks (runs x.party) x.place) else 0) x_holds in
            omega (arith, there, here, at, up)
        | inr nothing ↦
            let at : rank_by x.holds (rank_at ranks (runs x.party) x.place) ≡ 0 =
            ap (λ (b : Bool). if b then suc (rank_at ranks (runs x.party) x.place) else 0) nothing in
            omega (arith, there, here, at)
      ]

  lenient : (lock : ℕ) → lock < length locks → is_strict lock ≡ false → IsLenient (get_or locks lock no_lock) (length parties) Known_of lock
  lenient lock lt plain =
      let k = strict lock lt plain in
      let as_long = as_many locks programs (known_in s) told in
      let most : ℕ → ℕ = λ program. most_reads lock (get_or (known_in s) program []) in
      let few = runs_sum (length parties) (length (known_in s)) most runs
      (λ p below. omega (arith, (are.each p below).0, as_long))
      (λ p q p_in q_in other same.
      k.room.alone (runs p) (omega (arith, (are.each p p_in).0, as_long)) (are.single p q p_in q_in other same)) in
      let all = sum_listed (most_reads lock) (known_in s) in
      record {
        no_line = k.no_line;
        no_bar = k.no_bar;
        most = λ p. most (runs p);
        each = λ p place hs below is. most_at lock (get_or (known_in s) (runs p) []) place hs is;
        room = omega (arith, few, all, k.room.fits, k.some);
      }

  has_ranks : HasWaitRanks rank is_strict locks parties
  has_ranks = record {
    known = Known_of;
    is = λ p lt.
        let of = are.each p lt in
        ap (known_of locks) of.1 ∙ known_at_program locks programs (known_in s) told (runs p) of.0;
    covered = covered_place;
    upward = upward;
    lenient = lenient;
    machines = fit;
  }

pub without_circle : (s : Setting) (programs : List (List ProgramPlace)) (ranks : List (List ℕ)) (waits : List WaitPlace)
    → AreKnown s.locks.now programs (known_in s) → AreStrict s.locks.now s.many.now (known_in s) s.strict.now
    → waits ≡ waits_of programs (known_in s) → fit_machines s.locks.now ≡ true → AreCovered programs (known_in s)
    → are_ranked s ranks waits ≡ true → IsWithoutCircle s.locks.now programs s.many.now
without_circle s programs ranks waits told strict are_all fit covered ranked servers parties runs are =
    never_deadlock (rank s programs ranks waits told strict are_all fit covered ranked parties runs are)
    (λ lock. get_or s.strict.now lock true) servers s.locks.now parties
    (has_ranks s programs ranks waits told strict are_all fit covered ranked parties runs are)
