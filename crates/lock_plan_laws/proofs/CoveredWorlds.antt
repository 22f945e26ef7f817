-- In each world of covered programs a party is where its program leads, and no two hold modes that exclude each other.
use Rattle.std.proofs.Common.{◌≡◌, ℕ, ◌<◌, ◌≤◌, ◌⊎◌, inl, inr, ◌≢◌, Bool, true, false, if◌then◌else◌, List, [], ◌∷◌, length, map, get_or, set, Option, Some, None, Ok, refl, ap, sym, ◌∙◌, subst, arith}
use Rattle.std.specs.Prelude.{◌==◌, nat_lt}
use Rattle.std.proofs.lemmas.Bool.{cases_eq, cases_lt, eq-eqb, eqb-true, ne_eqb}
use Rattle.std.proofs.lemmas.List.{get_or-set_same, get_or-set_other, get_or-map, get_or_past, length-set, length-map}
use Rattle.lock_modes.specs.declared.hold.Hold.{Hold}
use Rattle.lock_modes.specs.declared.bag.Bag.{Bag}
use Rattle.lock_modes.specs.Modes.{empty_bag}
use Rattle.lock_modes.specs.Holds.{no_hold, hold_after}
use Rattle.lock_plan.specs.declared.call.PlanCall.{PlanCall}
use Rattle.lock_plan.specs.declared.lock.PlanLock.{PlanLock}
use Rattle.lock_plan.specs.declared.program.Act.{Act}
use Rattle.lock_plan.specs.declared.program.Act.TheVariants.{Call, Try, Choose, Signal}
use Rattle.lock_plan.specs.declared.program.Signal.{Signal as PlanSignal}
use Rattle.lock_plan.specs.declared.program.Signal.TheVariants.{Idle}
use Rattle.lock_plan.specs.declared.program.ProgramPlace.{ProgramPlace}
use Rattle.lock_plan.specs.declared.program.Step.{Step}
use Rattle.lock_plan.specs.declared.turn.Turn.{Turn}
use Rattle.lock_plan.specs.declared.turn.Turn.TheVariants.{Goes, Announces}
use Rattle.lock_plan.specs.declared.fault.CallFault.{CallFault}
use Rattle.lock_plan.specs.declared.fault.CallFault.TheVariants.{UnknownLock}
use Rattle.lock_plan.specs.CallFaults.{call_fault, fault_on}
use Rattle.lock_plan.specs.Known.{Known, known_of}
use Rattle.lock_plan.specs.Holds.{announces_itself}
use Rattle.lock_plan.specs.Signals.{idles, lets}
use Rattle.lock_plan.specs.Worlds.{Stand, no_stand, no_lock, act_of, acts_of, call_in, next_in, other_in, lock_holds, reply_to, reply_at, at_place, gone, announced_for, after_call, is_goes, either_by, stand_by, put_stand, rows_moved, world_by, world_step, world_after, first_stand, first_world}
use Rattle.lock_plan.proofs.ExchangeBars.{set_cases, nothing_held, on_parts}
use Rattle.lock_plan.proofs.Landing.{announcing, some_same, goes_is}
use Rattle.lock_plan.proofs.Moves.{rows_still, rows_awake}
use Rattle.lock_plan.proofs.Ways.{only_some}
use Rattle.lock_plan_laws.proofs.KnownStands.{no_fault, known_gone, known_announced, known_passed, known_chosen, known_first}
use Rattle.lock_plan_laws.proofs.CoveredStands.{IsStandOf, IsCoveredAt, bag_same, fine}
use Rattle.lock_plan_laws.proofs.Exclusion.{Coexist, beside_none, goes_beside, turned}

stand_same : (t u : Stand) → Some t ≡ Some u → t ≡ u
stand_same t u e = cc

abbrev pub Lock : List PlanLock → ℕ → PlanLock
Lock locks l = get_or locks l no_lock

no_idle : (here : Option Act) → ((signal : PlanSignal) → here ≡ Some (Signal signal) → ⊥) → idles here ≡ false
no_idle (Some (Signal (Idle value))) never = absurd (never (Idle value) refl)
no_idle here never = refl

known_lock : (b : Bool) (o : Option CallFault) → (if b then o else Some UnknownLock) ≡ None → o ≡ None
known_lock true o e = e
known_lock false o e = cc

module _ (locks : List PlanLock) (programs : List (List ProgramPlace)) (known : ℕ → Known)
    (covered : (party : ℕ) → party < length programs → IsCoveredAt (known party) (get_or programs party [])) where
  abbrev Is : ℕ → Stand → Type 0
  Is p = IsStandOf locks (known p) (get_or programs p [])

  abbrev bag_at : Stand → ℕ → Bag
  bag_at s l = (get_or s.holds l no_hold).bag

  -- each party is where its program leads, and no two hold what excludes each other
  pub record AreCovered (w : List Stand) : Type 0 where
    pub many : length w ≡ length programs
    pub stand : (p : ℕ) → p < length w → Is p (get_or w p no_stand)
    pub apart : (l p q : ℕ) → p ≢ q → Coexist (Lock locks l) (bag_at (get_or w p no_stand) l) (bag_at (get_or w q no_stand) l)

  module _ (w : List Stand) (all : AreCovered w) (p : ℕ) (lt : p < length w) where
    abbrev s : Stand
    s = get_or w p no_stand

    abbrev hss : List (List Hold)
    hss = map (λ (x : Stand). x.holds) w

    -- the party can stand so next to the others
    record Fits (t : Stand) : Type 0 where
      is : Is p t
      beside : (l q : ℕ) → p ≢ q → Coexist (Lock locks l) (bag_at t l) (bag_at (get_or w q no_stand) l)

    fits_same : (t u : Stand) → Some t ≡ Some u → Fits t → Fits u
    fits_same t u e f = subst Fits (stand_same t u e) f

    own : get_or hss p [] ≡ s.holds
    own = get_or-map (λ (x : Stand). x.holds) w p no_stand [] lt

    held : (q l : ℕ) → (get_or (get_or hss q []) l no_hold).bag ≡ bag_at (get_or w q no_stand) l
    held q l = elim (cases_lt q (length w)) [
      | inl below ↦ ap (λ (hs : List Hold). (get_or hs l no_hold).bag) (get_or-map (λ (x : Stand). x.holds) w q no_stand [] below)
      | inr past ↦
          ap (λ (hs : List Hold). (get_or hs l no_hold).bag) (get_or_past hss q [] (omega (arith, past, length-map w (λ (x : Stand). x.holds))))
          ∙ ap (λ (x : Stand). bag_at x l) (sym (get_or_past w q no_stand past))
    ]

    -- after a call that is admitted
    gone_beside : (call : PlanCall) → reply_to locks hss p call ≡ Goes → call_fault locks s.holds call ≡ None
        → (l q : ℕ) → p ≢ q → Coexist (Lock locks l) (bag_at (gone s call) l) (bag_at (get_or w q no_stand) l)
    gone_beside call goes right l q different =
        let step = hold_after (get_or s.holds call.lock no_hold) call.step in
        elim (set_cases s.holds call.lock l step no_hold) [
          | inl same ↦
              subst (λ (h : Hold). Coexist (Lock locks l) h.bag (bag_at (get_or w q no_stand) l)) (sym same) (all.apart l p q different)
          | inr there ↦
              subst (λ (h : Hold). Coexist (Lock locks l) h.bag (bag_at (get_or w q no_stand) l)) (sym there.1)
              (subst (λ (k : ℕ). Coexist (Lock locks k) step.bag (bag_at (get_or w q no_stand) k)) (sym there.0) on_it)
        ]
      where
        on_it : Coexist (Lock locks call.lock) (hold_after (get_or s.holds call.lock no_hold) call.step).bag (bag_at (get_or w q no_stand) call.lock)
        on_it =
            let k = call.lock in
            let mine : get_or (get_or hss p []) k no_hold ≡ get_or s.holds k no_hold = ap (λ (hs : List Hold). get_or hs k no_hold) own in
            let no : fault_on (Lock locks k) (get_or s.holds k no_hold) call.step ≡ None =
            (known_lock (nat_lt k (length locks)) (fault_on (Lock locks k) (get_or s.holds k no_hold) call.step) right) in
            let before : Coexist (Lock locks k) (get_or (get_or hss p []) k no_hold).bag (get_or (get_or hss q []) k no_hold).bag =
            subst (λ (b : Bag). Coexist (Lock locks k) b (get_or (get_or hss q []) k no_hold).bag) (sym (held p k))
            (subst (λ (b : Bag). Coexist (Lock locks k) (bag_at s k) b) (sym (held q k)) (all.apart k p q different)) in
            let after = goes_beside (Lock locks k) hss p q k different call.step goes (ap (λ (h : Hold). fault_on (Lock locks k) h call.step) mine ∙ no) before in
            subst (λ (h : Hold). Coexist (Lock locks k) (hold_after h call.step).bag (bag_at (get_or w q no_stand) k)) mine
            (subst (λ (b : Bag). Coexist (Lock locks k) (hold_after (get_or (get_or hss p []) k no_hold) call.step).bag b) (held q k) after)

    o : Is p s
    o = all.stand p lt

    gone_fits : (a : Act) (call : PlanCall) → act_of s ≡ Some a → Some call ≡ call_in (Some a) → reply_to locks hss p call ≡ Goes
        → Fits (gone s call)
    unfolding known_gone
    gone_fits a call e of goes = record {
      is = record {
        stands = known_gone locks s o.stands a call e (sym of);
        known_is = o.known_is;
        runs = o.runs;
      };
      beside = gone_beside call goes (no_fault locks s o.stands a call e (sym of));
    }

    announced_fits : (call : PlanCall) → act_of s ≡ Some (Call call) → Some (reply_to locks hss p call) ≡ Some Announces
        → Fits (announced_for s call)
    unfolding known_announced
    announced_fits call e is = record {
      is = record {
        stands = known_announced locks s o.stands call e
            (ap (λ (hs : List Hold). announces_itself (Lock locks call.lock) (get_or hs call.lock no_hold) call.step) (sym own)
            ∙ announcing (Lock locks call.lock) (lock_holds hss p call.lock) call.step
            (some_same (reply_to locks hss p call) Announces is));
        known_is = o.known_is;
        runs = o.runs;
      };
      beside = λ l q different.
          subst (λ (b : Bag). Coexist (Lock locks l) b (bag_at (get_or w q no_stand) l)) (sym (bag_same s.holds call.lock l))
          (all.apart l p q different);
    }

    call_fits : (call : PlanCall) (reply : Option Turn) (t : Stand) → act_of s ≡ Some (Call call) → Some (reply_to locks hss p call) ≡ reply
        → after_call s call reply ≡ Some t → Fits t
    call_fits call (Some Goes) t a is e =
        fits_same (gone s call) t e (gone_fits (Call call) call a refl (some_same (reply_to locks hss p call) Goes is))
    call_fits call (Some Announces) t a is e = fits_same (announced_for s call) t e (announced_fits call a is)
    call_fits call reply t a is e = cc

    abbrev refused : Stand
    refused = at_place s (other_in s.program s.place) s.holds

    refused_fits : (call : PlanCall) → act_of s ≡ Some (Try call) → Fits refused
    unfolding known_passed
    refused_fits call a = record {
      is = record { stands = known_passed locks s o.stands call a; known_is = o.known_is; runs = o.runs };
      beside = λ l q different. all.apart l p q different;
    }

    try_fits : (call : PlanCall) (goes other : Bool) (t : Stand) → act_of s ≡ Some (Try call) → is_goes (Some (reply_to locks hss p call)) ≡ goes
        → either_by goes other (gone s call) refused ≡ Some t → Fits t
    try_fits call true true t a is e = cc
    try_fits call true false t a is e =
        fits_same (gone s call) t e (gone_fits (Try call) call a refl (goes_is (reply_to locks hss p call) is))
    try_fits call false true t a is e = fits_same refused t e (refused_fits call a)
    try_fits call false false t a is e = cc

    stand_fits : (other : Bool) (here : Option Act) (t : Stand) → act_of s ≡ here
        → stand_by s other here (reply_at locks hss p here) ≡ Some t → Fits t
    unfolding known_chosen
    stand_fits other None t a e = cc
    stand_fits other (Some (Call call)) t a e = call_fits call (Some (reply_to locks hss p call)) t a refl e
    stand_fits other (Some (Try call)) t a e = try_fits call (is_goes (Some (reply_to locks hss p call))) other t a refl e
    stand_fits other (Some (Choose block)) t a e =
        let place = if other then other_in s.program s.place else next_in s.program s.place in
        fits_same (at_place s place s.holds) t e
        (record {
          is = record { stands = known_chosen locks s o.stands other block a; known_is = o.known_is; runs = o.runs };
          beside = λ l q different. all.apart l p q different;
        })
    stand_fits other (Some (Signal signal)) t a e = absurd (no_signal signal a)
      where
        no_signal : (signal : PlanSignal) → act_of s ≡ Some (Signal signal) → ⊥
        no_signal signal a = (fine locks s (known p) (get_or programs p []) o (covered p (omega (arith, lt, all.many)))).no_signal signal a

    set_at : (t : Stand) (q : ℕ) → get_or (set w p t) q no_stand ≡ (if q == p then t else get_or w q no_stand)
    set_at t q = elim (cases_eq q p) [
      | inl same ↦
          ap (λ (i : ℕ). get_or (set w p t) i no_stand) same ∙ get_or-set_same w p t no_stand lt
          ∙ ap (λ (b : Bool). if b then t else get_or w q no_stand) (sym (eq-eqb q p same))
      | inr other ↦
          get_or-set_other w p q t no_stand other
          ∙ ap (λ (b : Bool). if b then t else get_or w q no_stand) (sym (ne_eqb q p other))
    ]

    put : (t : Stand) → Fits t → AreCovered (set w p t)
    put t f = record {
      many = length-set w p t ∙ all.many;
      stand = λ q below. subst (Is q) (sym (set_at t q)) (stand_by_case q (q == p) refl (omega (arith, below, length-set w p t)));
      apart = λ l q r different.
          subst (λ (x : Stand). Coexist (Lock locks l) (bag_at x l) (bag_at (get_or (set w p t) r no_stand) l)) (sym (set_at t q))
          (subst (λ (x : Stand). Coexist (Lock locks l) (bag_at (if q == p then t else get_or w q no_stand) l) (bag_at x l)) (sym (set_at t r))
          (apart_by l q r different (q == p) (r == p) refl refl));
    }
      where
        stand_by_case : (q : ℕ) (b : Bool) → (q == p) ≡ b → q < length w → Is q (if b then t else get_or w q no_stand)
        stand_by_case q true is below = subst (λ (i : ℕ). Is i t) (sym (eqb-true q p is)) f.is
        stand_by_case q false is below = all.stand q below

        apart_by : (l q r : ℕ) → q ≢ r → (b c : Bool) → (q == p) ≡ b → (r == p) ≡ c
            → Coexist (Lock locks l) (bag_at (if b then t else get_or w q no_stand) l) (bag_at (if c then t else get_or w r no_stand) l)
        apart_by l q r different true true is also = absurd (different (eqb-true q p is ∙ sym (eqb-true r p also)))
        apart_by l q r different true false is also = f.beside l r (λ same. different (eqb-true q p is ∙ same))
        apart_by l q r different false true is also =
            turned (Lock locks l) (bag_at t l) (bag_at (get_or w q no_stand) l) (f.beside l q (λ same. different (sym same ∙ sym (eqb-true r p also))))
        apart_by l q r different false false is also = all.apart l q r different

  put_covered : (w v : List Stand) (all : AreCovered w) (p : ℕ) (lt : p < length w) (o : Option Stand)
      → ((t : Stand) → o ≡ Some t → Fits w all p lt t) → put_stand w p o ≡ Some v → AreCovered v
  put_covered w v all p lt None h e = cc
  put_covered w v all p lt (Some t) h e =
      let same : set w p t ≡ v = cc in
      subst AreCovered same (put w all p lt t (h t refl))

  -- no row idles, so no act moves another row
  rows_stay : (w : List Stand) (all : AreCovered w) (p way : ℕ) → p < length w → (a : Act) → act_of (get_or w p no_stand) ≡ Some a
      → rows_moved (Some a) way 0 w ≡ w
  rows_stay w all p way lt a here = by_kind a here
    where
      never : (q : ℕ) → q < length w → (signal : PlanSignal) → act_of (get_or w q no_stand) ≡ Some (Signal signal) → ⊥
      never q below signal is =
          (fine locks (get_or w q no_stand) (known q) (get_or programs q []) (all.stand q below)
          (covered q (omega (arith, below, all.many)))).no_signal signal is

      by_kind : (a : Act) → act_of (get_or w p no_stand) ≡ Some a → rows_moved (Some a) way 0 w ≡ w
      by_kind (Call call) here = rows_still (Some (Call call)) way 0 w refl
      by_kind (Try call) here = rows_still (Some (Try call)) way 0 w refl
      by_kind (Choose block) here =
          rows_awake block way 0 w (λ q below. no_idle (act_of (get_or w q no_stand)) (never q below))
      by_kind (Signal signal) here = absurd (never p lt signal here)

  -- the act of a party with this number and act
  by_act : (w v : List Stand) (step : Step) (here : Option Act) (all : AreCovered w) → act_of (get_or w step.party no_stand) ≡ here
      → put_stand (rows_moved here step.way 0 w) step.party
      (stand_by (get_or w step.party no_stand) (step.way == 1) here (reply_at locks (map (λ s. s.holds) w) step.party here)) ≡ Some v
      → (step.party < length w) ⊎ (length w ≤ step.party) → AreCovered v
  by_act w v step None all a e lt = cc
  by_act w v step (Some act) all a e (inr past) =
      let none : act_of (get_or w step.party no_stand) ≡ None = ap act_of (get_or_past w step.party no_stand past) in
      let never : None ≡ Some act = sym none ∙ a in
      cc
  by_act w v step (Some act) all a e (inl lt) =
      let p = step.party in
      let x : Stand = get_or w p no_stand in
      let after : Option Stand = stand_by x (step.way == 1) (Some act) (reply_at locks (map (λ (s : Stand). s.holds) w) p (Some act)) in
      let still : rows_moved (Some act) step.way 0 w ≡ w = rows_stay w all p step.way lt act a in
      put_covered w v all p lt after
      (λ t is. stand_fits w all p lt (step.way == 1) (Some act) t a is)
      (ap (λ (u : List Stand). put_stand u p after) (sym still) ∙ e)

  step_covered : (w v : List Stand) (step : Step) → AreCovered w → world_step locks w step ≡ Some v → AreCovered v
  step_covered w v step all e =
      let x : Stand = get_or w step.party no_stand in
      let two = only_some (lets (acts_of w) step.way (act_of x)) (world_by locks w step x) v e in
      by_act w v step (act_of x) all refl two.1 (cases_lt step.party (length w))

  pub steps_covered : (steps : List Step) (w v : List Stand) → AreCovered w → world_after locks w steps ≡ Some v → AreCovered v
  steps_covered [] w v all e = let same : w ≡ v = cc in subst AreCovered same all
  steps_covered (step ∷ steps) w v all e =
      let u = on_parts (world_step locks w step) (λ (x : List Stand). world_after locks x steps) v e in
      steps_covered steps u.0 v (step_covered w u.0 step all u.1) u.2

  first_is : (p : ℕ) → known_of locks (get_or programs p []) ≡ Ok (known p) → Is p (first_stand locks (get_or programs p []))
  unfolding known_first
  first_is p is = record { stands = known_first locks (get_or programs p []) (known p) is; known_is = refl; runs = refl }

  first_holds : (p l : ℕ) → bag_at (get_or (first_world locks programs) p no_stand) l ≡ empty_bag
  first_holds p l = elim (cases_lt p (length programs)) [
    | inl lt ↦
        ap (λ (x : Stand). bag_at x l) (get_or-map (first_stand locks) programs p [] no_stand lt)
        ∙ ap (λ (h : Hold). h.bag) (nothing_held (length locks) l)
    | inr past ↦
        ap (λ (x : Stand). bag_at x l)
        (get_or_past (first_world locks programs) p no_stand (omega (arith, past, length-map programs (first_stand locks))))
  ]

  pub starts_covered : ((p : ℕ) → p < length programs → known_of locks (get_or programs p []) ≡ Ok (known p)) → AreCovered (first_world locks programs)
  starts_covered is = record {
    many = length-map programs (first_stand locks);
    stand = λ p lt.
        let below : p < length programs = omega (arith, lt, length-map programs (first_stand locks)) in
        subst (Is p) (sym (get_or-map (first_stand locks) programs p [] no_stand below)) (first_is p (is p below));
    apart = λ l p q different.
        subst (λ (b : Bag). Coexist (Lock locks l) (bag_at (get_or (first_world locks programs) p no_stand) l) b) (sym (first_holds q l))
        (beside_none (Lock locks l) _ empty_bag refl);
  }
