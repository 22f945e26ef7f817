-- Runs with lines are stuck in the worlds in which the plan is. A run of the plan is a run in which nobody joins a line; the
-- parties that wait in a stuck world join last, first those that their locks do not admit.
use Rattle.std.proofs.Common.{◌≡◌, ℕ, zero, suc, ◌<◌, ◌⊎◌, inl, inr, Bool, true, false, not, ◌&&◌, ◌||◌, ◌==◌, if◌then◌else◌, List, [], ◌∷◌, ◌++◌, length, map, get_or, Option, Some, None, option_map, refl, sym, ap, ◌∙◌, arith}
use Rattle.std.specs.List.{list_any}
use Rattle.std.proofs.lemmas.Bool.{not-false, false≢true, and_parts, or_cases, or_right, not-true, cases_lt, eq-eqb, eqb-true}
use Rattle.std.proofs.lemmas.List.{get_or_past, append-nil, append_assoc}
use Rattle.std.proofs.lemmas.List.Folds.{list_any-append}
use Rattle.std.proofs.lemmas.Option.{same_Some}
use Rattle.lock_modes.specs.declared.hold.Hold.{Hold}
use Rattle.lock_modes.specs.declared.mode_step.ModeStep.TheVariants.{Acquire, Release, Change}
use Rattle.lock_modes.specs.declared.lock_step.LockStep.{LockStep}
use Rattle.lock_modes.specs.declared.lock_step.LockStep.TheVariants.{Modes, Announce}
use Rattle.lock_modes.specs.Kind.{is_reentrant}
use Rattle.lock_plan.specs.declared.call.PlanCall.{PlanCall}
use Rattle.lock_plan.specs.declared.lock.PlanLock.{PlanLock}
use Rattle.lock_plan.specs.declared.program.Act.{Act}
use Rattle.lock_plan.specs.declared.program.Act.TheVariants.{Call}
use Rattle.lock_plan.specs.declared.program.ProgramPlace.{ProgramPlace}
use Rattle.lock_plan.specs.declared.program.Step.{Step}
use Rattle.lock_plan.specs.declared.turn.Turn.{Turn}
use Rattle.lock_plan.specs.declared.turn.Turn.TheVariants.{Goes, Announces, Waits, Refused}
use Rattle.lock_plan.specs.Holds.{lines_up, turn_on}
use Rattle.lock_plan.specs.Worlds.{Stand, no_stand, no_lock, lock_holds, act_of, acts_of, reply_at, turn_by, turn_of, line_of, waits_for, has_waiter, on_lock, goes_on, on_from, world_step, world_after, first_world, is_server, is_due, is_step_turn, is_stuck, some_below}
use Rattle.lock_plan_laws.specs.Lines.{LinedWorld, here, is_listed, without, before, is_claim, is_change, claims, changes, is_waits, names_fair, on_call, is_behind, is_behind_some, goes_in_line, joins, lined_by, lined_on, lined_after, IsStuckInLine, first_lined, LinesStopAsWorlds}
use Rattle.lock_plan_laws.proofs.SceneStops.{some_at, some_found}
use Rattle.lock_plan.proofs.CircleSets.{below_none, below_each}

-- Booleans

and_false : (a b : Bool) → (a ≡ true → b ≡ false) → (a && b) ≡ false
and_false true b h = h refl
and_false false b h = refl

by_bool : {A : Type 0} (b : Bool) → (b ≡ true → A) → (b ≡ false → A) → A
by_bool true so un = so refl
by_bool false so un = un refl

-- lists of numbers

any_weaker : (f g : ℕ → Bool) → ((q : ℕ) → f q ≡ true → g q ≡ true) → (xs : List ℕ) → list_any f xs ≡ true → list_any g xs ≡ true
any_weaker f g weaker [] e = cc
any_weaker f g weaker (x ∷ xs) e = elim (or_cases (f x) (list_any f xs) e) [
  | inl one ↦ ap (λ (b : Bool). b || list_any g xs) (weaker x one)
  | inr rest ↦ or_right (g x) (list_any g xs) (any_weaker f g weaker xs rest)
]

any_before : (f : ℕ → Bool) (p : ℕ) (xs : List ℕ) → list_any f (before p xs) ≡ true → list_any f xs ≡ true
any_before f p [] e = e
any_before f p (x ∷ xs) e = by_first (p == x) (any_before f p xs) e
  where
    by_first : (b : Bool) → (list_any f (before p xs) ≡ true → list_any f xs ≡ true)
        → list_any f (if b then [] else x ∷ before p xs) ≡ true → (f x || list_any f xs) ≡ true
    by_first true later e = cc
    by_first false later e = elim (or_cases (f x) (list_any f (before p xs)) e) [
      | inl one ↦ ap (λ (b : Bool). b || list_any f xs) one
      | inr rest ↦ or_right (f x) (list_any f xs) (later rest)
    ]

-- the first of a list that has it
first_in : (f : ℕ → Bool) (xs : List ℕ) → list_any f xs ≡ true → (h : ℕ) × (f h ≡ true) × (list_any f (before h xs) ≡ false)
first_in f [] e = cc
first_in f (x ∷ xs) e = by_bool (f x)
    (λ so. (x, so, ap (λ (b : Bool). list_any f (if b then [] else x ∷ before x xs)) (eq-eqb x x refl)))
    (λ un.
    let rest : list_any f xs ≡ true = ap (λ (b : Bool). b || list_any f xs) (sym un) ∙ e in
    let h = first_in f xs rest in
    let apart : (h.0 == x) ≡ false =
    by_bool (h.0 == x) (λ same. absurd (false≢true (sym un ∙ ap f (sym (eqb-true h.0 x same)) ∙ h.1))) (λ other. other) in (
      h.0,
      h.1,
      ap (λ (b : Bool). list_any f (if b then [] else x ∷ before h.0 xs)) apart
          ∙ ap (λ (b : Bool). b || list_any f (before h.0 xs)) un ∙ h.2,
    ))

-- the numbers below this that have it
abbrev picked : (ℕ → Bool) → ℕ → List ℕ
picked f zero = []
picked f (suc n) = picked f n ++ (if f n then n ∷ [] else [])

one_of : (g : ℕ → Bool) (n : ℕ) (b : Bool) → list_any g (if b then n ∷ [] else []) ≡ true → (b ≡ true) × (g n ≡ true)
one_of g n true e = (refl, by_bool (g n) (λ so. so) (λ un. absurd (false≢true (sym (ap (λ (b : Bool). b || false) un) ∙ e))))
one_of g n false e = cc

found_picked : (f g : ℕ → Bool) (n : ℕ) → list_any g (picked f n) ≡ true → (r : ℕ) × (g r ≡ true) × (f r ≡ true) × (r < n)
found_picked f g zero e = cc
found_picked f g (suc n) e =
    elim (or_cases (list_any g (picked f n)) (list_any g (if f n then n ∷ [] else [])) (sym (list_any-append g (picked f n) (if f n then n ∷ [] else [])) ∙ e)) [
      | inl early ↦ let r = found_picked f g n early in (r.0, r.1, r.2, omega (arith, r.3))
      | inr last ↦ let one = one_of g n (f n) last in (n, one.1, one.0, omega arith)
    ]

in_picked : (f g : ℕ → Bool) (n r : ℕ) → r < n → f r ≡ true → g r ≡ true → list_any g (picked f n) ≡ true
in_picked f g zero r lt is has = absurd (omega arith)
in_picked f g (suc n) r lt is has =
    list_any-append g (picked f n) (if f n then n ∷ [] else [])
    ∙ elim (cases_lt r n) [
      | inl early ↦ ap (λ (b : Bool). b || list_any g (if f n then n ∷ [] else [])) (in_picked f g n r early is has)
      | inr late ↦
          let same : r ≡ n = omega arith in
          or_right (list_any g (picked f n)) (list_any g (if f n then n ∷ [] else []))
          (ap (λ (b : Bool). list_any g (if b then n ∷ [] else [])) (ap f (sym same) ∙ is) ∙ ap (λ (b : Bool). b || false) (ap g (sym same) ∙ has))
    ]

not_picked : (f : ℕ → Bool) (n p : ℕ) → ((r : ℕ) → r < n → f r ≡ true → p ≡ r → ⊥) → is_listed p (picked f n) ≡ false
not_picked f n p none =
    by_bool (is_listed p (picked f n))
    (λ so. let r = found_picked f (λ q. p == q) n so in absurd (none r.0 r.3 r.2 (eqb-true p r.0 r.1))) (λ un. un)

-- a party is behind all that joined before a list in which it is not
before_both : (p : ℕ) (xs ys : List ℕ) → is_listed p xs ≡ false → before p (xs ++ ys) ≡ xs ++ before p ys
before_both p [] ys none = refl
before_both p (x ∷ xs) ys none = by_first (p == x) (before_both p xs ys) none
  where
    by_first : (b : Bool) → (list_any (λ q. p == q) xs ≡ false → before p (xs ++ ys) ≡ xs ++ before p ys)
        → (b || list_any (λ q. p == q) xs) ≡ false → (if b then [] else x ∷ before p (xs ++ ys)) ≡ x ∷ (xs ++ before p ys)
    by_first true later e = cc
    by_first false later e = ap (λ (zs : List ℕ). x ∷ zs) (later e)

-- Calls

-- a claim that has no step waits, and a call that waits is a claim
turn_waits : (a b : Bool) → is_step_turn (Some (if a then Goes else (if b then Announces else Waits))) ≡ false
    → (if a then Goes else (if b then Announces else Waits)) ≡ Waits
turn_waits true b e = cc
turn_waits false true e = cc
turn_waits false false e = refl

claim_waits : (lock : PlanLock) (hss : List (List Hold)) (q l : ℕ) (a : LockStep) → is_claim a ≡ true
    → is_step_turn (Some (turn_on lock (lock_holds hss q l) a)) ≡ false → turn_on lock (lock_holds hss q l) a ≡ Waits
claim_waits lock hss q l (Modes (Acquire mode)) is e = turn_waits _ _ e
claim_waits lock hss q l (Modes (Change from to)) is e = turn_waits _ _ e
claim_waits lock hss q l a is e = cc

refused_or_goes : (b : Bool) → (if b then Refused else Goes) ≡ Waits → ⊥
refused_or_goes true e = cc
refused_or_goes false e = cc

waits_claims : (lock : PlanLock) (hss : List (List Hold)) (q l : ℕ) (a : LockStep) → turn_on lock (lock_holds hss q l) a ≡ Waits → is_claim a ≡ true
waits_claims lock hss q l (Modes (Release mode)) e = cc
waits_claims lock hss q l Announce e = absurd (refused_or_goes _ e)
waits_claims lock hss q l a e = cc

change_claims : (a : LockStep) → is_change a ≡ true → is_claim a ≡ true
change_claims (Modes (Change from to)) e = refl
change_claims a e = cc

-- a claim that is no change lines up at a fair lock, and what lines up is a claim at a fair lock
change_no_line : (lock : PlanLock) (a : LockStep) → is_change a ≡ true → lines_up lock a ≡ false
change_no_line lock (Modes (Change from to)) e = refl
change_no_line lock a e = cc

lined_fair : (lock : PlanLock) (a : LockStep) → lines_up lock a ≡ true → (lock.fair ≡ true) × (is_claim a ≡ true)
lined_fair lock (Modes (Acquire mode)) e = ((and_parts lock.fair (not (is_reentrant lock.kind)) e).0, refl)
lined_fair lock a e = cc

-- the call of an act of which this is so
call_of : (f : PlanCall → Bool) (o : Option Act) → on_call f o ≡ true → (call : PlanCall) × (o ≡ Some (Call call)) × (f call ≡ true)
call_of f (Some (Call call)) e = (call, refl, e)
call_of f o e = cc

wait_of : (lock : ℕ) (o : Option Act) (t : Option Turn) → waits_for lock o t ≡ true
    → (call : PlanCall) × (o ≡ Some (Call call)) × (t ≡ Some Waits) × ((call.lock == lock) ≡ true)
wait_of lock (Some (Call call)) (Some Waits) e = (call, refl, refl, e)
wait_of lock o t e = absurd (false≢true e)

line_call : (locks : List PlanLock) (lock : ℕ) (o : Option Act) → line_of locks o ≡ Some lock
    → (call : PlanCall) × (o ≡ Some (Call call)) × (lines_up (get_or locks call.lock no_lock) call.step ≡ true) × (call.lock ≡ lock)
line_call locks lock (Some (Call call)) e = by_line (lines_up (get_or locks call.lock no_lock) call.step) refl e
  where
    by_line : (b : Bool) → lines_up (get_or locks call.lock no_lock) call.step ≡ b → (if b then Some call.lock else None) ≡ Some lock
        → (other : PlanCall) × (Some (Call call) ≡ Some (Call other)) × (lines_up (get_or locks other.lock no_lock) other.step ≡ true)
        × (other.lock ≡ lock)
    by_line true up e = (call, refl, up, same_Some call.lock lock e)
    by_line false up e = cc
line_call locks lock o e = cc

-- an act claims one lock
one_claim : (a b : ℕ) (o : Option Act) → claims a o ≡ true → claims b o ≡ true → a ≡ b
one_claim a b (Some (Call call)) one other =
    sym (eqb-true call.lock a (and_parts (call.lock == a) (is_claim call.step) one).0)
    ∙ eqb-true call.lock b (and_parts (call.lock == b) (is_claim call.step) other).0
one_claim a b o one other = cc

module _ (locks : List PlanLock) (w : List Stand) where
  abbrev act : ℕ → Option Act
  act q = act_of (get_or w q no_stand)

  abbrev hss : List (List Hold)
  hss = map (λ (x : Stand). x.holds) w

  -- only parties of the world have acts
  in_world : (q lock : ℕ) → claims lock (act q) ≡ true → q < length w
  in_world q lock e = elim (cases_lt q (length w)) [
    | inl lt ↦ lt
    | inr past ↦ absurd (false≢true (ap (λ (x : Stand). claims lock (act_of x)) (sym (get_or_past w q no_stand past)) ∙ e))
  ]

  turn_at : (q : ℕ) (o : Option Act) → act q ≡ o → turn_of locks w q ≡ turn_by (acts_of w) o (reply_at locks hss q o)
  turn_at q o e = ap (λ (x : Option Act). turn_by (acts_of w) x (reply_at locks hss q x)) e

  -- a party whose claim has no step waits for the lock
  claimed : (q lock : ℕ) → claims lock (act q) ≡ true → is_step_turn (turn_of locks w q) ≡ false
      → waits_for lock (act q) (turn_of locks w q) ≡ true
  claimed q lock claim idle =
      let c = call_of (λ call. (call.lock == lock) && is_claim call.step) (act q) claim in
      let both = and_parts (c.0.lock == lock) (is_claim c.0.step) c.2 in
      let turn = turn_at q (Some (Call c.0)) c.1 in
      let waits = claim_waits (get_or locks c.0.lock no_lock) hss q c.0.lock c.0.step both.1 (ap is_step_turn (sym turn) ∙ idle) in
      ap (λ (o : Option Act). waits_for lock o (turn_of locks w q)) c.1
      ∙ ap (waits_for lock (Some (Call c.0))) (turn ∙ ap (λ (t : Turn). Some t) waits)
      ∙ both.0

  -- a party that waits for a lock claims it
  waiting_claims : (q lock : ℕ) → waits_for lock (act q) (turn_of locks w q) ≡ true
      → (claims lock (act q) ≡ true) × (is_waits (turn_of locks w q) ≡ true)
  waiting_claims q lock waits =
      let c = wait_of lock (act q) (turn_of locks w q) waits in
      let turn = same_Some _ _ (sym (turn_at q (Some (Call c.0)) c.1) ∙ c.2) in (
        ap (claims lock) c.1
            ∙ ap (λ (b : Bool). b && is_claim c.0.step) c.3
            ∙ waits_claims (get_or locks c.0.lock no_lock) hss q c.0.lock c.0.step turn,
        ap is_waits c.2,
      )

  -- what a party that lines up at a lock does there
  record LinesUp (p lock : ℕ) : Type 0 where
    claims_it : claims lock (act p) ≡ true
    fair : (get_or locks lock no_lock).fair ≡ true
    names : names_fair locks (act p) ≡ true

  lined_at : (p lock : ℕ) → line_of locks (act p) ≡ Some lock → LinesUp p lock
  lined_at p lock e =
      let c = line_call locks lock (act p) e in
      let two = lined_fair (get_or locks c.0.lock no_lock) c.0.step c.2 in
      record {
        claims_it = ap (claims lock) c.1 ∙ ap (λ (b : Bool). b && is_claim c.0.step) (eq-eqb c.0.lock lock c.3) ∙ two.1;
        fair = ap (λ (l : ℕ). (get_or locks l no_lock).fair) (sym c.3) ∙ two.0;
        names = ap (names_fair locks) c.1 ∙ two.0;
      }

  -- a claim of a fair lock is a call on a fair lock; one that changes lines up nowhere
  claim_fair : (q lock : ℕ) → claims lock (act q) ≡ true → (get_or locks lock no_lock).fair ≡ true → names_fair locks (act q) ≡ true
  claim_fair q lock claim fair =
      let c = call_of (λ call. (call.lock == lock) && is_claim call.step) (act q) claim in
      ap (names_fair locks) c.1
      ∙ ap (λ (l : ℕ). (get_or locks l no_lock).fair) (eqb-true c.0.lock lock (and_parts (c.0.lock == lock) (is_claim c.0.step) c.2).0)
      ∙ fair

  change_at : (q lock : ℕ) → changes lock (act q) ≡ true → (claims lock (act q) ≡ true) × (line_of locks (act q) ≡ None)
  change_at q lock change =
      let c = call_of (λ call. (call.lock == lock) && is_change call.step) (act q) change in
      let both = and_parts (c.0.lock == lock) (is_change c.0.step) c.2 in (
        ap (claims lock) c.1 ∙ ap (λ (b : Bool). b && is_claim c.0.step) both.0 ∙ change_claims c.0.step both.1,
        ap (line_of locks) c.1
            ∙ ap (λ (b : Bool). if b then Some c.0.lock else None) (change_no_line (get_or locks c.0.lock no_lock) c.0.step both.1),
      )

  -- the lock at whose line a party is behind another one
  line_found : (f : ℕ → Bool) (o : Option ℕ) → on_lock f o ≡ true → (lock : ℕ) × (o ≡ Some lock) × (f lock ≡ true)
  line_found f None e = cc
  line_found f (Some lock) e = (lock, refl, e)

  waits_there : (q lock : ℕ) → claims lock (act q) ≡ true → is_step_turn (turn_of locks w q) ≡ false → has_waiter locks w lock ≡ true
  waits_there q lock claim idle =
      some_at (λ p. waits_for lock (act p) (turn_of locks w p)) (length w) q (in_world q lock claim) (claimed q lock claim idle)

-- Where nobody goes in line, somebody waits by what is held

module _ (locks : List PlanLock) (servers : List Bool) (s : LinedWorld) (stuck : IsStuckInLine locks servers s) where
  abbrev w : List Stand
  w = s.stands

  idle : (q lock : ℕ) → claims lock (here s q) ≡ true → (is_step_turn (turn_of locks w q) && not (is_behind_some locks s q)) ≡ false
  idle q lock claim = below_each (goes_in_line locks s) (length w) q stuck.none_goes (in_world locks w q lock claim)

  -- a claim by a change waits by what is held
  changer : (q lock : ℕ) → changes lock (here s q) ≡ true → has_waiter locks w lock ≡ true
  changer q lock change =
      let two = change_at locks w q lock change in
      by_bool (is_step_turn (turn_of locks w q))
      (λ steps.
      absurd (false≢true (sym (idle q lock two.0)
      ∙ ap (λ (o : Option ℕ). is_step_turn (turn_of locks w q) && not (on_lock (is_behind locks s q) o)) two.1
      ∙ ap (λ (b : Bool). b && true) steps)))
      (waits_there locks w q lock two.0)

  first : (lock h : ℕ) → claims lock (here s h) ≡ true → list_any (λ q. claims lock (here s q)) (before h s.waiting) ≡ false
      → has_waiter locks w lock ≡ true
  first lock h claim none =
      by_bool (is_step_turn (turn_of locks w h))
      (λ steps.
      let held : is_behind_some locks s h ≡ true =
      not-false (is_behind_some locks s h) (ap (λ (b : Bool). b && not (is_behind_some locks s h)) (sym steps) ∙ idle h lock claim) in
      let line = line_found locks w (is_behind locks s h) (line_of locks (here s h)) held in
      let same : line.0 ≡ lock = one_claim line.0 lock (here s h) (lined_at locks w h line.0 line.1).claims_it claim in
      let behind : is_behind locks s h lock ≡ true = ap (is_behind locks s h) (sym same) ∙ line.2 in
      let change : list_any (λ q. changes lock (here s q)) s.waiting ≡ true =
      ap (λ (b : Bool). b || list_any (λ q. changes lock (here s q)) s.waiting) (sym none) ∙ behind in
      let u = first_in (λ q. changes lock (here s q)) s.waiting change in
      changer u.0 lock u.1)
      (waits_there locks w h lock claim)

  ahead : (p lock : ℕ) → is_behind locks s p lock ≡ true → has_waiter locks w lock ≡ true
  ahead p lock behind =
      let some : list_any (λ q. claims lock (here s q)) s.waiting ≡ true =
      elim (or_cases (list_any (λ q. claims lock (here s q)) (before p s.waiting)) (list_any (λ q. changes lock (here s q)) s.waiting) behind) [
        | inl came ↦ any_before (λ q. claims lock (here s q)) p s.waiting came
        | inr change ↦
            any_weaker (λ q. changes lock (here s q)) (λ q. claims lock (here s q)) (λ q e. (change_at locks w q lock e).0) s.waiting change
      ] in
      let h = first_in (λ q. claims lock (here s q)) s.waiting some in
      first lock h.0 h.1 h.2

  stays_put : (p : ℕ) → p < length w → goes_on locks w p ≡ false
  stays_put p lt =
      and_false (is_step_turn (turn_of locks w p)) _
      (λ steps.
      let held : is_behind_some locks s p ≡ true =
      not-false (is_behind_some locks s p)
      (ap (λ (b : Bool). b && not (is_behind_some locks s p)) (sym steps) ∙ below_each (goes_in_line locks s) (length w) p stuck.none_goes lt) in
      let line = line_found locks w (is_behind locks s p) (line_of locks (here s p)) held in
      ap (λ (o : Option ℕ). not (on_lock (has_waiter locks w) o)) line.1 ∙ ap not (ahead p line.0 line.2))

  pub stuck_in_world : is_stuck servers locks s.stands ≡ true
  stuck_in_world =
      ap (λ (b : Bool). b && not (some_below (goes_on locks w) (length w))) stuck.due
      ∙ ap not (below_none (goes_on locks w) (length w) stays_put)

-- Runs with lines lead to worlds

module _ (locks : List PlanLock) where
  step_on : (s t : LinedWorld) (a : ℕ ⊎ Step) → lined_by locks s a ≡ Some t
      → (s.stands ≡ t.stands) ⊎ ((step : Step) × (world_step locks s.stands step ≡ Some t.stands))
  step_on s t (inl p) e = inl (joined_same (joins locks s p) e)
    where
      joined_same : (b : Bool) → (if b then Some (record { stands = s.stands; waiting = s.waiting ++ p ∷ [] }) else None) ≡ Some t
          → s.stands ≡ t.stands
      joined_same true e = ap (λ (x : LinedWorld). x.stands) (same_Some _ t e)
      joined_same false e = cc
  step_on s t (inr step) e = inr (step, stepped_is (is_behind_some locks s step.party) (world_step locks s.stands step) e)
    where
      stepped_is : (b : Bool) (o : Option (List Stand))
          → (if b then None else option_map (λ w. record { stands = w; waiting = without step.party s.waiting }) o) ≡ Some t → o ≡ Some t.stands
      stepped_is true o e = cc
      stepped_is false None e = cc
      stepped_is false (Some v) e = ap (λ (x : LinedWorld). Some x.stands) (same_Some _ t e)

  pub worlds : (acts : List (ℕ ⊎ Step)) (s end : LinedWorld) → lined_after locks s acts ≡ Some end
      → (steps : List Step) × (world_after locks s.stands steps ≡ Some end.stands)
  worlds [] s end e = ([], ap (λ (x : LinedWorld). Some x.stands) (same_Some s end e))
  worlds (a ∷ acts) s end e = by_first (lined_by locks s a) (λ t. worlds acts t end) refl e
    where
      by_first : (o : Option LinedWorld)
          → ((t : LinedWorld) → lined_after locks t acts ≡ Some end → (steps : List Step) × (world_after locks t.stands steps ≡ Some end.stands))
          → lined_by locks s a ≡ o → lined_on locks o (λ t. lined_after locks t acts) ≡ Some end
          → (steps : List Step) × (world_after locks s.stands steps ≡ Some end.stands)
      by_first None later is e = cc
      by_first (Some t) later is e =
          let rest = later t e in
          elim (step_on s t a is) [
            | inl same ↦ (rest.0, ap (λ (v : List Stand). world_after locks v rest.0) same ∙ rest.1)
            | inr one ↦ (one.0 ∷ rest.0, ap (λ (o : Option (List Stand)). on_from o (λ v. world_after locks v rest.0)) one.1 ∙ rest.1)
          ]

  lined_append : (xs ys : List (ℕ ⊎ Step)) (s : LinedWorld)
      → lined_after locks s (xs ++ ys) ≡ lined_on locks (lined_after locks s xs) (λ t. lined_after locks t ys)
  lined_append [] ys s = refl
  lined_append (x ∷ xs) ys s = by_first (lined_by locks s x) (lined_append xs ys)
    where
      by_first : (o : Option LinedWorld)
          → ((t : LinedWorld) → lined_after locks t (xs ++ ys) ≡ lined_on locks (lined_after locks t xs) (λ u. lined_after locks u ys))
          → lined_on locks o (λ t. lined_after locks t (xs ++ ys))
          ≡ lined_on locks (lined_on locks o (λ t. lined_after locks t xs)) (λ t. lined_after locks t ys)
      by_first None later = refl
      by_first (Some t) later = later t

  -- a run of the plan, in which nobody joins
  no_line_ahead : (o : Option ℕ) → on_lock (λ lock. false) o ≡ false
  no_line_ahead None = refl
  no_line_ahead (Some lock) = refl

  plain_run : (steps : List Step) (v w : List Stand) → world_after locks v steps ≡ Some w
      → lined_after locks (record { stands = v; waiting = [] }) (map inr steps) ≡ Some (record { stands = w; waiting = [] })
  plain_run [] v w e = ap (λ (x : List Stand). Some (record { stands = x; waiting = [] })) (same_Some v w e)
  plain_run (step ∷ steps) v w e = by_first (world_step locks v step) (λ u. plain_run steps u w) e
    where
      by_first : (o : Option (List Stand))
          → ((u : List Stand) → world_after locks u steps ≡ Some w
          → lined_after locks (record { stands = u; waiting = [] }) (map inr steps) ≡ Some (record { stands = w; waiting = [] }))
          → on_from o (λ u. world_after locks u steps) ≡ Some w
          → lined_on locks (if is_behind_some locks (record { stands = v; waiting = [] }) step.party then None else option_map (λ u. record { stands = u; waiting = [] }) o)
          (λ t. lined_after locks t (map inr steps)) ≡ Some (record { stands = w; waiting = [] })
      by_first None later e = cc
      by_first (Some u) later e =
          ap (λ (b : Bool). lined_on locks (if b then None else Some (record { stands = u; waiting = [] })) (λ t. lined_after locks t (map inr steps)))
          (no_line_ahead (line_of locks (act_of (get_or v step.party no_stand))))
          ∙ later u e

  -- those below a number that have it join one after another
  abbrev acts_of_one : ℕ → Bool → List (ℕ ⊎ Step)
  acts_of_one n b = if b then inl n ∷ [] else []

  abbrev joining : (ℕ → Bool) → ℕ → List (ℕ ⊎ Step)
  joining f zero = []
  joining f (suc n) = joining f n ++ acts_of_one n (f n)

  join_run : (w : List Stand) (pre : List ℕ) (f : ℕ → Bool) (n : ℕ)
      → ((p : ℕ) → p < n → f p ≡ true → joins locks (record { stands = w; waiting = pre ++ picked f p }) p ≡ true)
      → lined_after locks (record { stands = w; waiting = pre }) (joining f n) ≡ Some (record { stands = w; waiting = pre ++ picked f n })
  join_run w pre f zero each = ap (λ (xs : List ℕ). Some (record { stands = w; waiting = xs })) (sym (append-nil pre))
  join_run w pre f (suc n) each =
      lined_append (joining f n) (acts_of_one n (f n)) (record { stands = w; waiting = pre })
      ∙ ap (λ (o : Option LinedWorld). lined_on locks o (λ t. lined_after locks t (acts_of_one n (f n))))
      (join_run w pre f n (λ p lt is. each p (omega arith) is))
      ∙ last (f n) refl
    where
      last : (b : Bool) → f n ≡ b
          → lined_after locks (record { stands = w; waiting = pre ++ picked f n }) (acts_of_one n b)
          ≡ Some (record { stands = w; waiting = pre ++ (picked f n ++ (if b then n ∷ [] else [])) })
      last true is =
          ap (λ (b : Bool). lined_on locks (if b then Some (record { stands = w; waiting = (pre ++ picked f n) ++ n ∷ [] }) else None) (λ t. Some t))
          (each n (omega arith) is)
          ∙ ap (λ (xs : List ℕ). Some (record { stands = w; waiting = xs })) (append_assoc pre (picked f n) (n ∷ []))
      last false is =
          ap (λ (xs : List ℕ). Some (record { stands = w; waiting = pre ++ xs })) (sym (append-nil (picked f n)))

-- A world that is stuck, with lines

module _ (locks : List PlanLock) (servers : List Bool) (w : List Stand) (stuck : is_stuck servers locks w ≡ true) where
  abbrev n : ℕ
  n = length w

  abbrev turn : ℕ → Option Turn
  turn p = turn_of locks w p

  -- who waits by what is held joins first, then who is behind them
  abbrev waits_first : ℕ → Bool
  waits_first p = is_waits (turn p) && names_fair locks (act locks w p)

  abbrev comes_behind : ℕ → Bool
  comes_behind p = is_step_turn (turn p) && on_lock (has_waiter locks w) (line_of locks (act locks w p))

  abbrev leaders : List ℕ
  leaders = picked waits_first n

  abbrev waiting : List ℕ
  waiting = leaders ++ picked comes_behind n

  abbrev with_line : List ℕ → LinedWorld
  with_line list = record { stands = w; waiting = list }

  no_step : (o : Option Turn) → is_waits o ≡ true → is_step_turn o ≡ false
  no_step (Some Waits) e = refl
  no_step o e = cc

  -- a party with a step is no leader
  not_leader : (p : ℕ) → is_step_turn (turn p) ≡ true → is_listed p leaders ≡ false
  not_leader p steps =
      not_picked waits_first n p
      (λ r lt first same.
      let waits = (and_parts (is_waits (turn r)) (names_fair locks (act locks w r)) first).0 in
      false≢true (sym (no_step (turn r) waits) ∙ ap (λ (q : ℕ). is_step_turn (turn q)) (sym same) ∙ steps))

  -- a leader of the lock is ahead of a party that is no leader
  is_led : (p lock : ℕ) (rest : List ℕ) → is_step_turn (turn p) ≡ true → line_of locks (act locks w p) ≡ Some lock
      → has_waiter locks w lock ≡ true → is_behind locks (with_line (leaders ++ rest)) p lock ≡ true
  is_led p lock rest steps line waits =
      let q = some_found (λ r. waits_for lock (act locks w r) (turn r)) n waits in
      let claim = waiting_claims locks w q.0 lock q.1 in
      let fair = (lined_at locks w p lock line).fair in
      let first : waits_first q.0 ≡ true =
      ap (λ (b : Bool). b && names_fair locks (act locks w q.0)) claim.1 ∙ claim_fair locks w q.0 lock claim.0 fair in
      let led : list_any (λ r. claims lock (act locks w r)) leaders ≡ true =
      in_picked waits_first (λ r. claims lock (act locks w r)) n q.0 q.2 first claim.0 in
      ap (λ (b : Bool). b || list_any (λ r. changes lock (act locks w r)) (leaders ++ rest))
      (ap (list_any (λ r. claims lock (act locks w r))) (before_both p leaders rest (not_leader p steps))
      ∙ list_any-append (λ r. claims lock (act locks w r)) leaders (before p rest)
      ∙ ap (λ (b : Bool). b || list_any (λ r. claims lock (act locks w r)) (before p rest)) led)

  -- a party that comes behind is held up once the leaders have joined
  held : (p : ℕ) (rest : List ℕ) → comes_behind p ≡ true → is_behind_some locks (with_line (leaders ++ rest)) p ≡ true
  held p rest behind =
      let both = and_parts (is_step_turn (turn p)) _ behind in
      let line = line_found locks w (has_waiter locks w) (line_of locks (act locks w p)) both.1 in
      ap (on_lock (is_behind locks (with_line (leaders ++ rest)) p)) line.1 ∙ is_led p line.0 rest both.0 line.1 line.2

  not_yet : (f : ℕ → Bool) (p : ℕ) → is_listed p (picked f p) ≡ false
  not_yet f p = not_picked f p p (λ r lt is same. omega (arith, lt, same))

  first_joins : (p : ℕ) → p < n → waits_first p ≡ true → joins locks (with_line (picked waits_first p)) p ≡ true
  first_joins p lt first =
      ap (λ (b : Bool). not b && (waits_first p || is_behind_some locks (with_line (picked waits_first p)) p)) (not_yet waits_first p)
      ∙ ap (λ (b : Bool). b || is_behind_some locks (with_line (picked waits_first p)) p) first

  then_joins : (p : ℕ) → p < n → comes_behind p ≡ true → joins locks (with_line (leaders ++ picked comes_behind p)) p ≡ true
  then_joins p lt behind =
      let steps = (and_parts (is_step_turn (turn p)) _ behind).0 in
      let rest = picked comes_behind p in
      let none : is_listed p (leaders ++ rest) ≡ false =
      list_any-append (λ q. p == q) leaders rest
      ∙ ap (λ (b : Bool). b || is_listed p rest) (not_leader p steps)
      ∙ not_yet comes_behind p in
      ap (λ (b : Bool). not b && (waits_first p || is_behind_some locks (with_line (leaders ++ rest)) p)) none
      ∙ or_right (waits_first p) (is_behind_some locks (with_line (leaders ++ rest)) p) (held p rest behind)

  abbrev parts : (some_below (λ p. is_due (is_server servers p) (turn p)) n ≡ true) × (not (some_below (goes_on locks w) n) ≡ true)
  parts = and_parts (some_below (λ p. is_due (is_server servers p) (turn p)) n) (not (some_below (goes_on locks w) n)) stuck

  still : (p : ℕ) → p < n → goes_on locks w p ≡ false
  still p lt = below_each (goes_on locks w) n p (not-true _ parts.1) lt

  -- a party with a step comes behind another one
  behind_other : (p : ℕ) → p < n → is_step_turn (turn p) ≡ true → comes_behind p ≡ true
  behind_other p lt steps =
      ap (λ (b : Bool). b && on_lock (has_waiter locks w) (line_of locks (act locks w p))) steps
      ∙ not-false (on_lock (has_waiter locks w) (line_of locks (act locks w p)))
      (ap (λ (b : Bool). b && not (on_lock (has_waiter locks w) (line_of locks (act locks w p)))) (sym steps) ∙ still p lt)

  none_goes : (p : ℕ) → p < n → goes_in_line locks (with_line waiting) p ≡ false
  none_goes p lt =
      and_false (is_step_turn (turn p)) (not (is_behind_some locks (with_line waiting) p))
      (λ steps. ap not (held p (picked comes_behind n) (behind_other p lt steps)))

  -- a leader has joined, and so has a party that comes behind
  leader_listed : (p : ℕ) → p < n → waits_first p ≡ true → is_listed p waiting ≡ true
  leader_listed p lt first =
      list_any-append (λ q. p == q) leaders (picked comes_behind n)
      ∙ ap (λ (b : Bool). b || is_listed p (picked comes_behind n)) (in_picked waits_first (λ q. p == q) n p lt first (eq-eqb p p refl))

  follower_listed : (p : ℕ) → p < n → comes_behind p ≡ true → is_listed p waiting ≡ true
  follower_listed p lt behind =
      list_any-append (λ q. p == q) leaders (picked comes_behind n)
      ∙ or_right (is_listed p leaders) (is_listed p (picked comes_behind n)) (in_picked comes_behind (λ q. p == q) n p lt behind (eq-eqb p p refl))

  -- so has each party that acquires a fair lock
  lined_listed : (p lock : ℕ) → p < n → line_of locks (act locks w p) ≡ Some lock → is_listed p waiting ≡ true
  lined_listed p lock lt line =
      by_bool (is_step_turn (turn p))
      (λ steps. follower_listed p lt (behind_other p lt steps))
      (λ idle.
      let lines = lined_at locks w p lock line in
      let waits = waiting_claims locks w p lock (claimed locks w p lock lines.claims_it idle) in
      leader_listed p lt (ap (λ (b : Bool). b && names_fair locks (act locks w p)) waits.1 ∙ lines.names))

  none_joins : (p : ℕ) → p < n → joins locks (with_line waiting) p ≡ false
  none_joins p lt =
      and_false (not (is_listed p waiting)) (waits_first p || is_behind_some locks (with_line waiting) p)
      (λ absent.
      let none : is_listed p waiting ≡ false = not-true (is_listed p waiting) absent in
      let no_leader : waits_first p ≡ false =
      by_bool (waits_first p) (λ so. absurd (false≢true (sym none ∙ leader_listed p lt so))) (λ un. un) in
      let not_held : is_behind_some locks (with_line waiting) p ≡ false =
      by_bool (is_behind_some locks (with_line waiting) p)
      (λ so.
      let line = line_found locks w (is_behind locks (with_line waiting) p) (line_of locks (act locks w p)) so in
      absurd (false≢true (sym none ∙ lined_listed p line.0 lt line.1)))
      (λ un. un) in
      ap (λ (b : Bool). b || is_behind_some locks (with_line waiting) p) no_leader ∙ not_held)

  stuck_in_line : IsStuckInLine locks servers (with_line waiting)
  stuck_in_line = record {
    due = parts.0;
    none_goes = below_none (goes_in_line locks (with_line waiting)) n none_goes;
    none_joins = below_none (joins locks (with_line waiting)) n none_joins;
  }

  abbrev line_acts : List (ℕ ⊎ Step)
  line_acts = joining locks waits_first n ++ joining locks comes_behind n

  line_run : lined_after locks (with_line []) line_acts ≡ Some (with_line waiting)
  line_run =
      lined_append locks (joining locks waits_first n) (joining locks comes_behind n) (with_line [])
      ∙ ap (λ (o : Option LinedWorld). lined_on locks o (λ t. lined_after locks t (joining locks comes_behind n)))
      (join_run locks w [] waits_first n first_joins)
      ∙ join_run locks w leaders comes_behind n then_joins

pub lines_stop_as_worlds : (servers : List Bool) (locks : List PlanLock) (programs : List (List ProgramPlace)) → LinesStopAsWorlds servers locks programs
lines_stop_as_worlds servers locks programs = record {
  worlds = λ acts s e. worlds locks acts (first_lined locks programs) s e;
  reached = λ steps w e. (map inr steps, plain_run locks steps (first_world locks programs) w e);
  stuck = λ s stuck. stuck_in_world locks servers s stuck;
  back = λ steps w e stuck. (
    map inr steps ++ line_acts locks servers w stuck,
    waiting locks servers w stuck,
    lined_append locks (map inr steps) (line_acts locks servers w stuck) (first_lined locks programs)
        ∙ ap (λ (o : Option LinedWorld). lined_on locks o (λ t. lined_after locks t (line_acts locks servers w stuck)))
        (plain_run locks steps (first_world locks programs) w e)
        ∙ line_run locks servers w stuck,
    stuck_in_line locks servers w stuck,
  );
}
