-- A scene stops exactly where the world stops that it is tied to.
use Rattle.std.proofs.Common.{◌≡◌, ℕ, zero, suc, ◌+◌, ◌<◌, ◌^◌, Bool, true, false, not, ◌||◌, ◌⊎◌, inl, inr, ◌&&◌, if◌then◌else◌, List, [], ◌∷◌, length, map, get_or, Option, Some, None, is_some, IsTrue, refl, ap, sym, ◌∙◌, arith}
use Rattle.std.proofs.lemmas.Bool.{and_parts, and_from, or_cases, false≢true, not-true}
use Rattle.lock_modes.specs.declared.party.PartyId.{PartyId}
use Rattle.lock_machine.specs.Operation.{Operation}
use Rattle.lock_modes.specs.Kind.{is_reentrant, is_rwlock}
use Rattle.lock_plan.specs.declared.lock.PlanLock.{PlanLock}
use Rattle.lock_plan.specs.declared.program.Act.{Act}
use Rattle.lock_plan.specs.declared.program.Act.TheVariants as act
use Rattle.lock_plan.specs.declared.program.ProgramPlace.{ProgramPlace}
use Rattle.lock_plan.specs.declared.program.Signal.TheVariants.{AssertAtLeast}
use Rattle.lock_plan.specs.declared.program.Step.{Step}
use Rattle.lock_plan.specs.declared.turn.Turn.{Turn}
use Rattle.lock_plan.specs.declared.turn.Turn.TheVariants.{Goes, Announces, Refused}
use Rattle.lock_modes.specs.declared.mode_step.ModeStep.TheVariants.{Acquire}
use Rattle.lock_modes.specs.declared.lock_step.LockStep.{LockStep}
use Rattle.lock_modes.specs.declared.lock_step.LockStep.TheVariants.{Modes}
use Rattle.lock_plan.specs.Checks.{none_fair}
use Rattle.lock_plan.specs.Holds.{lines_up}
use Rattle.lock_plan.specs.Signals.{idles, is_so}
use Rattle.lock_plan.specs.Worlds.{Stand, no_stand, no_lock, act_of, acts_of, reply_at, reply_of, turn_by, turn_of, is_goes, some_below, is_server, is_due, is_refused_turn, is_step_turn, line_of, has_waiter, on_lock, goes_on, is_stuck, is_refused, is_stop}
use Rattle.lock_plan_laws.specs.Scenes.{Caller, Scene, act_at, HasFalseAssertion, IsStep, IsStuckScene, IsRefusedScene, IsStopScene}
use Rattle.lock_plan_laws.specs.Bridge.{AreDistinct}
use Rattle.lock_plan_laws.proofs.Ties.{IsTied}
use Rattle.lock_plan_laws.proofs.RowMoves.{acts_same}
use Rattle.lock_plan_laws.proofs.Steps.{act_same, known}
use Rattle.lock_plan_laws.proofs.Ways.{choice_way, signal_way, signal_refused, turn_some, some_turn}
use Rattle.lock_plan_laws.proofs.SceneSteps.{call_known, call_turn, called, tried, chosen, signalled, step_on}

-- a number below that has it

pub some_at : (f : ℕ → Bool) (n p : ℕ) → p < n → f p ≡ true → some_below f n ≡ true
some_at f zero p lt is = absurd (omega arith)
some_at f (suc n) p lt is = by_last (f n) refl (some_at f n p)
  where
    by_last : (b : Bool) → f n ≡ b → (p < n → f p ≡ true → some_below f n ≡ true) → (f n || some_below f n) ≡ true
    by_last true here rest = ap (λ (b : Bool). b || some_below f n) here
    by_last false other rest =
        ap (λ (b : Bool). b || some_below f n) other
        ∙ rest (let apart : p ≡ n → ⊥ = λ same. false≢true (sym other ∙ ap f (sym same) ∙ is) in omega arith) is

pub some_found : (f : ℕ → Bool) (n : ℕ) → some_below f n ≡ true → (p : ℕ) × (f p ≡ true) × (p < n)
some_found f zero is = cc
some_found f (suc n) is = by_last (f n) refl is (some_found f n)
  where
    by_last : (b : Bool) → f n ≡ b → (b || some_below f n) ≡ true → (some_below f n ≡ true → (p : ℕ) × (f p ≡ true) × (p < n))
        → (p : ℕ) × (f p ≡ true) × (p < suc n)
    by_last true here any rest = (n, here, omega arith)
    by_last false other any rest = let q = rest any in (q.0, q.1, omega (arith, q.2))

refused_is : (o : Option Turn) → is_refused_turn o ≡ true → o ≡ Some Refused
refused_is (Some Refused) is = refl
refused_is o is = cc

-- a step's turn
step_is : (o : Option Turn) → is_step_turn o ≡ true → (o ≡ Some Goes) ⊎ (o ≡ Some Announces)
step_is (Some Goes) is = inl refl
step_is (Some Announces) is = inr refl
step_is o is = cc

-- where no lock is fair, a party whose turn is a step goes on
not_fair : (locks : List PlanLock) → IsTrue (none_fair locks) → (l : ℕ) → (get_or locks l no_lock).fair ≡ false
not_fair [] plain l = refl
not_fair (lock ∷ locks) plain zero = not-true lock.fair (and_parts (not lock.fair) (none_fair locks) plain).0
not_fair (lock ∷ locks) plain (suc l) = not_fair locks (and_parts (not lock.fair) (none_fair locks) plain).1 l

no_line : (lock : PlanLock) (a : LockStep) → lock.fair ≡ false → lines_up lock a ≡ false
no_line lock (Modes (Acquire mode)) plain = ap (λ (b : Bool). b && not (is_reentrant lock.kind)) plain
no_line lock a plain = refl

no_line_of : (locks : List PlanLock) → IsTrue (none_fair locks) → (here : Option Act) → line_of locks here ≡ None
no_line_of locks plain (Some (act.Call call)) =
    ap (λ (b : Bool). if b then Some call.lock else None) (no_line (get_or locks call.lock no_lock) call.step (not_fair locks plain call.lock))
no_line_of locks plain here = refl

steps_on : (locks : List PlanLock) (w : List Stand) → IsTrue (none_fair locks) → (p : ℕ) → is_step_turn (turn_of locks w p) ≡ true
    → goes_on locks w p ≡ true
steps_on locks w plain p steps =
    ap (λ (o : Option ℕ). is_step_turn (turn_of locks w p) && not (on_lock (has_waiter locks w) o))
    (no_line_of locks plain (act_of (get_or w p no_stand)))
    ∙ ap (λ (b : Bool). b && true) steps

module _ {O T A : Type 0} (meaning : O → Operation T A) (ids : ℕ → PartyId) (distinct : AreDistinct ids) (locks : List PlanLock)
    (bars : (l : ℕ) → IsTrue (get_or locks l no_lock).bar → IsTrue (is_rwlock (get_or locks l no_lock).kind)) (programs : List (List ProgramPlace)) where
  module _ (w : List Stand) (s : Scene T) (used : ℕ) (tied : IsTied ids locks programs w s used) (few : used + 1 < 2 ^ 64) where
    abbrev stand : ℕ → Stand
    stand p = get_or w p no_stand

    refused_here : IsRefusedScene meaning ids locks programs s → is_refused locks w ≡ true
    refused_here h =
        some_at (λ p. is_refused_turn (turn_of locks w p)) (length w) h.0.party (call_known meaning ids distinct locks bars programs w s used tied few h.0 Refused h.1 h.2)
        (ap is_refused_turn (call_turn meaning ids distinct locks bars programs w s used tied few h.0 Refused h.1 h.2))

    false_here : HasFalseAssertion programs s → is_refused locks w ≡ true
    false_here h =
        let here : act_of (stand h.party) ≡ Some (act.Signal (AssertAtLeast h.row h.number h.value)) =
        sym (act_same meaning ids distinct locks bars programs w s used tied h.party) ∙ h.here in
        let other : is_so (acts_of w) h.row h.number h.value ≡ false =
        ap (λ (acts : List (Option Act)). is_so acts h.row h.number h.value) (sym (acts_same ids distinct locks programs w s used tied)) ∙ h.is_false in
        some_at (λ p. is_refused_turn (turn_of locks w p)) (length w) h.party
        (known meaning ids distinct locks bars programs w s used tied h.party (act.Signal (AssertAtLeast h.row h.number h.value)) here)
        (ap (λ (o : Option Act). is_refused_turn (turn_by (acts_of w) o (reply_of locks w h.party))) here
        ∙ ap (λ (b : Bool). is_refused_turn (Some (if b then Goes else Refused))) other)

    refused_by : (p : ℕ) (o : Option Act) → act_of (get_or w p no_stand) ≡ o
        → turn_by (acts_of w) o (reply_of locks w p) ≡ Some Refused
        → IsRefusedScene meaning ids locks programs s ⊎ HasFalseAssertion programs s
    refused_by p (Some (act.Call call)) here is =
        let taken : Step = record { party = p; way = 0 } in
        let h = called meaning ids distinct locks bars programs w s used tied few taken call Refused here refl is in
        inl (record { step = taken; guard = h.0 }, h.1, h.2)
    refused_by p (Some (act.Signal signal)) here is =
        let h = signal_refused (acts_of w) signal is in
        inr (record {
          party = p;
          row = h.0;
          number = h.1;
          value = h.2;
          here = act_same meaning ids distinct locks bars programs w s used tied p ∙ here ∙ ap (λ (a : _). Some (act.Signal a)) h.3;
          is_false = ap (λ (acts : List (Option Act)). is_so acts h.0 h.1 h.2) (acts_same ids distinct locks programs w s used tied) ∙ h.4;
        })
    refused_by p o here is = cc

    refused_back : is_refused locks w ≡ true → IsRefusedScene meaning ids locks programs s ⊎ HasFalseAssertion programs s
    refused_back is =
        let found = some_found (λ p. is_refused_turn (turn_of locks w p)) (length w) is in
        refused_by found.0 (act_of (stand found.0)) refl (refused_is (turn_of locks w found.0) found.1)

    -- a step of a party in the world is one that it has in the scene
    step_of_turn : (p : ℕ) (o : Option Act) → act_of (get_or w p no_stand) ≡ o
        → is_step_turn (turn_by (acts_of w) o (reply_of locks w p)) ≡ true
        → ((c : Caller) (after : Scene T) → IsStep meaning ids locks programs s c after → ⊥) → ⊥
    step_of_turn p None here is none = cc
    step_of_turn p (Some (act.Call call)) here is none = by_turn (step_is (reply_of locks w p) is)
      where
        by_turn : (reply_of locks w p ≡ Some Goes) ⊎ (reply_of locks w p ≡ Some Announces) → ⊥
        by_turn (inl goes) =
            let first : Step = record { party = p; way = 0 } in
            let h = called meaning ids distinct locks bars programs w s used tied few first call Goes here refl goes in
            none _ h.1 (inl h.2)
        by_turn (inr announces) =
            let first : Step = record { party = p; way = 0 } in
            let h =
            called meaning ids distinct locks bars programs w s used tied few first call Announces here refl announces in
            none _ h.1 (inr (inl h.2))
    step_of_turn p (Some (act.Try call)) here is none =
        let goes : Bool = is_goes (reply_of locks w p) in
        let taken : Step = record { party = p; way = if goes then 0 else 1 } in
        let h = tried meaning ids distinct locks bars programs w s used tied few taken call here refl in
        none _ h.1 (inr (inr (inl h.2)))
    step_of_turn p (Some (act.Choose block)) here is none =
        let way = choice_way (acts_of w) block in
        let taken : Step = record { party = p; way = way.0 } in
        let h = chosen meaning ids distinct locks bars programs w s used tied few taken block here way.1 in
        none _ h.0 (inr (inr (inr (inl h.1))))
    step_of_turn p (Some (act.Signal signal)) here is none =
        let way = signal_way (acts_of w) signal is in
        let taken : Step = record { party = p; way = way.0 } in
        let h = signalled meaning ids distinct locks bars programs w s used tied few taken signal here way.1 in
        none _ h.0 (inr (inr (inr (inr h.1))))

    no_step_here : ((c : Caller) (after : Scene T) → IsStep meaning ids locks programs s c after → ⊥)
        → some_below (goes_on locks w) (length w) ≡ true → ⊥
    no_step_here none is =
        let found = some_found (goes_on locks w) (length w) is in
        step_of_turn found.0 (act_of (stand found.0)) refl (and_parts (is_step_turn (turn_of locks w found.0)) _ found.1).0 none

    -- a party whose turn is a step goes on, if no lock is fair
    step_there : IsTrue (none_fair locks) → (c : Caller) (after : Scene T) → IsStep meaning ids locks programs s c after
        → some_below (goes_on locks w) (length w) ≡ true
    step_there plain c after h =
        let one = step_on meaning ids distinct locks bars programs w s used tied few c after h in
        some_at (goes_on locks w) (length w) c.party one.known (steps_on locks w plain c.party one.has_step)

    not_true : (b : Bool) → (b ≡ true → ⊥) → not b ≡ true
    not_true true h = absurd (h refl)
    not_true false h = refl

    stuck_here : (servers : List Bool) → IsStuckScene meaning ids locks programs servers s → is_stuck servers locks w ≡ true
    stuck_here servers h =
        let p = h.due.0 in
        let here : act_of (stand p) ≡ Some h.due.1 = sym (act_same meaning ids distinct locks bars programs w s used tied p) ∙ h.due.2 in
        let some : is_some (turn_of locks w p) ≡ true =
        ap (λ (o : Option Act). is_some (turn_by (acts_of w) o (reply_at locks (map (λ x. x.holds) w) p o))) here
        ∙ turn_some (acts_of w) locks (map (λ x. x.holds) w) p h.due.1 h.due.3 in
        and_from _ _
        (some_at (λ q. is_due (is_server servers q) (turn_of locks w q)) (length w) p
        (known meaning ids distinct locks bars programs w s used tied p h.due.1 here)
        (and_from (is_some (turn_of locks w p)) (not (is_server servers p)) some (ap not h.due.4)))
        (not_true (some_below (goes_on locks w) (length w)) (no_step_here h.none))

    due_by : (servers : List Bool) (p : ℕ) (o : Option Act) → act_of (get_or w p no_stand) ≡ o
        → is_some (turn_by (acts_of w) o (reply_of locks w p)) ≡ true → is_server servers p ≡ false
        → (q : ℕ) × (here : Act) × (act_at programs s q ≡ Some here) × (idles (Some here) ≡ false)
        × (is_server servers q ≡ false)
    due_by servers p None here is other = cc
    due_by servers p (Some a) here is other = (
      p,
      a,
      act_same meaning ids distinct locks bars programs w s used tied p ∙ here,
      some_turn (acts_of w) a (reply_of locks w p) is,
      other,
    )

    stuck_back : (servers : List Bool) → IsTrue (none_fair locks) → is_stuck servers locks w ≡ true
        → IsStuckScene meaning ids locks programs servers s
    stuck_back servers plain is =
        let both = and_parts (some_below (λ q. is_due (is_server servers q) (turn_of locks w q)) (length w))
        (not (some_below (goes_on locks w) (length w))) is in
        let found = some_found (λ q. is_due (is_server servers q) (turn_of locks w q)) (length w) both.0 in
        let due = and_parts (is_some (turn_of locks w found.0)) (not (is_server servers found.0)) found.1 in
        record {
          due = due_by servers found.0 (act_of (stand found.0)) refl due.0 (not-true (is_server servers found.0) due.1);
          none = λ c after h.
              false≢true (sym (not-true (some_below (goes_on locks w) (length w)) both.1) ∙ step_there plain c after h);
        }

    or_one : (a b : Bool) → (a ≡ true) ⊎ (b ≡ true) → (a || b) ≡ true
    or_one true b h = refl
    or_one false b (inl h) = absurd (false≢true h)
    or_one false b (inr h) = h

    stop_here : (servers : List Bool) → IsStopScene meaning ids locks programs servers s → is_stop servers locks w ≡ true
    stop_here servers (inl h) = or_one (is_refused locks w) (is_stuck servers locks w) (inl (refused_here h))
    stop_here servers (inr (inl h)) = or_one (is_refused locks w) (is_stuck servers locks w) (inl (false_here h))
    stop_here servers (inr (inr h)) = or_one (is_refused locks w) (is_stuck servers locks w) (inr (stuck_here servers h))

    stop_refused : (servers : List Bool) → IsRefusedScene meaning ids locks programs s ⊎ HasFalseAssertion programs s
        → IsStopScene meaning ids locks programs servers s
    stop_refused servers (inl h) = inl h
    stop_refused servers (inr h) = inr (inl h)

    stop_by : (servers : List Bool) → IsTrue (none_fair locks) → (is_refused locks w ≡ true) ⊎ (is_stuck servers locks w ≡ true) → IsStopScene meaning ids locks programs servers s
    stop_by servers plain (inl h) = stop_refused servers (refused_back h)
    stop_by servers plain (inr h) = inr (inr (stuck_back servers plain h))

    pub same_stop : (servers : List Bool) → (IsStopScene meaning ids locks programs servers s → is_stop servers locks w ≡ true)
        × (IsTrue (none_fair locks) → is_stop servers locks w ≡ true → IsStopScene meaning ids locks programs servers s)
    same_stop servers = (
      stop_here servers,
      λ plain is. stop_by servers plain (or_cases (is_refused locks w) (is_stuck servers locks w) is),
    )
