-- A step of a scene is a step of the world that it is tied to, and back.
use Rattle.std.proofs.Common.{◌≡◌, ℕ, suc, ◌+◌, ◌<◌, ◌^◌, Bool, true, false, not, ◌==◌, inl, inr, nat_lt, if◌then◌else◌, List, length, get_or, set, Option, Some, None, IsTrue, refl, ap, sym, ◌∙◌, subst, eqb-true}
use Rattle.lock_modes.specs.declared.party.PartyId.{PartyId}
use Rattle.lock_machine.specs.Operation.{Operation}
use Rattle.lock_modes.specs.Kind.{is_rwlock}
use Rattle.lock_machine.specs.Steps.{Response}
use Rattle.lock_plan.specs.declared.call.PlanCall.{PlanCall}
use Rattle.lock_plan.specs.declared.lock.PlanLock.{PlanLock}
use Rattle.lock_plan.specs.declared.program.Act.{Act}
use Rattle.lock_plan.specs.declared.program.Act.TheVariants as act
use Rattle.lock_plan.specs.declared.program.Block.{Block}
use Rattle.lock_plan.specs.declared.program.ProgramPlace.{ProgramPlace}
use Rattle.lock_plan.specs.declared.program.Signal.{Signal}
use Rattle.lock_plan.specs.declared.program.Step.{Step}
use Rattle.lock_plan.specs.declared.turn.Turn.{Turn}
use Rattle.lock_plan.specs.declared.turn.Turn.TheVariants.{Goes, Announces, Waits, Refused}
use Rattle.lock_plan.specs.Signals.{lets, moves_others}
use Rattle.lock_plan.specs.Worlds.{Stand, no_stand, no_lock, act_of, acts_of, next_in, other_in, reply_of, turn_by, turn_of, is_goes, at_place, gone, announced_for, after_call, only_if, either_by, stand_by, put_stand, rows_moved, world_step, is_step_turn}
use Rattle.lock_plan.proofs.Landing.{some_same}
use Rattle.lock_plan.proofs.Moves.{rows_still}
use Rattle.lock_plan.proofs.Ways.{only_some}
use Rattle.lock_plan_laws.specs.MachineTurns.{machine_turn, machine_try, MachineTurn}
use Rattle.lock_plan_laws.specs.Scenes.{Caller, Scene, scene_at, scene_with, scene_moved, place_by, way_from, way_of, rows_of, HasTurn, HasTry, HasChoice, HasSignal, IsStep}
use Rattle.lock_plan_laws.specs.Bridge.{AreDistinct}
use Rattle.lock_plan_laws.proofs.MachineTurns.{ByTurn}
use Rattle.lock_plan_laws.proofs.Ties.{IsTied}
use Rattle.lock_plan_laws.proofs.RowMoves.{acts_same}
use Rattle.lock_plan_laws.proofs.Ways.{way_of_try, signal_goes}
use Rattle.lock_plan_laws.proofs.Steps.{IsSameTurn, IsSameTry, act_same, place_same, way_same, known, guard_of, same_turn, same_try, chosen_tied, signalled_tied}

pub same_worlds : (v w : List Stand) → Some v ≡ Some w → v ≡ w
same_worlds v w is = cc

module _ {O T A : Type 0} (meaning : O → Operation T A) (ids : ℕ → PartyId) (distinct : AreDistinct ids) (locks : List PlanLock)
    (bars : (l : ℕ) → IsTrue (get_or locks l no_lock).bar → IsTrue (is_rwlock (get_or locks l no_lock).kind)) (programs : List (List ProgramPlace)) where
  module _ (w : List Stand) (s : Scene T) (used : ℕ) (tied : IsTied ids locks programs w s used) (few : used + 1 < 2 ^ 64) where
    abbrev stand : ℕ → Stand
    stand p = get_or w p no_stand

    abbrev Tied : List Stand → Scene T → Type 0
    Tied v after = IsTied ids locks programs v after (suc used)

    -- the step of a party whose act moves no row
    alone : (taken : Step) (a : Act) → act_of (get_or w taken.party no_stand) ≡ Some a → moves_others (Some a) ≡ false
        → world_step locks w taken ≡ only_if (lets (acts_of w) taken.way (Some a))
        (put_stand w taken.party
        (stand_by (get_or w taken.party no_stand) (taken.way == 1) (Some a) (reply_of locks w taken.party)))
    alone taken a here other =
        ap (λ (o : Option Act). only_if (lets (acts_of w) taken.way o)
        (put_stand (rows_moved o taken.way 0 w) taken.party
        (stand_by (stand taken.party) (taken.way == 1) o (reply_of locks w taken.party)))) here
        ∙ ap (λ (v : List Stand). only_if (lets (acts_of w) taken.way (Some a)) (put_stand v taken.party
        (stand_by (stand taken.party) (taken.way == 1) (Some a) (reply_of locks w taken.party))))
        (rows_still (Some a) taken.way 0 w other)

    -- what the rows of the scene let go, those of the world do
    lets_same : (way : ℕ) (o : Option Act) → lets (acts_of (rows_of programs s)) way o ≡ lets (acts_of w) way o
    lets_same way o =
        ap (λ (acts : List (Option Act)). lets acts way o) (acts_same ids distinct locks programs w s used tied)

    -- what comes of a step of the scene in the world
    pub record WorldStep (c : Caller) (after : Scene T) : Type 0 where
      pub world : List Stand
      pub steps : world_step locks w c.step ≡ Some world
      pub still : IsTied ids locks programs world after (suc used)
      pub known : c.party < length w
      pub has_step : is_step_turn (turn_of locks w c.party) ≡ true

    -- the turn on the machine is the turn in the world
    module _ (c : Caller) (turn : Turn) (after : Scene T) (h : HasTurn meaning ids locks programs s c turn after) where
      at_call : act_of (get_or w c.party no_stand) ≡ Some (act.Call h.call)
      at_call = sym (act_same meaning ids distinct locks bars programs w s used tied c.party) ∙ h.here

      abbrev t : MachineTurn T
      t = machine_turn meaning ids (get_or locks h.call.lock no_lock) (s.machines h.call.lock) c.party c.guard h.call.step

      same : IsSameTurn ids locks programs w s used c.party h.call
          (machine_turn meaning ids (get_or locks h.call.lock no_lock) (s.machines h.call.lock) c.party c.guard h.call.step)
      same = same_turn meaning ids distinct locks bars programs w s used tied c.party h.call at_call few c.guard h.names

      turn_is : same.turn ≡ turn
      turn_is = sym same.on_machine ∙ h.turns

      replied : reply_of locks w c.party ≡ Some turn
      replied = same.in_world ∙ ap Some turn_is

      pub call_known : c.party < length w
      call_known = known meaning ids distinct locks bars programs w s used tied c.party (act.Call h.call) at_call

      pub call_turn : turn_of locks w c.party ≡ Some turn
      call_turn = ap (λ (o : Option Act). turn_by (acts_of w) o (reply_of locks w c.party)) at_call ∙ replied

      call_steps : world_step locks w c.step ≡ put_stand w c.party (after_call (get_or w c.party no_stand) h.call (Some turn))
      call_steps =
          alone c.step (act.Call h.call) at_call refl
          ∙ ap (λ (n : ℕ). only_if (n == 0)
          (put_stand w c.party (after_call (stand c.party) h.call (reply_of locks w c.party)))) h.one_way
          ∙ ap (λ (o : Option Turn). put_stand w c.party (after_call (stand c.party) h.call o)) replied

      goes_tied : turn ≡ Goes → Tied (set w c.party (gone (get_or w c.party no_stand) h.call)) after
      goes_tied goes =
          let v : List Stand = set w c.party (gone (stand c.party) h.call) in
          let next : ℕ = next_in (stand c.party).program (stand c.party).place in
          let way : way_of programs s c.step ≡ next =
          way_same meaning ids distinct locks bars programs w s used tied c.step
          ∙ ap (λ (n : ℕ). way_from (stand c.party).program (stand c.party).place (n == 1)) h.one_way in
          subst (Tied v) (sym (h.leaves ∙ ap (λ (u : Turn). scene_with s h.call.lock t.machine c.party
          (place_by u (way_of programs s c.step) (get_or s.places c.party 0))) goes))
          (subst (λ (n : ℕ). Tied v (scene_with s h.call.lock t.machine c.party n)) (sym way)
          (subst (λ (u : Turn). ByTurn u (Tied v (scene_with s h.call.lock t.machine c.party next))
          (Tied (set w c.party (announced_for (stand c.party) h.call)) (scene_with s h.call.lock t.machine c.party (stand c.party).place)))
          (turn_is ∙ goes) same.tied))

      announced_tied : turn ≡ Announces → Tied (set w c.party (announced_for (get_or w c.party no_stand) h.call)) after
      announced_tied announces =
          let v : List Stand = set w c.party (announced_for (stand c.party) h.call) in
          let next : ℕ = next_in (stand c.party).program (stand c.party).place in
          subst (Tied v) (sym (h.leaves ∙ ap (λ (u : Turn). scene_with s h.call.lock t.machine c.party
          (place_by u (way_of programs s c.step) (get_or s.places c.party 0))) announces))
          (subst (λ (n : ℕ). Tied v (scene_with s h.call.lock t.machine c.party n))
          (sym (place_same meaning ids distinct locks bars programs w s used tied c.party))
          (subst (λ (u : Turn). ByTurn u (Tied (set w c.party (gone (stand c.party) h.call)) (scene_with s h.call.lock t.machine c.party next))
          (Tied v (scene_with s h.call.lock t.machine c.party (stand c.party).place)))
          (turn_is ∙ announces) same.tied))

    goes_on : (c : Caller) (after : Scene T) → HasTurn meaning ids locks programs s c Goes after → WorldStep c after
    goes_on c after h = record {
      world = set w c.party (gone (stand c.party) h.call);
      steps = call_steps c Goes after h;
      still = goes_tied c Goes after h refl;
      known = call_known c Goes after h;
      has_step = ap is_step_turn (call_turn c Goes after h);
    }

    announces_on : (c : Caller) (after : Scene T) → HasTurn meaning ids locks programs s c Announces after → WorldStep c after
    announces_on c after h = record {
      world = set w c.party (announced_for (stand c.party) h.call);
      steps = call_steps c Announces after h;
      still = announced_tied c Announces after h refl;
      known = call_known c Announces after h;
      has_step = ap is_step_turn (call_turn c Announces after h);
    }

    -- the try on the machine is the try in the world
    module _ (c : Caller) (after : Scene T) (h : HasTry meaning ids locks programs s c after) where
      abbrev r : Response A T
      r = machine_try meaning ids (get_or locks h.call.lock no_lock) (s.machines h.call.lock) c.party c.guard h.call.step

      abbrev gone_on : Stand
      gone_on = gone (get_or w c.party no_stand) h.call

      abbrev passed : Stand
      passed = at_place (stand c.party) (other_in (stand c.party).program (stand c.party).place) (stand c.party).holds

      at_try : act_of (get_or w c.party no_stand) ≡ Some (act.Try h.call)
      at_try = sym (act_same meaning ids distinct locks bars programs w s used tied c.party) ∙ h.here

      same_here : IsSameTry ids locks programs w s used c.party h.call
          (machine_try meaning ids (get_or locks h.call.lock no_lock) (s.machines h.call.lock) c.party c.guard h.call.step)
      same_here = same_try meaning ids distinct locks bars programs w s used tied c.party h.call at_try few c.guard h.names

      way_is : (b : Bool) → is_goes (Some same_here.turn) ≡ b → c.way ≡ (if b then 0 else 1)
      way_is b is = h.replies ∙ ap (λ (made : Bool). if made then 0 else 1) (same_here.made ∙ is)

      two : (b : Bool) → only_if (nat_lt (if b then 0 else 1) 2)
          (put_stand w c.party (either_by b ((if b then 0 else 1) == 1) gone_on passed))
          ≡ put_stand w c.party (either_by b (not b) gone_on passed)
      two true = refl
      two false = refl

      try_steps : (b : Bool) → is_goes (Some same_here.turn) ≡ b
          → world_step locks w c.step ≡ put_stand w c.party (either_by b (not b) gone_on passed)
      try_steps b is =
          alone c.step (act.Try h.call) at_try refl
          ∙ ap (λ (o : Option Turn). only_if (nat_lt c.way 2)
          (put_stand w c.party (either_by (is_goes o) (c.way == 1) gone_on passed))) same_here.in_world
          ∙ ap (λ (x : Bool). only_if (nat_lt c.way 2)
          (put_stand w c.party (either_by x (c.way == 1) gone_on passed))) is
          ∙ ap (λ (n : ℕ). only_if (nat_lt n 2)
          (put_stand w c.party (either_by b (n == 1) gone_on passed))) (way_is b is)
          ∙ two b

      other_is : (b : Bool) → ((if b then 0 else 1) == 1) ≡ not b
      other_is true = refl
      other_is false = refl

      try_leaves : (b : Bool) → is_goes (Some same_here.turn) ≡ b
          → scene_with s h.call.lock r.machine c.party
          (way_from (get_or w c.party no_stand).program (get_or w c.party no_stand).place (not b)) ≡ after
      try_leaves b is =
          ap (scene_with s h.call.lock r.machine c.party)
          (sym (way_same meaning ids distinct locks bars programs w s used tied c.step
          ∙ ap (λ (n : ℕ). way_from (stand c.party).program (stand c.party).place (n == 1)) (way_is b is)
          ∙ ap (way_from (stand c.party).program (stand c.party).place) (other_is b)))
          ∙ sym h.leaves

      try_by : (b : Bool) → is_goes (Some same_here.turn) ≡ b → (v : List Stand)
          → put_stand w c.party (either_by b (not b) gone_on passed) ≡ Some v
          → Tied v after → WorldStep c after
      try_by b is v e still = record {
        world = v;
        steps = try_steps b is ∙ e;
        still = still;
        known = known meaning ids distinct locks bars programs w s used tied c.party (act.Try h.call) at_try;
        has_step = ap (λ (o : Option Act). is_step_turn (turn_by (acts_of w) o (reply_of locks w c.party))) at_try;
      }

      tried_on : (b : Bool) → is_goes (Some same_here.turn) ≡ b → WorldStep c after
      tried_on true is =
          try_by true is (set w c.party gone_on) refl
          (subst (Tied (set w c.party gone_on)) (try_leaves true is) (same_here.goes is))
      tried_on false is =
          try_by false is (set w c.party passed) refl
          (subst (Tied (set w c.party passed)) (try_leaves false is) (same_here.passes is))

      tries_on : WorldStep c after
      tries_on = tried_on (is_goes (Some same_here.turn)) refl

    chooses_on : (c : Caller) (after : Scene T) → HasChoice programs s c after → WorldStep c after
    chooses_on c after h =
        let here : act_of (get_or w c.party no_stand) ≡ Some (act.Choose h.block) =
        sym (act_same meaning ids distinct locks bars programs w s used tied c.party) ∙ h.here in
        let choice : Act = act.Choose h.block in
        let x : Stand = stand c.party in
        let next : Stand = at_place x (way_from x.program x.place (c.way == 1)) x.holds in
        let v : List Stand = set (rows_moved (Some choice) c.way 0 w) c.party next in
        let way = way_same meaning ids distinct locks bars programs w s used tied c.step in
        record {
          world = v;
          steps =
              ap (λ (o : Option Act). only_if (lets (acts_of w) c.way o) (put_stand (rows_moved o c.way 0 w) c.party
              (stand_by x (c.way == 1) o (reply_of locks w c.party)))) here
              ∙ ap (λ (b : Bool). only_if b (Some v)) (sym (lets_same c.way (Some choice)) ∙ h.is_let);
          still = subst (Tied v) (ap (scene_at (scene_moved programs s (Some choice) c.way) c.party) (sym way) ∙ sym h.leaves)
              (chosen_tied meaning ids distinct locks bars programs w s used tied c.party c.way (c.way == 1) h.block here);
          known = known meaning ids distinct locks bars programs w s used tied c.party (act.Choose h.block) here;
          has_step = ap (λ (o : Option Act). is_step_turn (turn_by (acts_of w) o (reply_of locks w c.party))) here;
        }

    signals_on : (c : Caller) (after : Scene T) → HasSignal programs s c after → WorldStep c after
    signals_on c after h =
        let here : act_of (get_or w c.party no_stand) ≡ Some (act.Signal h.signal) =
        sym (act_same meaning ids distinct locks bars programs w s used tied c.party) ∙ h.here in
        let signal : Act = act.Signal h.signal in
        let is_let : lets (acts_of w) c.way (Some (act.Signal h.signal)) ≡ true =
        sym (lets_same c.way (Some signal)) ∙ h.is_let in
        let x : Stand = stand c.party in
        let next : Stand = at_place x (next_in x.program x.place) x.holds in
        let v : List Stand = set (rows_moved (Some signal) c.way 0 w) c.party next in
        let first : Step = record { party = c.party; way = 0 } in
        let way = way_same meaning ids distinct locks bars programs w s used tied first in
        record {
          world = v;
          steps =
              ap (λ (o : Option Act). only_if (lets (acts_of w) c.way o) (put_stand (rows_moved o c.way 0 w) c.party
              (stand_by x (c.way == 1) o (reply_of locks w c.party)))) here
              ∙ ap (λ (b : Bool). only_if b (Some v)) is_let;
          still = subst (Tied v)
              (ap (scene_at (scene_moved programs s (Some signal) c.way) c.party) (sym way) ∙ sym h.leaves)
              (signalled_tied meaning ids distinct locks bars programs w s used tied c.party c.way h.signal here);
          known = known meaning ids distinct locks bars programs w s used tied c.party signal here;
          has_step = ap (λ (o : Option Act). is_step_turn (turn_by (acts_of w) o (reply_of locks w c.party))) here
              ∙ signal_goes (acts_of w) c.way h.signal is_let;
        }

    -- a step of the scene is one of the world
    pub step_on : (c : Caller) (after : Scene T) → IsStep meaning ids locks programs s c after → WorldStep c after
    step_on c after (inl h) = goes_on c after h
    step_on c after (inr (inl h)) = announces_on c after h
    step_on c after (inr (inr (inl h))) = tries_on c after h
    step_on c after (inr (inr (inr (inl h)))) = chooses_on c after h
    step_on c after (inr (inr (inr (inr h)))) = signals_on c after h

    -- a party in the world has its act on its machine, by some guard

    abbrev caller : Step → ℕ → Caller
    caller taken guard = record { step = taken; guard = guard }

    pub called : (taken : Step) (call : PlanCall) (turn : Turn) → act_of (get_or w taken.party no_stand) ≡ Some (act.Call call)
        → taken.way ≡ 0 → reply_of locks w taken.party ≡ Some turn
        → (guard : ℕ) × (after : Scene T) × HasTurn meaning ids locks programs s (record { step = taken; guard = guard }) turn after
    called taken call turn here one_way is =
        let g = guard_of meaning ids distinct locks bars programs w s used tied taken.party call (act.Call call) here refl in
        let same = same_turn meaning ids distinct locks bars programs w s used tied taken.party call here few g.0 g.1 in (
          g.0,
          _,
          record {
            call = call;
            here = act_same meaning ids distinct locks bars programs w s used tied taken.party ∙ here;
            one_way = one_way;
            names = g.1;
            turns = same.on_machine ∙ some_same same.turn turn (sym same.in_world ∙ is);
            leaves = refl;
          },
        )

    pub tried : (taken : Step) (call : PlanCall) → act_of (get_or w taken.party no_stand) ≡ Some (act.Try call)
        → taken.way ≡ (if is_goes (reply_of locks w taken.party) then 0 else 1)
        → (guard : ℕ) × (after : Scene T) × HasTry meaning ids locks programs s (record { step = taken; guard = guard }) after
    tried taken call here is =
        let g = guard_of meaning ids distinct locks bars programs w s used tied taken.party call (act.Try call) here refl in
        let same = same_try meaning ids distinct locks bars programs w s used tied taken.party call here few g.0 g.1 in (
          g.0,
          _,
          record {
            call = call;
            here = act_same meaning ids distinct locks bars programs w s used tied taken.party ∙ here;
            names = g.1;
            replies = is ∙ ap (λ (b : Bool). if b then 0 else 1) (ap is_goes same.in_world ∙ sym same.made);
            leaves = refl;
          },
        )

    pub chosen : (taken : Step) (block : Block) → act_of (get_or w taken.party no_stand) ≡ Some (act.Choose block)
        → lets (acts_of w) taken.way (Some (act.Choose block)) ≡ true
        → (after : Scene T) × HasChoice programs s (record { step = taken; guard = 0 }) after
    chosen taken block here is = (
      _,
      record {
        block = block;
        here = act_same meaning ids distinct locks bars programs w s used tied taken.party ∙ here;
        is_let = lets_same taken.way (Some (act.Choose block)) ∙ is;
        leaves = refl;
      },
    )

    pub signalled : (taken : Step) (signal : Signal) → act_of (get_or w taken.party no_stand) ≡ Some (act.Signal signal)
        → lets (acts_of w) taken.way (Some (act.Signal signal)) ≡ true
        → (after : Scene T) × HasSignal programs s (record { step = taken; guard = 0 }) after
    signalled taken signal here is = (
      _,
      record {
        signal = signal;
        here = act_same meaning ids distinct locks bars programs w s used tied taken.party ∙ here;
        is_let = lets_same taken.way (Some (act.Signal signal)) ∙ is;
        leaves = refl;
      },
    )

    -- a step of the world is one of the scene
    pub record SceneStep (taken : Step) (v : List Stand) : Type 0 where
      pub guard : ℕ
      pub after : Scene T
      pub is_step : IsStep meaning ids locks programs s (record { step = taken; guard = guard }) after
      pub still : IsTied ids locks programs v after (suc used)

    module _ (taken : Step) (v : List Stand) (steps : world_step locks w taken ≡ Some v) where
      scene_step : (guard : ℕ) (after : Scene T) → IsStep meaning ids locks programs s (record { step = taken; guard = guard }) after
          → SceneStep taken v
      scene_step guard after h =
          let one = step_on (caller taken guard) after h in
          record {
            guard = guard;
            after = after;
            is_step = h;
            still = subst (λ (x : List Stand). Tied x after) (same_worlds one.world v (sym one.steps ∙ steps)) one.still;
          }

      call_by : (call : PlanCall) → act_of (get_or w taken.party no_stand) ≡ Some (act.Call call) → taken.way ≡ 0
          → (u : List Stand) (o : Option Turn) → reply_of locks w taken.party ≡ o
          → put_stand u taken.party (after_call (get_or w taken.party no_stand) call o) ≡ Some v → SceneStep taken v
      call_by call here one_way u None is e = cc
      call_by call here one_way u (Some Goes) is e =
          let h = called taken call Goes here one_way is in scene_step h.0 h.1 (inl h.2)
      call_by call here one_way u (Some Announces) is e =
          let h = called taken call Announces here one_way is in scene_step h.0 h.1 (inr (inl h.2))
      call_by call here one_way u (Some Waits) is e = cc
      call_by call here one_way u (Some Refused) is e = cc

      either_is : (b other : Bool) (u : List Stand) (x y : Stand)
          → put_stand u taken.party (either_by b other x y) ≡ Some v → b ≡ not other
      either_is true true u x y e = cc
      either_is true false u x y e = refl
      either_is false true u x y e = refl
      either_is false false u x y e = cc

      abbrev moved_by : Option Act → Option (List Stand)
      moved_by o =
          put_stand (rows_moved o taken.way 0 w) taken.party
          (stand_by (get_or w taken.party no_stand) (taken.way == 1) o (reply_of locks w taken.party))

      step_by : (o : Option Act) → act_of (get_or w taken.party no_stand) ≡ o → lets (acts_of w) taken.way o ≡ true
          → moved_by o ≡ Some v → SceneStep taken v
      step_by None here lets e = cc
      step_by (Some (act.Call call)) here lets e =
          call_by call here (eqb-true taken.way 0 lets) _ (reply_of locks w taken.party) refl e
      step_by (Some (act.Try call)) here lets e =
          let goes : Bool = is_goes (reply_of locks w taken.party) in
          let h = tried taken call here (way_of_try taken.way goes lets (either_is goes (taken.way == 1) _ _ _ e)) in
          scene_step h.0 h.1 (inr (inr (inl h.2)))
      step_by (Some (act.Choose block)) here lets e =
          let h = chosen taken block here lets in scene_step 0 h.0 (inr (inr (inr (inl h.1))))
      step_by (Some (act.Signal signal)) here lets e =
          let h = signalled taken signal here lets in scene_step 0 h.0 (inr (inr (inr (inr h.1))))

      pub step_back : SceneStep taken v
      step_back =
          let here : Option Act = act_of (get_or w taken.party no_stand) in
          let both = only_some (lets (acts_of w) taken.way here) (moved_by here) v steps in
          step_by here refl both.0 both.1
