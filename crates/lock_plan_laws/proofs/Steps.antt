-- One step: what a party does on its machine and what it does in the world are the same.
use Rattle.std.proofs.Common.{◌≡◌, ℕ, zero, suc, ◌+◌, ◌<◌, ◌^◌, Bool, true, false, ◌==◌, nat_lt, if◌then◌else◌, List, [], ◌∷◌, length, map, get_or, set, sum_by, Option, Some, None, option_map, IsTrue, refl, ap, sym, ◌∙◌, subst, arith, eqb-true, ltb-true}
use Rattle.std.proofs.lemmas.List.{length-map, get_or-set_same}
use Rattle.std.proofs.Math.ListN.{get_or-map}
use Rattle.lock_modes.specs.declared.mode_step.ModeStep.TheVariants.{Acquire, Release, Change}
use Rattle.lock_modes.specs.declared.mode.Mode.{Mode}
use Rattle.lock_modes.specs.declared.bag.Bag.{Bag}
use Rattle.lock_machine.specs.declared.call.Call.{Call}
use Rattle.lock_machine.specs.declared.call.Form.TheVariants.{Block, Try}
use Rattle.lock_modes.specs.declared.party.PartyId.{PartyId}
use Rattle.lock_modes.specs.declared.lock_step.LockStep.{LockStep}
use Rattle.lock_modes.specs.declared.lock_step.LockStep.TheVariants as lock_step
use Rattle.lock_modes.specs.declared.hold.Hold.{Hold}
use Rattle.lock_machine.specs.Operation.{Operation}
use Rattle.lock_modes.specs.Party.{id_of}
use Rattle.lock_modes.specs.Modes.{count_of}
use Rattle.lock_modes.specs.Kind.{is_rwlock}
use Rattle.lock_machine.specs.Entries.{find}
use Rattle.lock_machine.specs.Machine.{Machine}
use Rattle.lock_machine.specs.Sound.{IsSound}
use Rattle.lock_machine.specs.Steps.{Response, step}
use Rattle.lock_modes.specs.Holds.{no_hold, hold_has, hold_after}
use Rattle.lock_machine.specs.SoundRuns.{KeepsLimits}
use Rattle.lock_machine.proofs.RunsReached.{step_sound, step_limits}
use Rattle.lock_plan.specs.declared.call.PlanCall.{PlanCall}
use Rattle.lock_plan.specs.declared.fault.CallFault.{CallFault}
use Rattle.lock_plan.specs.declared.lock.PlanLock.{PlanLock}
use Rattle.lock_plan.specs.declared.program.Act.{Act}
use Rattle.lock_plan.specs.declared.program.Act.TheVariants as act
use Rattle.lock_plan.specs.declared.program.Block.{Block as PlanBlock}
use Rattle.lock_plan.specs.declared.program.ProgramPlace.{ProgramPlace}
use Rattle.lock_plan.specs.declared.program.Signal.{Signal}
use Rattle.lock_plan.specs.declared.program.Step.{Step}
use Rattle.lock_plan.specs.declared.turn.Turn.{Turn}
use Rattle.lock_plan.specs.declared.turn.Turn.TheVariants.{Goes, Announces, Waits, Refused}
use Rattle.lock_plan.specs.Holds.{announces_itself, turn_on}
use Rattle.lock_plan.specs.CallFaults.{fault_on}
use Rattle.lock_plan.specs.Worlds.{Stand, no_stand, no_lock, joined, bag_on, lock_holds, act_in, act_of, call_in, next_in, other_in, reply_to, reply_of, is_goes, at_place, gone, announced_for, rows_moved}
use Rattle.lock_plan.proofs.Landing.{announces_call}
use Rattle.lock_plan_laws.specs.MachineTurns.{Names, MachineTurn, call_for, turn_of_reply, is_made, announced_turn, announces_after, machine_turn, machine_try}
use Rattle.lock_plan_laws.specs.Scenes.{Scene, scene_at, scene_with, scene_moved, act_at, way_from, way_of}
use Rattle.lock_plan_laws.specs.Bridge.{bag_held_by, AreDistinct}
use Rattle.lock_plan_laws.proofs.PartyBags.{HasGuard, has_guard}
use Rattle.lock_plan_laws.proofs.Columns.{hold_of, Beside, beside, joined_after}
use Rattle.lock_plan_laws.proofs.Moves.{Moved, bag_after_step}
use Rattle.lock_plan_laws.proofs.Acquisitions.{HasRoom}
use Rattle.lock_plan_laws.proofs.MachineTurns.{IsRight, is_right, ByTurn, Acts, acts}
use Rattle.lock_plan_laws.proofs.Tries.{TriesAs, tries}
use Rattle.lock_plan_laws.proofs.KnownStands.{IsKnownStand, no_fault, known_gone, known_announced, known_passed, known_chosen, known_signalled, is_held, fewer}
use Rattle.lock_plan_laws.proofs.Ties.{IsLockTied, IsTied, holds_in, seen_of, has_room, tied_after, tied_still}
use Rattle.lock_plan_laws.proofs.RowMoves.{signal_tied}

-- a party that has not ended is there
acts_known : (w : List Stand) (p : ℕ) (a : Act) → act_of (get_or w p no_stand) ≡ Some a → p < length w
acts_known [] p a is = cc
acts_known (x ∷ w) zero a is = omega arith
acts_known (x ∷ w) (suc p) a is = let rest = acts_known w p a is in omega arith

lock_known : (b : Bool) (o : Option CallFault) (f : CallFault) → (if b then o else Some f) ≡ None → (b ≡ true) × (o ≡ None)
lock_known true o f none = (refl, none)
lock_known false o f none = cc

-- what all parties hold after a call of one
after_joined : (own : Hold) (rest : Bag) (a : LockStep) → hold_has own a ≡ true
    → joined (hold_after own a).bag rest ≡ bag_after_step (joined own.bag rest) a
after_joined own rest (lock_step.Modes step) has = sym (joined_after own.bag rest step has)
after_joined own rest lock_step.Announce has = refl
after_joined own rest lock_step.Withdraw has = refl

module _ {O T A : Type 0} (meaning : O → Operation T A) (ids : ℕ → PartyId) where
  -- the turn after a reply, by whether the party announces itself
  abbrev turn_by : Response A T → PartyId → Bool → MachineTurn T
  turn_by r id b =
      if b
      then record {
        turn = announced_turn (turn_of_reply (step meaning r.machine (Call.Announce id)).reply);
        machine = (step meaning r.machine (Call.Announce id)).machine;
      }
      else record { turn = turn_of_reply r.reply; machine = r.machine }

  keeps_by : (P : Machine T → Type 0) → ((m : Machine T) (call : Call O) → P m → P (step meaning m call).machine)
      → (r : Response A T) (id : PartyId) (b : Bool) → P r.machine → P (turn_by r id b).machine
  keeps_by P keeps r id true h = keeps r.machine (Call.Announce id) h
  keeps_by P keeps r id false h = h

  -- what each call of a machine keeps, a turn keeps
  turn_keeps : (P : Machine T → Type 0) → ((m : Machine T) (call : Call O) → P m → P (step meaning m call).machine)
      → (lock : PlanLock) (m : Machine T) (p guard : ℕ) (a : LockStep) → P m → P (machine_turn meaning ids lock m p guard a).machine
  turn_keeps P keeps lock m p guard a start =
      let call : Call O = call_for Block lock.kind (ids p) guard a in
      keeps_by P keeps (step meaning m call) (ids p) (announces_after lock a (turn_of_reply (step meaning m call).reply))
      (keeps m call start)

  turn_sound : (lock : PlanLock) (m : Machine T) (p guard : ℕ) (a : LockStep) → IsSound m.register
      → IsSound (machine_turn meaning ids lock m p guard a).machine.register
  turn_sound lock m p guard a sound = turn_keeps (λ n. IsSound n.register) (λ n call h. step_sound meaning n call h) lock m p guard a sound

  turn_limits : (lock : PlanLock) (m : Machine T) (p guard : ℕ) (a : LockStep)
      → KeepsLimits m.register (machine_turn meaning ids lock m p guard a).machine.register
  turn_limits lock m p guard a =
      turn_keeps (λ n. KeepsLimits m.register n.register)
      (λ n call h. (let one = step_limits meaning n call in
      record {
        same_kind = one.same_kind ∙ h.same_kind;
        same_places = one.same_places ∙ h.same_places;
        same_limit = one.same_limit ∙ h.same_limit;
      })) lock m p guard a (record { same_kind = refl; same_places = refl; same_limit = refl })

  -- a try keeps them, too

  try_sound : (lock : PlanLock) (m : Machine T) (p guard : ℕ) (a : LockStep) → IsSound m.register
      → IsSound (machine_try meaning ids lock m p guard a).machine.register
  try_sound lock m p guard a sound = step_sound meaning m (call_for Try lock.kind (ids p) guard a) sound

  try_limits : (lock : PlanLock) (m : Machine T) (p guard : ℕ) (a : LockStep)
      → KeepsLimits m.register (machine_try meaning ids lock m p guard a).machine.register
  try_limits lock m p guard a = step_limits meaning m (call_for Try lock.kind (ids p) guard a)

-- the call of a party on its machine is its call in the world, and a step keeps scene and world tied
pub record IsSameTurn {T : Type 0} (ids : ℕ → PartyId) (locks : List PlanLock) (programs : List (List ProgramPlace)) (w : List Stand) (s : Scene T)
    (used p : ℕ) (call : PlanCall) (t : MachineTurn T) : Type 0 where
  pub turn : Turn
  pub in_world : reply_of locks w p ≡ Some turn
  pub on_machine : t.turn ≡ turn
  pub tied : ByTurn turn
      (IsTied ids locks programs (set w p (gone (get_or w p no_stand) call))
      (scene_with s call.lock t.machine p (next_in (get_or w p no_stand).program (get_or w p no_stand).place)) (suc used))
      (IsTied ids locks programs (set w p (announced_for (get_or w p no_stand) call))
      (scene_with s call.lock t.machine p (get_or w p no_stand).place) (suc used))

-- the try of a party on its machine is its try in the world, and keeps scene and world tied
pub record IsSameTry {T A : Type 0} (ids : ℕ → PartyId) (locks : List PlanLock) (programs : List (List ProgramPlace)) (w : List Stand) (s : Scene T)
    (used p : ℕ) (call : PlanCall) (r : Response A T) : Type 0 where
  pub turn : Turn
  pub in_world : reply_of locks w p ≡ Some turn
  pub made : is_made r.reply ≡ is_goes (Some turn)
  pub goes : is_goes (Some turn) ≡ true → IsTied ids locks programs (set w p (gone (get_or w p no_stand) call))
      (scene_with s call.lock r.machine p (next_in (get_or w p no_stand).program (get_or w p no_stand).place)) (suc used)
  pub passes : is_goes (Some turn) ≡ false
      → IsTied ids locks programs
      (set w p (at_place (get_or w p no_stand) (other_in (get_or w p no_stand).program (get_or w p no_stand).place) (get_or w p no_stand).holds))
      (scene_with s call.lock r.machine p (other_in (get_or w p no_stand).program (get_or w p no_stand).place)) (suc used)

goes_is : (u : Turn) → is_goes (Some u) ≡ true → u ≡ Goes
goes_is Goes is = refl
goes_is u is = cc

module _ {O T A : Type 0} (meaning : O → Operation T A) (ids : ℕ → PartyId) (distinct : AreDistinct ids) (locks : List PlanLock)
    (bars : (l : ℕ) → IsTrue (get_or locks l no_lock).bar → IsTrue (is_rwlock (get_or locks l no_lock).kind))
    (programs : List (List ProgramPlace)) (w : List Stand) (s : Scene T) (used : ℕ) (tied : IsTied ids locks programs w s used) where
  -- the program and the place of a party in the scene

  program_same : (p : ℕ) → get_or programs p [] ≡ (get_or w p no_stand).program
  program_same p = ap (λ (ps : List (List ProgramPlace)). get_or ps p []) tied.programs_same ∙ get_or-map (λ (x : Stand). x.program) w p no_stand

  pub place_same : (p : ℕ) → get_or s.places p 0 ≡ (get_or w p no_stand).place
  place_same p = ap (λ (ns : List ℕ). get_or ns p 0) tied.places ∙ get_or-map (λ (x : Stand). x.place) w p no_stand

  pub act_same : (p : ℕ) → act_at programs s p ≡ act_of (get_or w p no_stand)
  act_same p =
      ap (λ (program : List ProgramPlace). act_in program (get_or s.places p 0)) (program_same p)
      ∙ ap (λ (place : ℕ). act_in (get_or w p no_stand).program place) (place_same p)

  pub way_same : (taken : Step) → way_of programs s taken
      ≡ way_from (get_or w taken.party no_stand).program (get_or w taken.party no_stand).place (taken.way == 1)
  way_same taken =
      ap (λ (program : List ProgramPlace). way_from program (get_or s.places taken.party 0) (taken.way == 1))
      (program_same taken.party)
      ∙ ap (λ (place : ℕ). way_from (get_or w taken.party no_stand).program place (taken.way == 1))
      (place_same taken.party)

  pub known : (p : ℕ) (a : Act) → act_of (get_or w p no_stand) ≡ Some a → p < length w
  known p a here = acts_known w p a here

  -- an act of a party that calls or tries
  module _ (p : ℕ) (call : PlanCall) (a : Act) (here : act_of (get_or w p no_stand) ≡ Some a) (calls : call_in (Some a) ≡ Some call) where
    abbrev l : ℕ
    l = call.lock

    abbrev lock : PlanLock
    lock = get_or locks call.lock no_lock

    abbrev stand : Stand
    stand = get_or w p no_stand

    abbrev own : Hold
    own = get_or stand.holds l no_hold

    abbrev m : Machine T
    m = s.machines l

    abbrev hss : List (List Hold)
    hss = holds_in w

    there : p < length w
    there = acts_known w p a here

    stands : IsKnownStand locks (get_or w p no_stand)
    stands = tied.known p there

    lock_right : (nat_lt call.lock (length locks) ≡ true) × (fault_on (get_or locks call.lock no_lock)
        (get_or (get_or w p no_stand).holds call.lock no_hold) call.step ≡ None)
    lock_right = lock_known (nat_lt l (length locks)) (fault_on lock own call.step) CallFault.UnknownLock (no_fault locks stand stands a call here calls)

    within : call.lock < length locks
    within = ltb-true l (length locks) lock_right.0

    right : IsRight (get_or locks call.lock no_lock) (get_or (get_or w p no_stand).holds call.lock no_hold) call.step
    right = is_right lock own call.step lock_right.1

    lock_tied : IsLockTied ids (get_or locks call.lock no_lock) (s.machines call.lock) (map (λ x. x.holds) w) call.lock
        (sum_by length programs) used
    lock_tied = tied.at l within

    own_same : hold_of (map (λ x. x.holds) w) p call.lock ≡ get_or (get_or w p no_stand).holds call.lock no_hold
    own_same = ap (λ (hs : List Hold). get_or hs l no_hold) (get_or-map (λ (x : Stand). x.holds) w p no_stand)

    held : (mode : Mode) → nat_lt 0 (count_of (get_or (get_or w p no_stand).holds call.lock no_hold).bag mode) ≡ true
        → (guard : ℕ) × (find guard (s.machines call.lock).entries ≡ Some (record { party = id_of (ids p); mode = mode; held = true }))
    held mode some =
        let count : count_of (bag_held_by (id_of (ids p)) m.entries) mode ≡ count_of own.bag mode =
        ap (λ (b : Bag). count_of b mode) (lock_tied.own p ∙ ap (λ (h : Hold). h.bag) own_same) in
        let out = ltb-true 0 (count_of own.bag mode) some in
        let g : HasGuard m.entries (id_of (ids p)) mode =
        has_guard 0 m.last (id_of (ids p)) mode m.entries lock_tied.sound.legal.numbered (omega (arith, count, out)) in
        (g.guard, g.found)

    -- the party has a guard for the call
    guard_by : (asked : LockStep) → hold_has (get_or (get_or w p no_stand).holds call.lock no_hold) asked ≡ true
        → (guard : ℕ) × Names (s.machines call.lock).entries (id_of (ids p)) guard asked
    guard_by (lock_step.Modes (Acquire mode)) has = (0, tt)
    guard_by (lock_step.Modes (Release mode)) has = held mode has
    guard_by (lock_step.Modes (Change from to)) has = held from has
    guard_by lock_step.Announce has = (0, tt)
    guard_by lock_step.Withdraw has = (0, tt)

    pub guard_of : (guard : ℕ) × Names (s.machines call.lock).entries (id_of (ids p)) guard call.step
    guard_of = guard_by call.step right.has

    abbrev turn : Turn
    turn = turn_on (get_or locks call.lock no_lock) (lock_holds (map (λ x. x.holds) w) p call.lock) call.step

    reply_is : reply_of locks w p ≡ Some (turn_on (get_or locks call.lock no_lock) (lock_holds (map (λ x. x.holds) w) p call.lock) call.step)
    reply_is = ap (λ (o : Option PlanCall). option_map (reply_to locks hss p) o) (ap call_in here ∙ calls)

    beside_here : Beside (map (λ x. x.holds) w) p call.lock
    beside_here = beside hss p l (omega (arith, there, length-map w (λ (x : Stand). x.holds)))

    long_here : call.lock < length (get_or (map (λ x. x.holds) w) p [])
    long_here = omega (arith, within, ap length (get_or-map (λ (x : Stand). x.holds) w p no_stand), (is_held locks stand stands).long)

    -- the bag where the party has another hold
    bag_with : (h : Hold) → bag_on call.lock (set (map (λ x. x.holds) w) p (set (get_or (map (λ x. x.holds) w) p []) call.lock h))
        ≡ joined h.bag beside_here.rest
    bag_with h =
        beside_here.changed (set (get_or hss p []) l h)
        ∙ ap (λ (x : Hold). joined x.bag beside_here.rest) (get_or-set_same (get_or hss p []) l h no_hold long_here)

    bag_whole : bag_on call.lock (map (λ x. x.holds) w)
        ≡ joined (get_or (get_or w p no_stand).holds call.lock no_hold).bag beside_here.rest
    bag_whole = beside_here.whole ∙ ap (λ (x : Hold). joined x.bag beside_here.rest) own_same

    -- the call is made
    goes_tied : (next : Machine T) → Moved (s.machines call.lock) next (id_of (ids p))
        (hold_after (get_or (get_or w p no_stand).holds call.lock no_hold) call.step)
        (bag_after_step (bag_on call.lock (map (λ x. x.holds) w)) call.step)
        → IsSound next.register → KeepsLimits (s.machines call.lock).register next.register
        → IsTied ids locks programs (set w p (gone (get_or w p no_stand) call))
        (scene_with s call.lock next p (next_in (get_or w p no_stand).program (get_or w p no_stand).place)) (suc used)
    goes_tied next moved sound limits =
        tied_after ids distinct locks programs w s used tied p (next_in stand.program stand.place) there l within (hold_after own call.step) next
        (bag_after_step (bag_on l hss) call.step) moved
        (bag_with (hold_after own call.step) ∙ after_joined own beside_here.rest call.step right.has
        ∙ ap (λ (b : Bag). bag_after_step b call.step) (sym bag_whole))
        sound limits (known_gone locks stand stands a call here calls)

    module _ (few : used + 1 < 2 ^ 64) (guard : ℕ) (names : Names (s.machines call.lock).entries (id_of (ids p)) guard call.step) where
      right_seen : IsRight (get_or locks call.lock no_lock) (hold_of (map (λ x. x.holds) w) p call.lock) call.step
      right_seen = subst (λ (h : Hold). IsRight lock h call.step) (sym own_same) right

      room : (mode : Mode) → call.step ≡ lock_step.Modes (Acquire mode) → HasRoom (s.machines call.lock)
      room mode acquires =
          has_room ids distinct locks programs w s used tied l p within there few (fewer locks stand stands a call mode here calls within acquires)

      acts_here : Acts (machine_turn meaning ids (get_or locks call.lock no_lock) (s.machines call.lock) p guard call.step) (s.machines call.lock)
          (id_of (ids p)) (get_or (get_or w p no_stand).holds call.lock no_hold) (bag_on call.lock (map (λ x. x.holds) w)) call.step
          (turn_on (get_or locks call.lock no_lock) (lock_holds (map (λ x. x.holds) w) p call.lock) call.step)
      acts_here =
          subst (λ (h : Hold). Acts (machine_turn meaning ids lock m p guard call.step) m (id_of (ids p)) h (bag_on l hss) call.step turn) own_same
          (acts meaning ids distinct lock m hss p l guard (seen_of ids distinct lock m hss p l _ used lock_tied) call.step room right_seen (bars l) names)

      tries_here : TriesAs (machine_try meaning ids (get_or locks call.lock no_lock) (s.machines call.lock) p guard call.step) (s.machines call.lock)
          (id_of (ids p)) (get_or (get_or w p no_stand).holds call.lock no_hold) (bag_on call.lock (map (λ x. x.holds) w)) call.step
          (turn_on (get_or locks call.lock no_lock) (lock_holds (map (λ x. x.holds) w) p call.lock) call.step)
      tries_here =
          subst (λ (h : Hold). TriesAs (machine_try meaning ids lock m p guard call.step) m (id_of (ids p)) h (bag_on l hss) call.step turn) own_same
          (tries meaning ids distinct lock m hss p l guard (seen_of ids distinct lock m hss p l _ used lock_tied) call.step room right_seen (bars l) names)

  -- a call
  module _ (p : ℕ) (call : PlanCall) (here : act_of (get_or w p no_stand) ≡ Some (act.Call call)) (few : used + 1 < 2 ^ 64) (guard : ℕ)
      (names : Names (s.machines call.lock).entries (id_of (ids p)) guard call.step) where
    abbrev t : MachineTurn T
    t = machine_turn meaning ids (get_or locks call.lock no_lock) (s.machines call.lock) p guard call.step

    turn_sound_here : IsSound t.machine.register
    turn_sound_here =
        turn_sound meaning ids (get_or locks call.lock no_lock) (s.machines call.lock) p guard call.step
        (lock_tied p call (act.Call call) here refl).sound

    turn_limits_here : KeepsLimits (s.machines call.lock).register t.machine.register
    turn_limits_here = turn_limits meaning ids (get_or locks call.lock no_lock) (s.machines call.lock) p guard call.step

    announces_tied : turn_on (get_or locks call.lock no_lock) (lock_holds (map (λ x. x.holds) w) p call.lock) call.step ≡ Announces
        → Moved (s.machines call.lock) t.machine (id_of (ids p))
        (hold_after (get_or (get_or w p no_stand).holds call.lock no_hold) lock_step.Announce) (bag_on call.lock (map (λ x. x.holds) w))
        → IsTied ids locks programs (set w p (announced_for (get_or w p no_stand) call))
        (scene_with s call.lock t.machine p (get_or w p no_stand).place) (suc used)
    announces_tied is moved =
        let stand : Stand = get_or w p no_stand in
        let lock : PlanLock = get_or locks call.lock no_lock in
        let own : Hold = get_or stand.holds call.lock no_hold in
        let there = acts_known w p (act.Call call) here in
        let itself : announces_itself lock own call.step ≡ true =
        announces_call locks (holds_in w) p call stand.holds (get_or-map (λ (x : Stand). x.holds) w p no_stand) (ap (λ (u : Turn). Some u) is) in
        tied_after ids distinct locks programs w s used tied p stand.place there call.lock (within p call (act.Call call) here refl)
        (hold_after own lock_step.Announce) t.machine (bag_on call.lock (holds_in w)) moved
        (bag_with p call (act.Call call) here refl (hold_after own lock_step.Announce) ∙ sym (bag_whole p call (act.Call call) here refl))
        turn_sound_here turn_limits_here
        (known_announced locks stand (tied.known p there) call here itself)

    leads_by : (u : Turn)
        → turn_on (get_or locks call.lock no_lock) (lock_holds (map (λ x. x.holds) w) p call.lock) call.step ≡ u
        → ByTurn u
        (Moved (s.machines call.lock) t.machine (id_of (ids p))
        (hold_after (get_or (get_or w p no_stand).holds call.lock no_hold) call.step)
        (bag_after_step (bag_on call.lock (map (λ x. x.holds) w)) call.step))
        (Moved (s.machines call.lock) t.machine (id_of (ids p))
        (hold_after (get_or (get_or w p no_stand).holds call.lock no_hold) lock_step.Announce) (bag_on call.lock (map (λ x. x.holds) w)))
        → ByTurn u
        (IsTied ids locks programs (set w p (gone (get_or w p no_stand) call))
        (scene_with s call.lock t.machine p (next_in (get_or w p no_stand).program (get_or w p no_stand).place)) (suc used))
        (IsTied ids locks programs (set w p (announced_for (get_or w p no_stand) call))
        (scene_with s call.lock t.machine p (get_or w p no_stand).place) (suc used))
    leads_by Goes is moved = goes_tied p call (act.Call call) here refl t.machine moved turn_sound_here turn_limits_here
    leads_by Announces is moved = announces_tied is moved
    leads_by Waits is moved = tt
    leads_by Refused is moved = tt

    pub same_turn : IsSameTurn ids locks programs w s used p call
        (machine_turn meaning ids (get_or locks call.lock no_lock) (s.machines call.lock) p guard call.step)
    same_turn =
        let acted = acts_here p call (act.Call call) here refl few guard names in
        record {
          turn = turn_on (get_or locks call.lock no_lock) (lock_holds (holds_in w) p call.lock) call.step;
          in_world = reply_is p call (act.Call call) here refl;
          on_machine = acted.same;
          tied = leads_by _ refl acted.moved;
        }

  -- the machines are the same where one of them is put in its own place
  machines_still : (l : ℕ) (next : Machine T) → next ≡ s.machines l → (k : ℕ) → s.machines k ≡ (if k == l then next else s.machines k)
  machines_still l next same k = by_lock (k == l) refl
    where
      by_lock : (b : Bool) → (k == l) ≡ b → s.machines k ≡ (if b then next else s.machines k)
      by_lock true is = ap s.machines (eqb-true k l is) ∙ sym same
      by_lock false is = refl

  -- a try
  pub same_try : (p : ℕ) (call : PlanCall) → act_of (get_or w p no_stand) ≡ Some (act.Try call) → used + 1 < 2 ^ 64 → (guard : ℕ)
      → Names (s.machines call.lock).entries (id_of (ids p)) guard call.step
      → IsSameTry ids locks programs w s used p call
      (machine_try meaning ids (get_or locks call.lock no_lock) (s.machines call.lock) p guard call.step)
  same_try p call here few guard names =
      let stand : Stand = get_or w p no_stand in
      let lock : PlanLock = get_or locks call.lock no_lock in
      let m : Machine T = s.machines call.lock in
      let r : Response A T = machine_try meaning ids lock m p guard call.step in
      let turn : Turn = turn_on lock (lock_holds (holds_in w) p call.lock) call.step in
      let there = acts_known w p (act.Try call) here in
      let tried = tries_here p call (act.Try call) here refl few guard names in
      record {
        turn = turn;
        in_world = reply_is p call (act.Try call) here refl;
        made = tried.made;
        goes = λ is.
            goes_tied p call (act.Try call) here refl r.machine (tried.moved (goes_is turn is))
            (try_sound meaning ids lock m p guard call.step (lock_tied p call (act.Try call) here refl).sound)
            (try_limits meaning ids lock m p guard call.step);
        passes = λ is.
            tied_still ids distinct locks programs w s used tied p (other_in stand.program stand.place) there
            (λ k. if k == call.lock then r.machine else s.machines k) (machines_still call.lock r.machine (tried.kept is))
            (known_passed locks stand (tied.known p there) call here);
      }

  -- a choice
  pub chosen_tied : (p way : ℕ) (other : Bool) (block : PlanBlock) → act_of (get_or w p no_stand) ≡ Some (act.Choose block)
      → IsTied ids locks programs
      (set (rows_moved (Some (act.Choose block)) way 0 w) p
      (at_place (get_or w p no_stand) (way_from (get_or w p no_stand).program (get_or w p no_stand).place other) (get_or w p no_stand).holds))
      (scene_at (scene_moved programs s (Some (act.Choose block)) way) p
      (way_from (get_or w p no_stand).program (get_or w p no_stand).place other)) (suc used)
  chosen_tied p way other block here =
      let stand : Stand = get_or w p no_stand in
      let there = acts_known w p (act.Choose block) here in
      signal_tied ids distinct locks programs w s used tied (Some (act.Choose block)) way p
      (way_from stand.program stand.place other) there
      (known_chosen locks stand (tied.known p there) other block here)

  -- a signal
  pub signalled_tied : (p way : ℕ) (signal : Signal) → act_of (get_or w p no_stand) ≡ Some (act.Signal signal)
      → IsTied ids locks programs
      (set (rows_moved (Some (act.Signal signal)) way 0 w) p
      (at_place (get_or w p no_stand) (next_in (get_or w p no_stand).program (get_or w p no_stand).place)
      (get_or w p no_stand).holds))
      (scene_at (scene_moved programs s (Some (act.Signal signal)) way) p
      (next_in (get_or w p no_stand).program (get_or w p no_stand).place)) (suc used)
  signalled_tied p way signal here =
      let stand : Stand = get_or w p no_stand in
      let there = acts_known w p (act.Signal signal) here in
      signal_tied ids distinct locks programs w s used tied (Some (act.Signal signal)) way p
      (next_in stand.program stand.place) there
      (known_signalled locks stand (tied.known p there) signal here)
