-- Scenes: the machine of guards of each lock of a plan, and the place of each row. Rows are the parties and the counters.
use Rattle.std.specs.Prelude.{◌≡◌, ℕ, Bool, true, false, ◌==◌, ◌⊎◌, if◌then◌else◌, List, [], ◌∷◌, map, zip, set, Option, Some}
use Rattle.std.proofs.Common.{get_or}
use Rattle.lock_modes.specs.declared.kind.Kind.{Kind}
use Rattle.lock_modes.specs.declared.kind.Kind.TheVariants.{Mutex, RwLock, Reentrant}
use Rattle.lock_modes.specs.declared.party.PartyId.{PartyId}
use Rattle.lock_machine.specs.Operation.{Operation}
use Rattle.lock_modes.specs.Party.{id_of}
use Rattle.lock_machine.specs.Machine.{Machine, start}
use Rattle.lock_plan.specs.declared.call.PlanCall.{PlanCall}
use Rattle.lock_plan.specs.declared.lock.PlanLock.{PlanLock}
use Rattle.lock_plan.specs.declared.program.Act.{Act}
use Rattle.lock_plan.specs.declared.program.Act.TheVariants as act
use Rattle.lock_plan.specs.declared.program.Block.{Block}
use Rattle.lock_plan.specs.declared.program.ProgramPlace.{ProgramPlace}
use Rattle.lock_plan.specs.declared.program.Signal.{Signal}
use Rattle.lock_plan.specs.declared.program.Signal.TheVariants.{AssertAtLeast}
use Rattle.lock_plan.specs.declared.program.Step.{Step}
use Rattle.lock_plan.specs.declared.turn.Turn.{Turn}
use Rattle.lock_plan.specs.declared.turn.Turn.TheVariants.{Goes, Announces, Waits, Refused}
use Rattle.lock_plan.specs.Signals.{idles, is_so, lets}
use Rattle.lock_plan.specs.Worlds.{Stand, no_lock, act_in, next_in, other_in, acts_of, rows_moved, is_server}
use Rattle.lock_plan_laws.specs.MachineTurns.{Names, is_made, machine_turn, machine_try}

-- a step of a party, and the guard that its call names
pub record Caller : Type 0 where
  pub step : Step
  pub open step use *
  pub guard : ℕ

abbrev pub steps_of : List Caller → List Step
steps_of [] = []
steps_of (c ∷ cs) = c.step ∷ steps_of cs

pub record Scene (T : Type 0) : Type 0 where
  -- the machine of each lock, by the lock's number
  pub machines : ℕ → Machine T
  -- the place of each row in its program
  pub places : List ℕ

module _ {T : Type 0} where
  -- the scene with a party at another place
  abbrev pub scene_at : Scene T → ℕ → ℕ → Scene T
  scene_at s party place = record { machines = s.machines; places = set s.places party place }

  -- the same, and with another machine of a lock
  abbrev pub scene_with : Scene T → ℕ → Machine T → ℕ → ℕ → Scene T
  scene_with s lock m party place =
      record { machines = λ l. if l == lock then m else s.machines l; places = set s.places party place }

-- the place of a party after a call with this turn
abbrev pub place_by : Turn → ℕ → ℕ → ℕ
place_by Goes next here = next
place_by Announces next here = here
place_by Waits next here = here
place_by Refused next here = here

-- the place after the act at this place: the next one, or the other one
abbrev pub way_from : List ProgramPlace → ℕ → Bool → ℕ
way_from program place other = if other then other_in program place else next_in program place

-- a row of a scene: its program and its place. Its guards are in the machines
abbrev pub row_at : List ProgramPlace × ℕ → Stand
row_at r = record { program = r.0; place = r.1; holds = [] }

module _ {T : Type 0} (programs : List (List ProgramPlace)) where
  -- the act of a party, if it has not ended
  abbrev pub act_at : Scene T → ℕ → Option Act
  act_at s party = act_in (get_or programs party []) (get_or s.places party 0)

  -- the place of a party after its act
  abbrev pub way_of : Scene T → Step → ℕ
  way_of s taken = way_from (get_or programs taken.party []) (get_or s.places taken.party 0) (taken.way == 1)

  abbrev pub rows_of : Scene T → List Stand
  rows_of s = map row_at (zip programs s.places)

  -- the scene after an act has moved the rows, on the same machines
  abbrev pub scene_moved : Scene T → Option Act → ℕ → Scene T
  scene_moved s moving way =
      record { machines = s.machines; places = map (λ row. row.place) (rows_moved moving way 0 (rows_of s)) }

  -- the choice of a party: the rows permit its way; it may move rows, and no machine changes
  pub record HasChoice (s : Scene T) (c : Caller) (after : Scene T) : Type 0 where
    pub block : Block
    pub here : act_at s c.party ≡ Some (act.Choose block)
    pub is_let : lets (acts_of (rows_of s)) c.way (Some (act.Choose block)) ≡ true
    pub leaves : after ≡ scene_at (scene_moved s (Some (act.Choose block)) c.way) c.party (way_of s c.step)

  -- the signal of a party: the rows permit its way; it may move rows, and no machine changes
  pub record HasSignal (s : Scene T) (c : Caller) (after : Scene T) : Type 0 where
    pub signal : Signal
    pub here : act_at s c.party ≡ Some (act.Signal signal)
    pub is_let : lets (acts_of (rows_of s)) c.way (Some (act.Signal signal)) ≡ true
    pub leaves : after ≡ scene_at (scene_moved s (Some (act.Signal signal)) c.way) c.party
        (next_in (get_or programs c.party []) (get_or s.places c.party 0))

  -- some party is at an assertion that is false
  pub record HasFalseAssertion (s : Scene T) : Type 0 where
    pub party : ℕ
    pub row : ℕ
    pub number : ℕ
    pub value : Bool
    pub here : act_at s party ≡ Some (act.Signal (AssertAtLeast row number value))
    pub is_false : is_so (acts_of (rows_of s)) row number value ≡ false

-- the limit of the machine of a lock
abbrev pub limit_for : Kind → ℕ → ℕ
limit_for Mutex limit = 1
limit_for RwLock limit = limit
limit_for Reentrant limit = limit

-- the scene before the first act, where each lock has this value, and a machine with room for so many guards
abbrev pub first_scene : {T : Type 0} → List PlanLock → List (List ProgramPlace) → (ℕ → T) → ℕ → Scene T
first_scene locks programs values room = record {
  machines = λ l. let lock = get_or locks l no_lock in start lock.kind (values l) room (limit_for lock.kind lock.limit);
  places = map (λ program. 0) programs;
}

-- party `p` calls under the id `ids p`
module _ {O T A : Type 0} (meaning : O → Operation T A) (ids : ℕ → PartyId) (locks : List PlanLock) (programs : List (List ProgramPlace)) where
  -- the call of a party, on the guard that it names: its turn, and the scene after it
  pub record HasTurn (s : Scene T) (c : Caller) (turn : Turn) (after : Scene T) : Type 0 where
    pub call : PlanCall
    pub here : act_at programs s c.party ≡ Some (act.Call call)
    pub one_way : c.way ≡ 0
    pub names : Names (s.machines call.lock).entries (id_of (ids c.party)) c.guard call.step
    pub turns : (machine_turn meaning ids (get_or locks call.lock no_lock) (s.machines call.lock) c.party c.guard call.step).turn ≡ turn
    pub leaves : after ≡ scene_with s call.lock
        (machine_turn meaning ids (get_or locks call.lock no_lock) (s.machines call.lock) c.party c.guard call.step).machine
        c.party (place_by turn (way_of programs s c.step) (get_or s.places c.party 0))

  -- the try of a party, on the guard that it names: its way is 1 exactly where the machine does not make the call
  pub record HasTry (s : Scene T) (c : Caller) (after : Scene T) : Type 0 where
    pub call : PlanCall
    pub here : act_at programs s c.party ≡ Some (act.Try call)
    pub names : Names (s.machines call.lock).entries (id_of (ids c.party)) c.guard call.step
    pub replies : c.way
        ≡ (if is_made (machine_try meaning ids (get_or locks call.lock no_lock) (s.machines call.lock) c.party c.guard
        call.step).reply then 0 else 1)
    pub leaves : after ≡ scene_with s call.lock
        (machine_try meaning ids (get_or locks call.lock no_lock) (s.machines call.lock) c.party c.guard call.step).machine
        c.party (way_of programs s c.step)

  -- the call of a party is made, or the party announces itself for its call, or it tries, chooses or signals
  abbrev pub IsStep : Scene T → Caller → Scene T → Type 0
  IsStep s c after =
      HasTurn s c Goes after ⊎ HasTurn s c Announces after ⊎ HasTry s c after ⊎ HasChoice programs s c after
      ⊎ HasSignal programs s c after

  -- steps of these callers, one after another
  abbrev pub IsRun : Scene T → List Caller → Scene T → Type 0
  IsRun s [] after = s ≡ after
  IsRun s (c ∷ cs) after = (next : Scene T) × IsStep s c next × IsRun next cs after

  -- some party that is no server has begun and not ended, and no party has a step, whichever of its guards it names
  pub record IsStuckScene (servers : List Bool) (s : Scene T) : Type 0 where
    pub due : (party : ℕ) × (here : Act) × (act_at programs s party ≡ Some here) × (idles (Some here) ≡ false)
        × (is_server servers party ≡ false)
    pub none : (c : Caller) (after : Scene T) → IsStep s c after → ⊥

  -- the call of some party is refused
  abbrev pub IsRefusedScene : Scene T → Type 0
  IsRefusedScene s = (c : Caller) × (after : Scene T) × HasTurn s c Refused after

  abbrev pub IsStopScene : List Bool → Scene T → Type 0
  IsStopScene servers s = IsRefusedScene s ⊎ HasFalseAssertion programs s ⊎ IsStuckScene servers s
