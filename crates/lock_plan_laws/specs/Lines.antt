-- Fair locks with their lines of waiters. An accepted plan has no try of a fair lock (`try_fault`); here one would pass the line.
use Rattle.std.specs.Prelude.{◌≡◌, ℕ, Bool, true, false, not, ◌&&◌, ◌||◌, ◌==◌, if◌then◌else◌, List, [], ◌∷◌, ◌++◌, length, Option, Some, None, option_map, ◌⊎◌}
use Rattle.std.specs.List.{list_any}
use Rattle.std.proofs.Common.{get_or, inl, inr}
use Rattle.lock_modes.specs.declared.mode_step.ModeStep.TheVariants.{Acquire, Change}
use Rattle.lock_modes.specs.declared.lock_step.LockStep.{LockStep}
use Rattle.lock_modes.specs.declared.lock_step.LockStep.TheVariants.{Modes}
use Rattle.lock_plan.specs.declared.call.PlanCall.{PlanCall}
use Rattle.lock_plan.specs.declared.lock.PlanLock.{PlanLock}
use Rattle.lock_plan.specs.declared.program.Act.{Act}
use Rattle.lock_plan.specs.declared.program.Act.TheVariants.{Call}
use Rattle.lock_plan.specs.declared.program.ProgramPlace.{ProgramPlace}
use Rattle.lock_plan.specs.declared.program.Step.{Step}
use Rattle.lock_plan.specs.declared.turn.Turn.{Turn}
use Rattle.lock_plan.specs.declared.turn.Turn.TheVariants.{Waits}
use Rattle.lock_plan.specs.Worlds.{Stand, no_stand, no_lock, act_of, turn_of, line_of, on_lock, world_step, world_after, first_world, is_server, is_due, is_step_turn, is_stuck, some_below}

-- a world, and the parties that have joined a line, in the order in which they came
pub record LinedWorld : Type 0 where
  pub stands : List Stand
  pub waiting : List ℕ

abbrev pub here : LinedWorld → ℕ → Option Act
here s p = act_of (get_or s.stands p no_stand)

abbrev pub is_listed : ℕ → List ℕ → Bool
is_listed p list = list_any (λ q. p == q) list

abbrev pub without : ℕ → List ℕ → List ℕ
without p [] = []
without p (q ∷ qs) = if p == q then without p qs else q ∷ without p qs

-- those that joined before a party, or all if it has not joined
abbrev pub before : ℕ → List ℕ → List ℕ
before p [] = []
before p (q ∷ qs) = if p == q then [] else q ∷ before p qs

-- an acquisition, or a change of mode; of the changes, an upgrade alone ever waits
abbrev pub is_claim : LockStep → Bool
is_claim (Modes (Acquire mode)) = true
is_claim (Modes (Change from to)) = true
is_claim other = false

abbrev pub is_change : LockStep → Bool
is_change (Modes (Change from to)) = true
is_change other = false

abbrev pub on_call : (PlanCall → Bool) → Option Act → Bool
on_call f (Some (Call call)) = f call
on_call f other = false

-- whether an act claims this lock, and whether it does so by a change of what its party holds
abbrev pub claims : ℕ → Option Act → Bool
claims lock act = on_call (λ call. (call.lock == lock) && is_claim call.step) act

abbrev pub changes : ℕ → Option Act → Bool
changes lock act = on_call (λ call. (call.lock == lock) && is_change call.step) act

abbrev pub is_waits : Option Turn → Bool
is_waits (Some Waits) = true
is_waits other = false

-- whether an act is a call on a fair lock
abbrev pub names_fair : List PlanLock → Option Act → Bool
names_fair locks act = on_call (λ call. (get_or locks call.lock no_lock).fair) act

module _ (locks : List PlanLock) where
  -- whether a party is behind another one at a lock: one that came before, or an upgrade that waits
  abbrev pub is_behind : LinedWorld → ℕ → ℕ → Bool
  is_behind s p lock =
      list_any (λ q. claims lock (here s q)) (before p s.waiting) || list_any (λ q. changes lock (here s q)) s.waiting

  abbrev pub is_behind_some : LinedWorld → ℕ → Bool
  is_behind_some s p = on_lock (is_behind s p) (line_of locks (here s p))

  -- whether a party goes on now
  abbrev pub goes_in_line : LinedWorld → ℕ → Bool
  goes_in_line s p = is_step_turn (turn_of locks s.stands p) && not (is_behind_some s p)

  -- whether a party joins the line: its call on a fair lock waits, or others came before
  abbrev pub joins : LinedWorld → ℕ → Bool
  joins s p =
      not (is_listed p s.waiting)
      && ((is_waits (turn_of locks s.stands p) && names_fair locks (here s p)) || is_behind_some s p)

  abbrev pub joined : LinedWorld → ℕ → Option LinedWorld
  joined s p = if joins s p then Some (record { stands = s.stands; waiting = s.waiting ++ p ∷ [] }) else None

  -- a step of a party that is not held up, which leaves the line
  abbrev pub stepped : LinedWorld → Step → Option LinedWorld
  stepped s step =
      if is_behind_some s step.party then None
      else option_map (λ w. record { stands = w; waiting = without step.party s.waiting }) (world_step locks s.stands step)

  -- a party joins, or makes a step
  abbrev pub lined_by : LinedWorld → ℕ ⊎ Step → Option LinedWorld
  lined_by s (inl p) = joined s p
  lined_by s (inr step) = stepped s step

  abbrev pub lined_on : Option LinedWorld → (LinedWorld → Option LinedWorld) → Option LinedWorld
  lined_on None f = None
  lined_on (Some s) f = f s

  abbrev pub lined_after : LinedWorld → List (ℕ ⊎ Step) → Option LinedWorld
  lined_after s [] = Some s
  lined_after s (a ∷ acts) = lined_on (lined_by s a) (λ t. lined_after t acts)

  -- some party has to go on, and none goes or joins
  pub record IsStuckInLine (servers : List Bool) (s : LinedWorld) : Type 0 where
    pub due : some_below (λ p. is_due (is_server servers p) (turn_of locks s.stands p)) (length s.stands) ≡ true
    pub none_goes : some_below (goes_in_line s) (length s.stands) ≡ false
    pub none_joins : some_below (joins s) (length s.stands) ≡ false

  abbrev pub first_lined : List (List ProgramPlace) → LinedWorld
  first_lined programs = record { stands = first_world locks programs; waiting = [] }

-- runs with lines lead to the worlds of the plan, and are stuck in the same ones
pub record LinesStopAsWorlds (servers : List Bool) (locks : List PlanLock) (programs : List (List ProgramPlace)) : Type 0 where
  pub worlds : (acts : List (ℕ ⊎ Step)) (s : LinedWorld) → lined_after locks (first_lined locks programs) acts ≡ Some s
      → (steps : List Step) × (world_after locks (first_world locks programs) steps ≡ Some s.stands)
  pub reached : (steps : List Step) (w : List Stand) → world_after locks (first_world locks programs) steps ≡ Some w
      → (acts : List (ℕ ⊎ Step)) × (lined_after locks (first_lined locks programs) acts ≡ Some (record { stands = w; waiting = [] }))
  pub stuck : (s : LinedWorld) → IsStuckInLine locks servers s → is_stuck servers locks s.stands ≡ true
  pub back : (steps : List Step) (w : List Stand) → world_after locks (first_world locks programs) steps ≡ Some w
      → is_stuck servers locks w ≡ true
      → (acts : List (ℕ ⊎ Step)) × (waiting : List ℕ)
      × (lined_after locks (first_lined locks programs) acts ≡ Some (record { stands = w; waiting = waiting }))
      × IsStuckInLine locks servers (record { stands = w; waiting = waiting })
