-- The answers of a search for a deadlock, said of machines of guards.
use Rattle.std.specs.Prelude.{◌≡◌, ℕ, Bool, true, false, ◌+◌, ◌<◌, ◌≤◌, ◌^◌, ◌⊎◌, List, length, sum_by}
use Rattle.step_search.specs.Counts.{IsMember}
use Rattle.lock_modes.specs.declared.party.PartyId.{PartyId}
use Rattle.lock_machine.specs.Operation.{Operation}
use Rattle.lock_plan.specs.declared.lock.PlanLock.{PlanLock}
use Rattle.lock_plan.specs.declared.program.ProgramPlace.{ProgramPlace}
use Rattle.lock_plan.specs.declared.program.Step.{Step}
use Rattle.lock_plan.specs.Circles.{is_member, is_circle}
use Rattle.lock_plan.specs.Worlds.{Stand}
use Rattle.lock_plan_laws.specs.Scenes.{Caller, steps_of, Scene, first_scene, IsRun, IsStopScene}
use Rattle.lock_plan_laws.specs.Bridge.{AreDistinct, Shows}

module _ {O T A : Type 0} (meaning : O → Operation T A) (locks : List PlanLock) (programs : List (List ProgramPlace)) where
  -- the steps run from the first scene into this one: no two parties have one id, and each guard, the next one too, has room and a number
  pub record LeadsInto (ids : ℕ → PartyId) (values : ℕ → T) (room : ℕ) (cs : List Caller) (s : Scene T) : Type 0 where
    pub distinct : AreDistinct ids
    pub enough : sum_by length programs ≤ room
    pub numbers : length cs + 1 < 2 ^ 64
    pub is_run : IsRun meaning ids locks programs (first_scene locks programs values room) cs s

  -- the scene shows a world with a circle. In no run from the scene does a row of the circle make a step, if both runs together
  -- are shorter than there are numbers
  pub record IsCircleScene (ids : ℕ → PartyId) (cs : List Caller) (s : Scene T) : Type 0 where
    pub world : List Stand
    pub shown : Shows ids locks programs world s
    pub set : List Bool
    pub long : length set ≡ length world
    pub circle : is_circle locks world set ≡ true
    pub still : (others : List Caller) (after : Scene T) → length cs + length others < 2 ^ 64
        → IsRun meaning ids locks programs s others after → (c : Caller) → IsMember others c → is_member set c.party ≡ false

module _ {O T A : Type 0} (meaning : O → Operation T A) (servers : List Bool) (locks : List PlanLock) (programs : List (List ProgramPlace)) where
  -- no run of the machines leads into a stop
  abbrev pub MachinesNeverStop : Type 0
  MachinesNeverStop =
      (ids : ℕ → PartyId) (values : ℕ → T) (room : ℕ) (cs : List Caller) (s : Scene T)
      → LeadsInto meaning locks programs ids values room cs s → IsStopScene meaning ids locks programs servers s → ⊥

  -- these steps run the machines into a stop or a circle, and no fewer steps into a stop
  pub record IsShortestDeadlockOfMachines (trace : List Step) : Type 0 where
    pub deadlocks : (ids : ℕ → PartyId) (values : ℕ → T) (room : ℕ) → AreDistinct ids → sum_by length programs ≤ room
        → (cs : List Caller) × (s : Scene T) × (steps_of cs ≡ trace) × LeadsInto meaning locks programs ids values room cs s
        × (IsStopScene meaning ids locks programs servers s ⊎ IsCircleScene meaning locks programs ids cs s)
    pub shortest : (ids : ℕ → PartyId) (values : ℕ → T) (room : ℕ) (cs : List Caller) (s : Scene T)
        → length cs < length trace → LeadsInto meaning locks programs ids values room cs s
        → IsStopScene meaning ids locks programs servers s → ⊥
