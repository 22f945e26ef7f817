-- Circles never move: in no run from a world does a row of one of its circles make a step.
use Rattle.std.specs.Prelude.{◌≡◌, ℕ, ◌+◌, ◌<◌, ◌^◌, true, false, ◌↔◌, Bool, List, length, None, Some}
use Rattle.std.proofs.Common.{get_or}
use Rattle.step_search.specs.Counts.{IsMember}
use Rattle.lock_modes.specs.declared.party.PartyId.{PartyId}
use Rattle.lock_machine.specs.Operation.{Operation}
use Rattle.lock_plan.specs.declared.lock.PlanLock.{PlanLock}
use Rattle.lock_plan.specs.declared.program.ProgramPlace.{ProgramPlace}
use Rattle.lock_plan.specs.declared.program.Step.{Step}
use Rattle.lock_plan.specs.Circles.{is_member, is_circle, has_circle}
use Rattle.lock_plan.specs.Worlds.{Stand, no_stand, world_step, world_after, first_world}
use Rattle.lock_plan_laws.specs.Bridge.{AreDistinct, FitsMachines}
use Rattle.lock_plan_laws.specs.Scenes.{Caller, steps_of, Scene, first_scene, IsRun}

-- each row of the set is in v as it is in w and has no step, and the set is still a circle
pub record IsStill (locks : List PlanLock) (set : List Bool) (w v : List Stand) : Type 0 where
  pub same : (row : ℕ) → is_member set row ≡ true → get_or v row no_stand ≡ get_or w row no_stand
  pub none : (step : Step) → is_member set step.party ≡ true → world_step locks v step ≡ None
  pub circle : is_circle locks v set ≡ true

-- whatever the rows outside of a circle do, its rows never move
abbrev pub CirclesNeverMove : Type 0
CirclesNeverMove = (locks : List PlanLock) (set : List Bool) (w v : List Stand) (steps : List Step)
    → length set ≡ length w → is_circle locks w set ≡ true → world_after locks w steps ≡ Some v
    → IsStill locks set w v

-- a world has a circle exactly if some set of its rows is one
abbrev pub CirclesAreSets : Type 0
CirclesAreSets = (locks : List PlanLock) (w : List Stand)
    → (has_circle locks w ≡ true) ↔ ((set : List Bool) × (length set ≡ length w) × (is_circle locks w set ≡ true))

-- the same for machines of guards: no run from the scene of a circle has a call of one of its rows. A machine gives no two
-- guards one number, so both runs together are shorter than there are numbers
abbrev pub CircleMachinesNeverMove : {O T A : Type 0} → (O → Operation T A) → Type 0
CircleMachinesNeverMove {T = T} meaning =
    (ids : ℕ → PartyId) (locks : List PlanLock) (programs : List (List ProgramPlace)) (values : ℕ → T) (room : ℕ) (set : List Bool)
    (cs others : List Caller) (s after : Scene T) (w : List Stand)
    → AreDistinct ids → FitsMachines locks programs room → length cs + length others < 2 ^ 64
    → IsRun meaning ids locks programs (first_scene locks programs values room) cs s
    → world_after locks (first_world locks programs) (steps_of cs) ≡ Some w
    → length set ≡ length w → is_circle locks w set ≡ true
    → IsRun meaning ids locks programs s others after
    → (c : Caller) → IsMember others c → is_member set c.party ≡ false
