-- No run of machines from the scene of a circle has a call of one of its rows.
use Rattle.std.proofs.Common.{◌≡◌, ℕ, zero, suc, ◌+◌, List, [], ◌∷◌, length, Some, ap, sym, ◌∙◌, subst, arith}
use Rattle.std.specs.List.{slice_get}
use Rattle.lock_machine.specs.Operation.{Operation}
use Rattle.lock_plan.specs.Worlds.{Stand, first_world}
use Rattle.lock_plan_laws.specs.Circles.{CircleMachinesNeverMove}
use Rattle.lock_plan_laws.specs.Scenes.{Caller, steps_of, first_scene}
use Rattle.lock_plan.proofs.StillCircles.{circle_ring, runs_without}
use Rattle.lock_plan_laws.proofs.Runs.{run_on}
use Rattle.lock_plan_laws.proofs.SceneSteps.{same_worlds}
use Rattle.lock_plan_laws.proofs.Ties.{IsTied, first_tied}

step_there : (cs : List Caller) (i : ℕ) (c : Caller) → slice_get cs i ≡ Some c → slice_get (steps_of cs) i ≡ Some c.step
step_there [] i c e = cc
step_there (x ∷ cs) zero c e =
    let is : x ≡ c = cc in
    ap (λ (y : Caller). Some y.step) is
step_there (x ∷ cs) (suc i) c e = step_there cs i c e

pub machines_still : {O T A : Type 0} → (meaning : O → Operation T A) → CircleMachinesNeverMove meaning
machines_still meaning ids locks programs values room members cs others s after w distinct fits few run is long e on c (i, there) =
    let first = run_on meaning ids distinct locks fits.bars programs cs (first_world locks programs) (first_scene locks programs values room) s 0
    (first_tied locks ids programs values room fits) (omega (arith, few)) run in
    let same : first.0 ≡ w = same_worlds first.0 w (sym first.1 ∙ is) in
    let tied = subst (λ (x : List Stand). IsTied ids locks programs x s (0 + length cs)) same first.2 in
    let rest = run_on meaning ids distinct locks fits.bars programs others w s after (0 + length cs) tied (omega (arith, few)) on in
    runs_without locks members (steps_of others) w rest.0 (circle_ring locks members w long e) rest.1 c.step (i, step_there others i c there)
