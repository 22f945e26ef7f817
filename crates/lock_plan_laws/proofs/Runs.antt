-- Runs of scenes are runs of worlds, and back, and both stop alike.
use Rattle.std.proofs.Common.{◌≡◌, ℕ, suc, ◌+◌, ◌<◌, ◌^◌, List, [], ◌∷◌, length, map, get_or, Option, Some, None, IsTrue, refl, ap, sym, ◌∙◌, subst, arith}
use Rattle.std.proofs.Math.ListN.{get_or-map}
use Rattle.lock_modes.specs.declared.party.PartyId.{PartyId}
use Rattle.lock_modes.specs.declared.hold.Hold.{Hold}
use Rattle.lock_machine.specs.Operation.{Operation}
use Rattle.lock_modes.specs.Party.{id_of}
use Rattle.lock_modes.specs.Kind.{is_rwlock}
use Rattle.lock_modes.specs.Holds.{no_hold}
use Rattle.lock_plan.specs.declared.lock.PlanLock.{PlanLock}
use Rattle.lock_plan.specs.declared.program.ProgramPlace.{ProgramPlace}
use Rattle.lock_plan.specs.declared.program.Step.{Step}
use Rattle.lock_plan.specs.Worlds.{Stand, no_stand, no_lock, world_step, on_from, world_after, first_world}
use Rattle.lock_plan_laws.specs.Scenes.{Caller, steps_of, Scene, IsRun, first_scene}
use Rattle.lock_plan_laws.specs.Bridge.{AreDistinct, Shows, RunsAreOfWorlds, WorldRunsAreOfMachines, StopsAreTheSame}
use Rattle.lock_plan_laws.proofs.Columns.{bar_is}
use Rattle.lock_plan_laws.proofs.Ties.{IsTied, first_tied}
use Rattle.lock_plan_laws.proofs.SceneSteps.{same_worlds, step_on, step_back}
use Rattle.lock_plan_laws.proofs.SceneStops.{same_stop}

-- what holds of a scene that is tied to a world
pub shows : {T : Type 0} (ids : ℕ → PartyId) (distinct : AreDistinct ids) (locks : List PlanLock) (programs : List (List ProgramPlace)) (w : List Stand)
    (s : Scene T) (used : ℕ) → IsTied ids locks programs w s used → Shows ids locks programs w s
shows ids distinct locks programs w s used tied = record {
  programs_same = tied.programs_same;
  places = tied.places;
  holds = λ l p lt. (tied.at l lt).own p ∙ ap (λ (hs : List Hold). (get_or hs l no_hold).bag) (get_or-map (λ (x : Stand). x.holds) w p no_stand);
  bags = λ l lt. (tied.at l lt).all;
  bars = λ l lt. bar_is (λ q. id_of (ids q)) distinct l (map (λ x. x.holds) w) (s.machines l).bar (tied.at l lt).barred (tied.at l lt).announced;
}

module _ {O T A : Type 0} (meaning : O → Operation T A) (ids : ℕ → PartyId) (distinct : AreDistinct ids) (locks : List PlanLock)
    (bars : (l : ℕ) → IsTrue (get_or locks l no_lock).bar → IsTrue (is_rwlock (get_or locks l no_lock).kind)) (programs : List (List ProgramPlace)) where
  -- a run of scenes is one of worlds
  pub run_on : (cs : List Caller) (w : List Stand) (s after : Scene T) (used : ℕ) → IsTied ids locks programs w s used → used + length cs < 2 ^ 64
      → IsRun meaning ids locks programs s cs after
      → (v : List Stand) × (world_after locks w (steps_of cs) ≡ Some v) × IsTied ids locks programs v after (used + length cs)
  run_on [] w s after used tied few run =
      (w, refl, subst (λ (n : ℕ). IsTied ids locks programs w after n) (omega arith) (subst (λ (x : Scene T). IsTied ids locks programs w x used) run tied))
  run_on (c ∷ cs) w s after used tied few run =
      let one = step_on meaning ids distinct locks bars programs w s used tied (omega (arith, few)) c run.0 run.1 in
      let rest = run_on cs one.world run.0 after (suc used) one.still (omega (arith, few)) run.2 in (
        rest.0,
        ap (λ (o : Option (List Stand)). on_from o (λ v. world_after locks v (steps_of cs))) one.steps ∙ rest.1,
        subst (λ (n : ℕ). IsTied ids locks programs rest.0 after n) (omega arith) rest.2,
      )

  pub record SceneRun (s : Scene T) (steps : List Step) (v : List Stand) (used : ℕ) : Type 0 where
    pub callers : List Caller
    pub after : Scene T
    pub taken : steps_of callers ≡ steps
    pub is_run : IsRun meaning ids locks programs s callers after
    pub still : IsTied ids locks programs v after (used + length steps)

  -- a run of worlds is one of scenes
  pub run_back : (steps : List Step) (w v : List Stand) (s : Scene T) (used : ℕ) → IsTied ids locks programs w s used → used + length steps < 2 ^ 64
      → world_after locks w steps ≡ Some v → SceneRun s steps v used
  run_back [] w v s used tied few is =
      record {
        callers = [];
        after = s;
        taken = refl;
        is_run = refl;
        still = subst (λ (n : ℕ). IsTied ids locks programs v s n) (omega arith)
            (subst (λ (x : List Stand). IsTied ids locks programs x s used) (same_worlds w v is) tied);
      }
  run_back (taken ∷ steps) w v s used tied few is =
      by_step (world_step locks w taken) refl is (λ u rest t h. run_back steps u v t (suc used) h (omega (arith, few)) rest)
    where
      by_step : (o : Option (List Stand)) → world_step locks w taken ≡ o → on_from o (λ u. world_after locks u steps) ≡ Some v
          → ((u : List Stand) → world_after locks u steps ≡ Some v → (t : Scene T) → IsTied ids locks programs u t (suc used)
          → SceneRun t steps v (suc used))
          → SceneRun s (taken ∷ steps) v used
      by_step None at further rest = cc
      by_step (Some u) at further rest =
          let one = step_back meaning ids distinct locks bars programs w s used tied (omega (arith, few)) taken u at in
          let more = rest u further one.after one.still in
          record {
            callers = record { step = taken; guard = one.guard } ∷ more.callers;
            after = more.after;
            taken = ap (λ (rest : List Step). taken ∷ rest) more.taken;
            is_run = (one.after, one.is_step, more.is_run);
            still = subst (λ (n : ℕ). IsTied ids locks programs v more.after n) (omega arith) more.still;
          }

module _ {O T A : Type 0} (meaning : O → Operation T A) where
  pub runs_of_worlds : RunsAreOfWorlds meaning
  runs_of_worlds ids locks programs values room cs s distinct fits few run =
      let r = run_on meaning ids distinct locks fits.bars programs cs (first_world locks programs) (first_scene locks programs values room) s 0
      (first_tied locks ids programs values room fits) (omega (arith, few)) run in
      (r.0, r.1, shows ids distinct locks programs r.0 s _ r.2)

  pub runs_of_machines : WorldRunsAreOfMachines meaning
  runs_of_machines ids locks programs values room steps w distinct fits few is =
      let r = run_back meaning ids distinct locks fits.bars programs steps (first_world locks programs) w (first_scene locks programs values room) 0
      (first_tied locks ids programs values room fits) (omega (arith, few)) is in
      (r.callers, r.after, r.taken, r.is_run, shows ids distinct locks programs w r.after _ r.still)

  pub same_stops : StopsAreTheSame meaning
  same_stops ids locks programs values room cs s w servers distinct fits few run is =
      let r = run_on meaning ids distinct locks fits.bars programs cs (first_world locks programs) (first_scene locks programs values room) s 0
      (first_tied locks ids programs values room fits) (omega (arith, few)) run in
      same_stop meaning ids distinct locks fits.bars programs w s (0 + length cs)
      (subst (λ (x : List Stand). IsTied ids locks programs x s (0 + length cs)) (same_worlds r.0 w (sym r.1 ∙ is)) r.2) (omega (arith, few)) servers
