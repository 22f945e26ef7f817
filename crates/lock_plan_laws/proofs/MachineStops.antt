-- What the answers of a search for a deadlock mean for machines.
use Rattle.std.proofs.Common.{◌≡◌, ℕ, Bool, suc, ◌+◌, ◌<◌, ◌≤◌, ◌^◌, false, List, [], ◌∷◌, length, sum_by, Some, inl, inr, IsTrue, refl, sym, ap, ◌∙◌, arith}
use Rattle.std.proofs.lemmas.Bool.{false≢true, or_cases, or_parts}
use Rattle.lock_modes.specs.declared.party.PartyId.{PartyId}
use Rattle.lock_machine.specs.Operation.{Operation}
use Rattle.lock_plan.specs.declared.lock.PlanLock.{PlanLock}
use Rattle.lock_plan.specs.declared.program.ProgramPlace.{ProgramPlace}
use Rattle.lock_plan.specs.declared.program.Step.{Step}
use Rattle.lock_plan.specs.Checks.{none_fair}
use Rattle.lock_plan.specs.Worlds.{Stand, first_world, world_after, is_stop, NeverStops}
use Rattle.lock_plan.specs.Circles.{has_circle, NeverDeadlocks, IsShortestDeadlock}
use Rattle.lock_plan_laws.specs.Scenes.{Caller, steps_of, Scene, IsStopScene}
use Rattle.lock_plan_laws.specs.Bridge.{FitsMachines}
use Rattle.lock_plan_laws.specs.MachineStops.{LeadsInto, MachinesNeverStop, IsShortestDeadlockOfMachines}
use Rattle.lock_plan_laws.proofs.StillCircles.{circles_are_sets}
use Rattle.lock_plan_laws.proofs.CircleRuns.{machines_still}
use Rattle.lock_plan_laws.proofs.Runs.{runs_of_worlds, runs_of_machines, same_stops}

as_many : (cs : List Caller) → length (steps_of cs) ≡ length cs
as_many [] = refl
as_many (c ∷ cs) = ap suc (as_many cs)

-- a plan that never deadlocks never stops
pub no_deadlocks : (servers : List Bool) (locks : List PlanLock) (programs : List (List ProgramPlace)) → NeverDeadlocks servers locks programs
    → NeverStops servers locks programs
no_deadlocks servers locks programs none steps w e = (or_parts (is_stop servers locks w) (has_circle locks w) (none steps w e)).0

module _ {O T A : Type 0} (meaning : O → Operation T A) (servers : List Bool) (locks : List PlanLock) (programs : List (List ProgramPlace))
    (fit : (room : ℕ) → sum_by length programs ≤ room → FitsMachines locks programs room) where
  no_stop : (ids : ℕ → PartyId) (values : ℕ → T) (room : ℕ) (cs : List Caller) (s : Scene T)
      → ((w : List Stand) → world_after locks (first_world locks programs) (steps_of cs) ≡ Some w → is_stop servers locks w ≡ false)
      → LeadsInto meaning locks programs ids values room cs s → IsStopScene meaning ids locks programs servers s → ⊥
  no_stop ids values room cs s none into stops =
      let fits = fit room into.enough in
      let few : length cs < 2 ^ 64 = omega (arith, into.numbers) in
      let r = runs_of_worlds meaning ids locks programs values room cs s into.distinct fits few into.is_run in
      let same = same_stops meaning ids locks programs values room cs s r.0 servers into.distinct fits into.numbers into.is_run r.1 in
      false≢true (sym (none r.0 r.1) ∙ same.0 stops)

  pub never : NeverStops servers locks programs → MachinesNeverStop meaning servers locks programs
  never none ids values room cs s into stops =
      no_stop ids values room cs s (λ w e. none (steps_of cs) w e) into stops

  pub shortest : IsTrue (none_fair locks) → (trace : List Step) → length trace + 1 < 2 ^ 64 → IsShortestDeadlock servers locks programs trace
      → IsShortestDeadlockOfMachines meaning servers locks programs trace
  shortest plain trace few stop = record {
    deadlocks = λ ids values room distinct enough.
        let fits = fit room enough in
        let w = stop.deadlocks.0 in
        let back = runs_of_machines meaning ids locks programs values room trace w distinct fits (omega (arith, few)) stop.deadlocks.1 in
        let there = ap (world_after locks (first_world locks programs)) back.2 ∙ stop.deadlocks.1 in
        let long : length back.0 ≡ length trace = sym (as_many back.0) ∙ ap length back.2 in
        let numbers : length back.0 + 1 < 2 ^ 64 = omega (arith, few, long) in
        let same = same_stops meaning ids locks programs values room back.0 back.1 w servers distinct fits numbers back.3 there in (
          back.0,
          back.1,
          back.2,
          record { distinct = distinct; enough = enough; numbers = numbers; is_run = back.3 },
          elim (or_cases (is_stop servers locks w) (has_circle locks w) stop.deadlocks.2) [
            | inl stops ↦ inl (same.1 plain stops)
            | inr e ↦
                let found = (circles_are_sets locks w).0 e in
                inr (record {
                  world = w;
                  shown = back.4;
                  set = found.0;
                  long = found.1;
                  circle = found.2;
                  still = λ others after short on c there.
                      machines_still meaning ids locks programs values room found.0 back.0 others back.1 after w distinct fits short back.3
                      (ap (world_after locks (first_world locks programs)) back.2 ∙ stop.deadlocks.1) found.1 found.2 on c there;
                })
          ],
        );
    shortest = λ ids values room cs s less into stops.
        no_stop ids values room cs s (λ w e. (or_parts (is_stop servers locks w) (has_circle locks w) (stop.shortest (steps_of cs) w (omega (arith, less, as_many cs)) e)).0) into stops;
  }
