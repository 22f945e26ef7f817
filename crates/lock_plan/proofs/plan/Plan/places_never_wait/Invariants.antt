-- The party goes on from all places exactly if it goes on from those that are left.
use Rattle.std.proofs.Common.{◌≡◌, drop}
use Rattle.lock_plan.specs.NeverWaits.{places_never_wait}
use Rattle.lock_plan.specs.Stops.{programs_of}
use Rattle.lock_plan.proofs.plan.Plan.places_never_wait.Given as goal

abbrev pub invariant-loop-held : goal.invariant-loop-held
invariant-loop-held l = record {
  at : l.place ≡ l.held-index;
  same : places_never_wait l.self.locks.items (programs_of l.self) l.party l.program l.place (drop l.held-index l.known)
      ≡ places_never_wait l.self.locks.items (programs_of l.self) l.party l.program 0 l.known;
}
