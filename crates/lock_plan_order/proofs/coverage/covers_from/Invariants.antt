-- An order covers all places exactly if it covers those that are left.
use Rattle.std.proofs.Common.{◌≡◌, drop}
use Rattle.lock_plan_laws.specs.OrderChecks.{covers_from}
use Rattle.lock_plan_order.proofs.coverage.covers_from.Given as goal

abbrev pub invariant-loop-held : goal.invariant-loop-held
invariant-loop-held l = record {
  at : l.place ≡ l.held-index;
  same : covers_from l.program l.place (drop l.held-index l.known)
      ≡ covers_from l.program 0 l.known;
}
