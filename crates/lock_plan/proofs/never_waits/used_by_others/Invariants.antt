use Rattle.std.proofs.Common.{◌≡◌, ℕ, ◌<◌, ◌==◌, ◌&&◌, not, false, [], get_or, length, map}
use Rattle.lock_plan.specs.NeverWaits.{uses}
use Rattle.lock_plan.specs.Worlds.{some_below}
use Rattle.lock_plan.proofs.never_waits.used_by_others.Given as goal

abbrev pub invariant-loop-row : goal.invariant-loop-row
invariant-loop-row l = record {
  long : length l.used.items ≡ l.locks;
  marks : (lock : ℕ) → lock < l.locks
      → get_or l.used.items lock false ≡ some_below (λ r. not (r == l.party) && uses lock (get_or (map (λ v. v.items) l.programs) r [])) l.row;
}
