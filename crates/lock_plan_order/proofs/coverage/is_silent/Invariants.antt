-- No hold is announced exactly if none of those that are left is.
use Rattle.std.proofs.Common.{◌≡◌, drop, not}
use Rattle.std.specs.List.{list_all}
use Rattle.lock_plan_order.proofs.coverage.is_silent.Given as goal

abbrev pub invariant-loop-lock : goal.invariant-loop-lock
invariant-loop-lock l = list_all (λ h. not h.announced) (drop l.lock l.holds) ≡ list_all (λ h. not h.announced) l.holds
