-- The examples of the order of ranks.
use Rattle.std.proofs.Common.{◌≡◌, ℕ, zero, suc, ◌<◌, false, [], length, get_or, replicate, refl, sym, subst, arith}
use Rattle.lock_modes.specs.Kind.{is_reentrant}
use Rattle.lock_plan.specs.Worlds.{no_lock}
use Rattle.lock_plan_laws.specs.Ranks.{IsOrdered}
use Rattle.lock_plan_laws.specs.OrderExamples.{two_mutexes, both_from, by_number, OrderExamples}
use Rattle.lock_plan_laws.proofs.RankedLocks.{never_deadlock}
use Rattle.lock_plan_laws.proofs.OrderChecks.{ordered_is}

each_copy : {X : Type 0} (n p : ℕ) (x d : X) → p < length (replicate n x) → get_or (replicate n x) p d ≡ x
each_copy zero p x d lt = absurd (omega arith)
each_copy (suc n) zero x d lt = refl
each_copy (suc n) (suc p) x d lt = each_copy n p x d (omega (arith, lt))

no_reentrant : (l : ℕ) → is_reentrant (get_or two_mutexes l no_lock).kind ≡ false
no_reentrant zero = refl
no_reentrant (suc zero) = refl
no_reentrant (suc (suc l)) = refl

pub examples : OrderExamples
examples = record {
  any_number = λ n.
      never_deadlock by_number [] two_mutexes (replicate n (both_from 0 1)) (record {
        machines = refl;
        single = no_reentrant;
        ordered = λ p lt.
            subst (IsOrdered by_number two_mutexes) (sym (each_copy n p (both_from 0 1) [] lt))
            (ordered_is by_number two_mutexes (both_from 0 1) refl);
      });
  equal_is_refused = refl;
  both_orders_stop = (_, refl, refl);
  kept_is_refused = refl;
  kept_lock_stops = (_, refl, refl);
}
