use Rattle.std.proofs.Common.{◌≡◌, ◌∙◌, ℕ, ◌+◌, ◌<◌, List, Bool, false, true, not, get_or, length, map, ap, sym, subst}
use Rattle.std.proofs.lemmas.List.{length_push}
use Rattle.lock_plan.specs.Worlds.{no_lock}
use Rattle.lock_plan_order.specs.LockOrders.{IsLenientAmong, held_in}
use Rattle.lock_plan_order.proofs.FewReads.{one_more_lenient}
use Rattle.lock_plan_order.proofs.lenient.strict_locks.Goals as goal

pub loop-number-preserved : goal.loop-number-preserved
loop-number-preserved g c =
    let so_far = c.loop-number.invariant in
    let n = c.loop-number.number in
    record {
      long = ap length c.in_ok-push.ensures.items ∙ length_push c.loop-number.strict.items (not c.is_lenient_in_time.result)
          ∙ ap (λ (m : ℕ). m + 1) so_far.long;
      lenient =
          subst (λ (xs : List Bool). (lock : ℕ) → lock < n + 1 → get_or xs lock true ≡ false
          → IsLenientAmong (get_or c.args.locks.now lock no_lock) c.args.many.now (map held_in c.args.known.now) lock)
          (sym c.in_ok-push.ensures.items)
          (one_more_lenient c.args.locks.now c.args.many.now (map held_in c.args.known.now) c.loop-number.strict.items n c.is_lenient_in_time.result
          so_far.long so_far.lenient (λ yes. subst (λ (lock : _). IsLenientAmong lock c.args.many.now (map held_in c.args.known.now) n)
          c.lock_at-lock.ensures (c.is_lenient_in_time.ensures yes)));
    }
