use Rattle.std.proofs.Common.{◌≡◌, ◌∙◌, ℕ, suc, Bool, ◌&&◌, drop, ◌+◌, List, [], map, ap, sym, arith, sum_by}
use Rattle.std.specs.Prelude.{nat_lt}
use Rattle.std.proofs.lemmas.List.Sums.{sum_by-cons}
use Rattle.lock_plan_order.specs.LockOrders.{held_in, most_reads}
use Rattle.lock_plan_order.proofs.FewReads.{alone_more, first_left}
use Rattle.lock_plan_order.proofs.lenient.has_room.Goals as goal

pub loop-held-preserved : goal.loop-held-preserved
loop-held-preserved c =
    let known = c.args.known.now in
    let inv = c.loop-held.invariant in
    let held = c.in-Some.held.now in
    let after = c.in-Some.after.now in
    let reads = most_reads c.args.lock in
    let split = c.in-Some.ensures.cases.0 in
    let one = first_left held_in known after c.loop-held.program held [] (sym inv.at ∙ split) in
    let most = c.in-Some-most_reads.ensures ∙ ap reads c.as_slice.ensures.value in
    let sum = ap (λ (ks : List _). sum_by reads (map held_in ks)) split ∙ sum_by-cons reads (held_in held) (map held_in after) in
    let next : suc c.loop-held.program ≡ c.loop-held.program + 1 = omega arith in
    record {
      at = sym one.1 ∙ ap (λ (n : ℕ). drop n known) next;
      fits = omega (arith, inv.fits, sum, most, c.if-most-left.false);
      alone = alone_more c.args.many.now (map held_in known) c.args.lock c.loop-held.program c.in-Some-most_reads.most (held_in held)
          inv.alone one.0 most (ap (λ (b : Bool). nat_lt 0 c.in-Some-most_reads.most && b) (sym c.is_many.ensures) ∙ c.if-most-is_many.false);
    }
