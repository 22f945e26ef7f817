use Rattle.std.proofs.Common.{◌≡◌, ◌∙◌, sym, subst, ap, arith}
use Rattle.std.specs.Prelude.{slice_index_or}
use Rattle.lock_ranked.proofs.Rows.{one_more, all_taken}
use Rattle.lock_ranked.specs.Guards.{mutex_of}
use Rattle.lock_ranked.specs.Rows.{places_of, mutexes_of, IsPlaceAt}
use Rattle.lock_ranked.proofs.row.places.RankedMutexRow.lock_all.Goals as goal

-- src/row.rt:80:25
pub step-requires-clause-place : goal.step-requires-clause-place
step-requires-clause-place g c =
    let row = ap places_of c.loop-place.invariant.0 in
    omega (arith, c.loop-place-test.true, c.len-place-end.ensures, row)

-- src/row.rt:80:25
pub step-requires-clause-above : goal.step-requires-clause-above
step-requires-clause-above g c = c.loop-place.invariant.1

-- src/row.rt:79:9
pub loop-place-preserved : goal.loop-place-preserved
loop-place-preserved g c =
    let row = c.args.self.now in
    let here = subst (λ r. IsPlaceAt r c.loop-place.place c.step.result) c.loop-place.invariant.0 c.step.ensures.place in
    let at = subst (λ m. m ≡ slice_index_or (mutexes_of row) c.loop-place.place m) (sym c.lock.ensures) here in (
      c.step.ensures.row ∙ c.loop-place.invariant.0,
      omega (arith, c.step.ensures.next),
      one_more mutex_of c.loop-place.guards.items (mutexes_of row) c.loop-place.place c.loop-place.invariant.2 c.lock.result
          c.push.new.self.items (omega (arith, c.loop-place-test.true, c.len-place-end.ensures, row.mutexes.ok)) at c.in_ok-push.ensures.items,
    )

-- src/row.rt:68:5
pub returns-clause-guards : goal.returns-clause-guards
returns-clause-guards g c =
    all_taken mutex_of c.loop-place.guards.items (mutexes_of c.args.self.now) c.loop-place.place c.loop-place.invariant.2
    (omega (arith, c.loop-place-test.false, c.len-place-end.ensures, c.args.self.now.mutexes.ok))
