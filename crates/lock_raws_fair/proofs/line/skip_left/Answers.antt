use Rattle.std.proofs.Common.{◌≡◌, ◌+◌, ◌-◌, ◌<◌, ◌%◌, true, suc, arith, ◌∙◌}
use Rattle.std.specs.Prelude.{◌==◌}
use Rattle.std.proofs.lemmas.Bool.Decides.{nat_tests}
use Rattle.lock_raws_fair.proofs.Staying.{some_behind, none_behind_half, staying_over}
use Rattle.lock_raws_fair.proofs.line.skip_left.Goals as goal

pub loop-bits-preserved : goal.loop-bits-preserved
loop-bits-preserved c =
    let kept = c.loop-bits.invariant in
    let test = c.loop-bits-test.true in
    let gone : (c.loop-bits.bits % 2 == 1) ≡ true = grind (arith, nat_tests) in
    let within : c.loop-bits.first < c.args.next = some_behind c.args.next c.loop-bits.first c.loop-bits.bits kept.within kept.none_behind gone in
    let e : c.args.next - c.loop-bits.first ≡ suc (c.args.next - (c.loop-bits.first + 1)) = omega arith in
    record {
      within = omega arith;
      none_behind = none_behind_half _ _ c.loop-bits.bits e kept.none_behind;
      same = staying_over c.args.next c.loop-bits.first c.loop-bits.bits within gone ∙ kept.same;
    }
