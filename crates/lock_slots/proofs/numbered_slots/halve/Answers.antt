use Rattle.std.proofs.Common.{◌+◌, ◌-◌, ◌/◌, ◌<◌, length, arith, ◌∙◌}
use Rattle.lock_slots.specs.Rows.{number_at}
use Rattle.lock_slots.proofs.Rising.{number_at_or, below_middle, above_middle}
use Rattle.lock_slots.proofs.numbered_slots.halve.Goals as goal

pub returns-then-found-number : goal.returns-then-found-number
returns-then-found-number g c =
    let l : c.loop-low.low + (c.loop-low.high - c.loop-low.low) / 2 < length c.args.rows.now = omega arith in
    record { inside = l; number_is = number_at_or c.args.rows.now _ c.index-rows-middle.result l ∙ c.if-found-number.true }

pub loop-low-preserved-then-found-number-2 : goal.loop-low-preserved-then-found-number-2
loop-low-preserved-then-found-number-2 g c =
    let middle = c.loop-low.low + (c.loop-low.high - c.loop-low.low) / 2 in
    let l : middle < length c.args.rows.now = omega arith in
    let is = number_at_or c.args.rows.now middle c.index-rows-middle.result l in
    let less : number_at c.args.rows.now middle < c.args.number = rw is c.if-found-number-2.true in
    record {
      below = below_middle _ _ c.args.rows.now c.requires.1 c.args.number middle l less;
      above = c.loop-low.invariant.above;
      within = c.loop-low.invariant.within;
      ordered = omega arith;
    }

pub loop-low-preserved : goal.loop-low-preserved
loop-low-preserved g c =
    let middle = c.loop-low.low + (c.loop-low.high - c.loop-low.low) / 2 in
    let l : middle < length c.args.rows.now = omega arith in
    let is = number_at_or c.args.rows.now middle c.index-rows-middle.result l in
    let more : c.args.number < number_at c.args.rows.now middle = grind (arith, is, c.if-found-number.false, c.if-found-number-2.false) in
    record {
      below = c.loop-low.invariant.below;
      above = above_middle _ _ c.args.rows.now c.requires.1 c.args.number middle l more;
      within = omega arith;
      ordered = omega arith;
    }
