use Rattle.std.proofs.Common.{◌<◌, length, arith, ◌∙◌}
use Rattle.lock_slots.proofs.Rising.{number_at-get}
use Rattle.lock_slots.proofs.numbered_slots.row_of.Goals as goal

pub returns-then-index-number : goal.returns-then-index-number
returns-then-index-number g c =
    let inside : c.args.guess < length c.args.rows.now.items = omega arith in
    record {
      inside = inside;
      number_is = number_at-get c.args.rows.now.items c.args.guess c.index.result.now inside c.index.ensures ∙ c.if-index-number.true;
    }
