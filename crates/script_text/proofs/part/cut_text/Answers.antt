use Rattle.std.proofs.Common.{arith}
use Rattle.std.proofs.lemmas.Grind.{common_steps}
use Rattle.script_text.proofs.Cuts.{after_byte, before_byte}
use Rattle.script_text.proofs.Lines.{lines_of-at}
use Rattle.script_text.proofs.part.cut_text.Goals as goal

pub range-requires-clause-end_boundary : goal.range-requires-clause-end_boundary
range-requires-clause-end_boundary c = before_byte 10 c.args.text.now c.args.at (omega arith) c.requires

pub range_from-requires : goal.range_from-requires
range_from-requires c = λ positive. after_byte 10 c.args.text.now c.args.at (omega arith) c.utf8.text c.requires

pub returns-clause-lines : goal.returns-clause-lines
returns-clause-lines c =
    let lines = lines_of-at c.args.text.now c.args.at c.requires in
    grind (arith, common_steps, lines, c.range.ensures.value, c.range_from.ensures.value)
