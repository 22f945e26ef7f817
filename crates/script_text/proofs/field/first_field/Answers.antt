use Rattle.std.proofs.Common.{sym, ◌∙◌, arith}
use Rattle.std.proofs.lemmas.Grind.{common_steps}
use Rattle.script_text.proofs.Cuts.{after_byte, before_byte}
use Rattle.script_text.proofs.FirstFields.{fields_of-at, fields_of-none}
use Rattle.script_text.proofs.field.first_field.Goals as goal

pub returns-in_err-at-clause-one : goal.returns-in_err-at-clause-one
returns-in_err-at-clause-one c =
    rw c.from_residual.ensures (fields_of-none c.args.line.now (sym c.space.ensures.place ∙ c.in_err-at.was))

pub range-requires-clause-end_boundary : goal.range-requires-clause-end_boundary
range-requires-clause-end_boundary c = before_byte 32 c.args.line.now c.in_ok-at.at (omega arith) (sym c.space.ensures.place ∙ c.in_ok-at.was)

pub range_from-requires : goal.range_from-requires
range_from-requires c =
    λ positive. after_byte 32 c.args.line.now c.in_ok-at.at (omega arith) c.utf8.line (sym c.space.ensures.place ∙ c.in_ok-at.was)

pub returns-clause-more : goal.returns-clause-more
returns-clause-more c =
    let fields = fields_of-at c.args.line.now c.in_ok-at.at (sym c.space.ensures.place ∙ c.in_ok-at.was) in
    grind (arith, common_steps, fields, c.range.ensures.value, c.range_from.ensures.value)
