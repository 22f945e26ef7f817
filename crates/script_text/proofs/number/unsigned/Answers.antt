use Rattle.script_text.proofs.NumberTexts.{HasForm-number, IsUnsigned-read, decimal-read}
use Rattle.script_text.proofs.number.unsigned.Goals as goal

pub returns-then-not-has_form-clause-some : goal.returns-then-not-has_form-clause-some
returns-then-not-has_form-clause-some c =
    ((λ some. cc), λ found. c.if-not-has_form.ensures.1 (HasForm-number c.args.field.now found))

pub returns-clause-text : goal.returns-clause-text
returns-clause-text c = rw c.ok.ensures.value
    (decimal-read c.args.field.now c.parse.result c.parse.ensures.value.0 (c.has_form.ensures.0 c.if-not-has_form.false))

pub returns-clause-some : goal.returns-clause-some
returns-clause-some c = rw c.ok.ensures.value
    (IsUnsigned-read c.args.field.now c.parse.result c.parse.ensures.value.0 (c.has_form.ensures.0 c.if-not-has_form.false))
