use Rattle.script_text.proofs.NumberTexts.{HasSignedForm-number, IsSigned-read, signed_decimal-read}
use Rattle.script_text.proofs.number.signed.Goals as goal

pub returns-then-not-has_signed_form-clause-some : goal.returns-then-not-has_signed_form-clause-some
returns-then-not-has_signed_form-clause-some c =
    ((λ some. cc), λ found. c.if-not-has_signed_form.ensures.1 (HasSignedForm-number c.args.field.now found))

pub returns-clause-text : goal.returns-clause-text
returns-clause-text c = rw c.ok.ensures.value
    (signed_decimal-read c.args.field.now c.parse.result c.parse.ensures.value.0 (c.has_signed_form.ensures.0 c.if-not-has_signed_form.false))

pub returns-clause-some : goal.returns-clause-some
returns-clause-some c = rw c.ok.ensures.value
    (IsSigned-read c.args.field.now c.parse.result c.parse.ensures.value.0 (c.has_signed_form.ensures.0 c.if-not-has_signed_form.false))
