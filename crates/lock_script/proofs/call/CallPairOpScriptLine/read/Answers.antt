use Rattle.std.proofs.Common.{rules, refl}
use Rattle.lock_script.proofs.LineFields.{number_of_call}
use Rattle.script_text.proofs.NumberTexts.{fields_of-signed}
use Rattle.lock_script.proofs.call.CallPairOpScriptLine.read.Goals as goal

pub returns-in_err-signed-clause-some : goal.returns-in_err-signed-clause-some
returns-in_err-signed-clause-some c =
    rw (
      c.from_residual-in_err-signed.ensures,
      c.in-Some.ensures.more,
      c.in-Some-first_field.ensures.more,
      c.in-Some-first_field-2.ensures.more,
      c.in-Some-first_field-3.ensures.more,
    ) (
      (λ some. cc),
      λ call. c.in_err-signed.ensures.some.1
          (number_of_call c.in-Some.word.now c.in-Some-first_field.id.now c.in-Some-first_field-2.guard.now
          c.in-Some-first_field-3.item.now c.in-Some-first_field-3.number.now call).1,
    )

pub returns-clause-fields : goal.returns-clause-fields
returns-clause-fields c =
    let one = fields_of-signed c.in-Some-first_field-3.number.now (c.in_ok-signed.ensures.some.0 refl) in
    rw (c.in-Some.ensures.more, c.in-Some-first_field.ensures.more, c.in-Some-first_field-2.ensures.more, c.in-Some-first_field-3.ensures.more, one)
    (search rules)

pub returns-clause-some : goal.returns-clause-some
returns-clause-some c =
    let number = c.in_ok-signed.ensures.some.0 refl in
    let one = fields_of-signed c.in-Some-first_field-3.number.now number in
    rw (c.in-Some.ensures.more, c.in-Some-first_field.ensures.more, c.in-Some-first_field-2.ensures.more, c.in-Some-first_field-3.ensures.more, one) (
      (λ some. (
        c.of_number.ensures.words.0 some,
        (
          c.in_ok-party-2.ensures.some.0 refl,
          (c.in_ok-guard.ensures.some.0 refl, (c.in_ok-unsigned-3.ensures.some.0 refl, number)),
        ),
      )),
      λ call. c.of_number.ensures.words.1 call.0,
    )
