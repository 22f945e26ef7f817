use Rattle.std.proofs.Common.{rules, refl}
use Rattle.script_text.specs.Numbers.{IsSigned}
use Rattle.lock_script.proofs.LineFields.{fields_of_two}
use Rattle.script_text.proofs.NumberTexts.{fields_of-signed}
use Rattle.lock_script.proofs.maker.pair.Goals as goal

pub returns-in_err-second-clause-some : goal.returns-in_err-second-clause-some
returns-in_err-second-clause-some c = rw (c.from_residual-in_err-second.ensures, c.in_ok-first.ensures.more) (
  (λ some. cc),
  λ pair. c.in_err-second.ensures.some.1 (fields_of_two IsSigned c.in_ok-first.first.now c.in_ok-first.second.now pair).1,
)

pub returns-clause-some : goal.returns-clause-some
returns-clause-some c =
    let second = c.in_ok-second.ensures.some.0 refl in
    let one = fields_of-signed c.in_ok-first.second.now second in
    rw (c.in_ok-first.ensures.more, one) (λ some. (c.in_ok-first-2.ensures.some.0 refl, second), λ pair. refl)

pub returns-clause-texts : goal.returns-clause-texts
returns-clause-texts c =
    let one = fields_of-signed c.in_ok-first.second.now (c.in_ok-second.ensures.some.0 refl) in
    rw (c.in_ok-first.ensures.more, one) (search rules)
