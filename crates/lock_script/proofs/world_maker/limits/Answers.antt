use Rattle.std.proofs.Common.{rules, refl}
use Rattle.script_text.specs.Numbers.{IsUnsigned}
use Rattle.lock_script.proofs.LineFields.{fields_of_two}
use Rattle.script_text.proofs.NumberTexts.{fields_of-unsigned}
use Rattle.lock_script.proofs.world_maker.limits.Goals as goal

pub returns-in_err-readers-clause-some : goal.returns-in_err-readers-clause-some
returns-in_err-readers-clause-some c = rw (c.from_residual-in_err-readers.ensures, c.in_ok-parties.ensures.more) (
  (λ some. cc),
  λ limits. c.in_err-readers.ensures.some.1 (fields_of_two IsUnsigned c.in_ok-parties.parties.now c.in_ok-parties.readers.now limits).1,
)

pub returns-clause-some : goal.returns-clause-some
returns-clause-some c =
    let second = c.in_ok-readers.ensures.some.0 refl in
    let one = fields_of-unsigned c.in_ok-parties.readers.now second in
    rw (c.in_ok-parties.ensures.more, one) (λ some. (c.in_ok-parties-2.ensures.some.0 refl, second), λ limits. refl)

pub returns-clause-texts : goal.returns-clause-texts
returns-clause-texts c =
    let one = fields_of-unsigned c.in_ok-parties.readers.now (c.in_ok-readers.ensures.some.0 refl) in
    rw (c.in_ok-parties.ensures.more, one) (search rules)
