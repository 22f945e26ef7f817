use Rattle.std.proofs.Common.{refl}
use Rattle.lock_script.proofs.LineFields.{change_of_call, fields_of-change}
use Rattle.lock_script.proofs.world_call.WorldCallScriptLine.read.Goals as goal

pub returns-clause-some : goal.returns-clause-some
returns-clause-some c =
    let word = c.in-Some.word.now in
    let party = c.in-Some-first_field.party.now in
    let change = c.in-Some-first_field.change.now in
    rw (c.in-Some.ensures.more, c.in-Some-first_field.ensures.more) (
      (λ some.
          let found = c.of_change.ensures.words.0 some in
          rw (fields_of-change word change found) (c.in_ok-unsigned-2.ensures.some.0 refl, found)),
      λ call. c.of_change.ensures.words.1 (change_of_call word party change call).1,
    )
