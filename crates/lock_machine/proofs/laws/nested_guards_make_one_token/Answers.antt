use Rattle.lock_machine.proofs.OneToken.{one_token, nested_bump}
use Rattle.lock_machine.proofs.laws.nested_guards_make_one_token.Goals as goal

pub returns : goal.returns
returns g c = record { one_token = one_token g.O.Op.meaning; nested_bumps = nested_bump g.O.Op.meaning }
