use Rattle.lock_machine.proofs.TokenRuns.{tokens_held, tokens_once}
use Rattle.lock_machine.proofs.laws.tokens_are_those_held.Goals as goal

pub returns : goal.returns
returns g c = record { held = tokens_held g.O.Op.meaning; once = tokens_once g.O.Op.meaning }
