use Rattle.std.proofs.Common.{refl}
use Rattle.lock_raws_fair.proofs.Passing.{keeps, released}
use Rattle.lock_raws_fair.proofs.fair_arbiter.FairArbiter.give_back.Goals as goal

pub returns-clause-step : goal.returns-clause-step
returns-clause-step g c =
    let e = c.give_back.ensures in
    keeps c.self.view_is (record { upgrade_waits = refl; readers = e.limit_kept; line = refl })
    (released _ _ c.args.held.token c.args.held.mode c.give_back.result e.was_out e.removed e.ignored)
