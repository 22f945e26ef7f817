use Rattle.std.proofs.Common.{refl}
use Rattle.lock_modes.specs.declared.mode.Mode.TheVariants.{Exclusive}
use Rattle.lock_raws_fair.proofs.Passing.{keeps, changed}
use Rattle.lock_raws_fair.proofs.fair_arbiter.FairArbiter.try_upgrade.Goals as goal

pub returns-clause-step : goal.returns-clause-step
returns-clause-step g c =
    let e = c.change.ensures in
    keeps c.self.view_is (record { upgrade_waits = refl; readers = e.limit_kept; line = refl })
    (changed _ _ c.args.held.token c.args.held.mode Exclusive c.change.result e.was_out e.replaced e.refused)
