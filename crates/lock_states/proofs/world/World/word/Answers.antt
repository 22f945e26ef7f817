use Rattle.std.proofs.Common.{sym, ap, subst}
use Rattle.lock_word.specs.Worlds.{WorldState, IsReachable}
use Rattle.lock_word.specs.Claims.{BarIsOfOne}
use Rattle.lock_word.proofs.Bars.{bar_of_reached}
use Rattle.lock_states.proofs.world.World.word.Goals as goal

pub returns-clause-bar : goal.returns-clause-bar
returns-clause-bar c =
    let world = c.args.self.now in
    subst (λ n. BarIsOfOne n world.parties) (sym (ap (λ (w : WorldState). w.word) c.self.view_is))
    (bar_of_reached world (subst IsReachable c.self.view_is c.self.invariant))
