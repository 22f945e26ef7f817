use Rattle.std.proofs.Common.{◌∙◌, arith, sym}
use Rattle.lock_plan.proofs.NeverWaits.{known_item, call_within, tokens_few}
use Rattle.lock_plan.proofs.plan.Plan.places_never_wait.Goals as goal

pub place_never_waits-requires-clause-within : goal.place_never_waits-requires-clause-within
place_never_waits-requires-clause-within c holds call e here =
    let known = c.args.known.now in
    call_within c.args.self.now.locks.items c.args.program.now known c.requires.known c.loop-held.place holds
    (known_item known c.loop-held.held-index c.loop-held.place c.held-item.result holds c.loop-held.invariant.at c.held-item.is c.loop-held-test.true e)
    call (sym c.act_in.ensures ∙ here)

pub place_never_waits-requires-clause-few : goal.place_never_waits-requires-clause-few
place_never_waits-requires-clause-few c holds lock e =
    let known = c.args.known.now in
    omega (
      arith,
      tokens_few c.args.self.now.locks.items c.args.program.now known c.requires.known c.loop-held.place holds
          (known_item known c.loop-held.held-index c.loop-held.place c.held-item.result holds c.loop-held.invariant.at c.held-item.is c.loop-held-test.true e) lock,
    )
