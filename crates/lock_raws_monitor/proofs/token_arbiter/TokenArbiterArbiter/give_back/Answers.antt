use Rattle.lock_raws_monitor.proofs.Legal.{given_back_legal}
use Rattle.lock_raws_monitor.proofs.token_arbiter.TokenArbiterArbiter.give_back.Goals as goal

pub invariant_of-self-2 : goal.invariant_of-self-2
invariant_of-self-2 g c =
    let looked = c.out.ensures in
    let back = c.give_back.ensures in
    given_back_legal c.args.mode c.self.invariant looked.tokens_kept looked.capacity_kept looked.limit_kept (looked.out.0 c.if-not-out.false)
    back.removed back.capacity_kept back.limit_kept
