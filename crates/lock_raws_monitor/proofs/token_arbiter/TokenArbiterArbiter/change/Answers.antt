use Rattle.lock_raws_monitor.proofs.Legal.{changed_legal}
use Rattle.lock_raws_monitor.proofs.token_arbiter.TokenArbiterArbiter.change.Goals as goal

pub invariant_of-self-2 : goal.invariant_of-self-2
invariant_of-self-2 g c =
    let looked = c.out.ensures in
    let change = c.change.ensures in
    changed_legal c.args.from c.args.to c.change.result c.self.invariant looked.tokens_kept looked.capacity_kept looked.limit_kept
    c.requires (looked.out.0 c.if-not-out.false) change.admitted change.replaced change.refused change.capacity_kept change.limit_kept
