use Rattle.std.proofs.Common.{◌≡◌, false, ◌&&◌, subst}
use Rattle.lock_modes.specs.Modes.{admits}
use Rattle.lock_modes.specs.Bar.{passes_bar}
use Rattle.lock_modes.specs.Tokens.{bag_of_tokens}
use Rattle.lock_raws_monitor.proofs.Legal.{full_admits_none, admitted_legal}
use Rattle.lock_raws_monitor.proofs.token_arbiter.TokenArbiterArbiter.admit_as.Goals as goal

pub returns-then-not-room-clause-admitted : goal.returns-then-not-room-clause-admitted
returns-then-not-room-clause-admitted g c =
    subst (λ t. false ≡ (passes_bar t.bar c.args.is_own c.args.mode && admits t.readers (bag_of_tokens t.tokens_out) c.args.mode)) c.self.view_is
    (full_admits_none c.args.mode c.self.invariant c.room.ensures c.if-not-room.true _)

pub invariant_of-self : goal.invariant_of-self
invariant_of-self g c = let e = c.admit_as.ensures in
    admitted_legal _ c.args.mode c.admit_as.result c.self.invariant e.admitted e.added e.refused e.capacity_kept
    e.limit_kept

pub invariant_of-self-2 : goal.invariant_of-self-2
invariant_of-self-2 g c = let e = c.admit_as.ensures in
    admitted_legal _ c.args.mode c.admit_as.result c.self.invariant e.admitted e.added e.refused e.capacity_kept
    e.limit_kept
