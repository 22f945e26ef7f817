use Rattle.std.proofs.Common.{ap, subst, ◌∙◌, [], ◌∷◌}
use Rattle.lock_ruled.specs.Ruled.{UserState}
use Rattle.lock_ruled.proofs.Keeps.{closes}
use Rattle.lock_ruled.proofs.mutex.RuledMutex.into_inner.Goals as goal

pub unreachable-requires : goal.unreachable-requires
unreachable-requires g c =
    let whole = ap (λ (u : UserState g.row.V.Denot). u.parts) c.user.view_is ∙ c.requires.alone in
    (closes g.P.MutexRule.rule _ _ _ _ c.user.invariant.1 whole c.close_with-closed.ensures.values.2 _ c.take-slot.ensures.value).0 c.in-None.is

pub returns : goal.returns
returns g c =
    let rule = g.P.MutexRule.rule in
    let whole = ap (λ (u : UserState g.row.V.Denot). u.parts) c.user.view_is ∙ c.requires.alone in
    let view = ap (λ (u : UserState g.row.V.Denot). u.view) c.user.view_is in
    let last = closes rule _ _ _ _ c.user.invariant.1 whole c.close_with-closed.ensures.values.2 _ c.take-slot.ensures.value in
    subst (λ (v : g.row.V.Denot). rule c.in-Some.value (v ∷ [])) view (last.1 c.in-Some.value c.in-Some.is)
