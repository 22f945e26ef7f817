use Rattle.std.proofs.Common.{refl, ap, sym, subst, ◌∙◌}
use Rattle.lock_ruled.specs.Ruled.{UserState}
use Rattle.lock_ruled.proofs.mutex.RuledMutex.with.Goals as goal

pub unlock_ready-requires-clause-update : goal.unlock_ready-requires-clause-update
unlock_ready-requires-clause-update g c =
    let view = ap (λ (u : UserState g.row.V.Denot). u.view) c.lock-guard.ensures.user in
    let taken = c.lock-guard.result.taken in
    let value = c.f-answer.new.arg2 in
    subst (λ (v : g.row.V.Denot). g.P.ReadyRule.updates taken v value (g.M.ViewUpdate.next taken v value)) (sym view)
    (c.requires.update taken c.f-answer.result value c.lock-guard.ensures.met record {
      shown = c.deref_mut.result;
      shows = c.deref_mut.ensures.value ∙ c.lock-guard.ensures.value;
      left = _;
      met = c.f-answer.ensures;
      leaves = refl;
    })

pub returns : goal.returns
returns g c =
    let taken = c.lock-guard.result.taken in
    let value = c.f-answer.new.arg2 in (
      taken,
      value,
      c.lock-guard.ensures.met,
      record {
        shown = c.deref_mut.result;
        shows = c.deref_mut.ensures.value ∙ c.lock-guard.ensures.value;
        left = _;
        met = c.f-answer.ensures;
        leaves = refl;
      },
      c.unlock_ready.ensures
          ∙ ap (λ (u : UserState g.row.V.Denot). record u { view = g.M.ViewUpdate.next taken u.view value }) c.lock-guard.ensures.user,
    )
