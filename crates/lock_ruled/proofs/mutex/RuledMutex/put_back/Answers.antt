use Rattle.std.proofs.Common.{rules, ap, sym, subst, ◌∙◌, ◌<◌}
use Rattle.lock_ruled.specs.declared.rule.UserView.{UserView}
use Rattle.lock_ruled.specs.Ruled.{Taken, Keeps}
use Rattle.lock_ruled.specs.Plays.{Self}
use Rattle.lock_ruled.specs.Slots.{taken_value}
use Rattle.lock_ruled.proofs.Keeps.{gives_value, refilled}
use Rattle.lock_ruled.proofs.mutex.RuledMutex.put_back.Goals as goal

pub swap-found-requires : goal.swap-found-requires
swap-found-requires g c =
    let rule = g.P.MutexRule.rule in
    let next = g.M.ViewUpdate.next in
    let value = c.guard.inside.value in
    let taken = taken_value c.guard.inside.seat.me.0.stage value in
    let is = ap (λ (m : Self g.row.T.Denot g.row.V.Denot). m.0) c.exchange.ensures.3 in
    let out = refilled _ _ value c.exchange.ensures.3 c.guard.invariant.0 c.guard.invariant.1 in
    let turn = subst (λ (t : Taken g.row.T.Denot g.row.V.Denot). Keeps rule t.taken t.user.view t.value
    (next t.taken t.user.view t.value)) (sym c.guard.view_is) c.requires.rule in (
      search rules,
      search rules,
      gives_value rule _ _ _ next taken value out (search rules)
          (subst (λ (u : UserView g.row.T.Denot g.row.V.Denot). Keeps rule taken u.own value (next taken u.own value)) (sym is) turn),
    )

pub returns-clause-seat : goal.returns-clause-seat
returns-clause-seat g c =
    let value = c.guard.inside.value in
    let taken = taken_value c.guard.inside.seat.me.0.stage value in
    let out = refilled _ _ value c.exchange.ensures.3 c.guard.invariant.0 c.guard.invariant.1 in
    let after = c.swap-found.ensures.2 taken value out in
    let mutex = ap (λ (t : Taken g.row.T.Denot g.row.V.Denot). t.user.mutex) c.guard.view_is in (
      c.swap-found.ensures.0 ∙ c.exchange.ensures.0 ∙ mutex ∙ c.requires.mutex,
      ap (λ (m : Self g.row.T.Denot g.row.V.Denot). m.1) after,
    )

pub returns-clause-parts : goal.returns-clause-parts
returns-clause-parts g c =
    let value = c.guard.inside.value in
    let taken = taken_value c.guard.inside.seat.me.0.stage value in
    let out = refilled _ _ value c.exchange.ensures.3 c.guard.invariant.0 c.guard.invariant.1 in
    let after = c.swap-found.ensures.2 taken value out in
    let parts = ap (λ (t : Taken g.row.T.Denot g.row.V.Denot). t.user.parts) c.guard.view_is in (
      ap (λ (m : Self g.row.T.Denot g.row.V.Denot). m.0.parts) after
          ∙ ap (λ (m : Self g.row.T.Denot g.row.V.Denot). m.0.parts) c.exchange.ensures.3 ∙ parts,
      subst (λ n. 0 < n) parts c.guard.invariant.2,
    )

pub returns-clause-view : goal.returns-clause-view
returns-clause-view g c =
    let next = g.M.ViewUpdate.next in
    let value = c.guard.inside.value in
    let taken = taken_value c.guard.inside.seat.me.0.stage value in
    let out = refilled _ _ value c.exchange.ensures.3 c.guard.invariant.0 c.guard.invariant.1 in
    let after = c.swap-found.ensures.2 taken value out in
    ap (λ (m : Self g.row.T.Denot g.row.V.Denot). m.0.own) after
    ∙ ap (λ (m : Self g.row.T.Denot g.row.V.Denot). next taken m.0.own value) c.exchange.ensures.3
    ∙ ap (λ (t : Taken g.row.T.Denot g.row.V.Denot). next t.taken t.user.view t.value) c.guard.view_is

pub returns-clause-stage : goal.returns-clause-stage
returns-clause-stage g c =
    let value = c.guard.inside.value in
    let taken = taken_value c.guard.inside.seat.me.0.stage value in
    let out = refilled _ _ value c.exchange.ensures.3 c.guard.invariant.0 c.guard.invariant.1 in
    ap (λ (m : Self g.row.T.Denot g.row.V.Denot). m.0.stage) (c.swap-found.ensures.2 taken value out)
