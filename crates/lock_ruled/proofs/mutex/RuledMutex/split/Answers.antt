use Rattle.std.proofs.Common.{rules, ap, sym, subst}
use Rattle.lock_ruled.specs.Ruled.{UserState, Splits}
use Rattle.lock_ruled.proofs.Keeps.{splits}
use Rattle.lock_ruled.proofs.mutex.RuledMutex.split.Goals as goal

pub split_seat-other-requires : goal.split_seat-other-requires
split_seat-other-requires g c =
    let view = ap (λ (u : UserState g.row.V.Denot). u.view) c.user.view_is in
    let left = g.M.Split.left in
    let right = g.M.Split.right in
    let rule = subst (λ (v : g.row.V.Denot). Splits g.P.MutexRule.rule v (left v) (right v)) (sym view) c.requires.rule in
    (search rules, search rules, splits g.P.MutexRule.rule _ _ left right c.user.invariant.1 (search rules) rule)
