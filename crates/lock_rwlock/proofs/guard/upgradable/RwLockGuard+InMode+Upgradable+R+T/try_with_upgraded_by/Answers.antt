use Rattle.std.proofs.Common.{◌∙◌}
use Rattle.lock_rwlock.proofs.Refused.{same_if_refused}
use Rattle.lock_rwlock.proofs.guard.upgradable.RwLockGuard+InMode+Upgradable+R+T.try_with_upgraded_by.Goals as goal

pub returns-clause-refused : goal.returns-clause-refused
returns-clause-refused g c =
    let settled = c.with_if_upgraded.ensures in
    same_if_refused (λ held. record { held = held }) c.args.self.now.held c.with_if_upgraded.new.inner _ _
    c.with_if_upgraded.result c.make-upgraded.result (c.into_parts-token.ensures ∙ c.take.ensures.taken)
    settled.called c.make-upgraded.ensures.back settled.refused
