use Rattle.std.proofs.Common.{refl}
use Rattle.lock_rwlock.proofs.Refused.{same_with_token}
use Rattle.lock_rwlock.proofs.guard.upgradable.RwLockGuard+InMode+Upgradable+R+T.try_upgrade_by.Goals as goal

pub returns-in-Err-clause-lock : goal.returns-in-Err-clause-lock
returns-in-Err-clause-lock g c =
    let parts = c.into_parts-token.ensures in
    same_with_token (λ held. record { held = held }) _ c.args.guard.held parts.lock refl c.in-Err.ensures.back parts.inner
