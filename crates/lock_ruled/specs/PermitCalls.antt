-- What contracts see of the calls of a semaphore.
use Rattle.std.specs.Prelude.{◌≡◌, ℕ, ◌<◌}
use Rattle.lock_ruled.specs.Accounts.{SemaphoreView}
pub use Rattle.lock_ruled.specs.Seals.{PermitCallView}

module _ {K : Type 0} where
  -- a step left the call for the same permits of the same semaphore, and what it keeps
  pub record IsSameCall (old new : PermitCallView K) : Type 0 where
    pub semaphore : new.semaphore ≡ old.semaphore
    pub permits : new.permits ≡ old.permits
    pub kept : new.kept ≡ old.kept

  -- the call took no permits, and its last step found fewer free than it wants
  pub record IsRefused (call : PermitCallView K) : Type 0 where
    pub own : call.own ≡ 0
    pub few : call.free < call.permits

-- a call for so many permits of this semaphore was refused
pub record WasRefused (semaphore : SemaphoreView) (permits : ℕ) : Type 0 where
  pub call : PermitCallView (Unit {0})
  pub same_semaphore : call.semaphore ≡ semaphore
  pub same_permits : call.permits ≡ permits
  pub refused : IsRefused call
