-- What the calls that acquire the value need of a user's seat, and what they leave.
use Rattle.std.specs.Prelude.{◌≡◌, Bool, true, false, List}
use Rattle.std.specs.Prelude as std
use Rattle.atomic_table.specs.Seated.{TableId}
use Rattle.atomic_table.specs.declared.shared.Seat.{Seat}
use Rattle.lock_ruled.specs.declared.rule.UserView.{UserView}
use Rattle.lock_ruled.specs.Plays.{HasAcquired, IsIdle}
pub use Rattle.lock_ruled.specs.Seals.{HeldView}

-- a user found this mutex held
pub record WasHeld (mutex : TableId) : Type 0 where
  pub found : HeldView
  pub here : found.mutex ≡ mutex

module _ {T V : Type 0} where
  -- the seat is at this mutex, and its user holds no value
  pub record MayAcquire (mutex : TableId) (seat : Seat (std.Option T) (UserView T V)) : Type 0 where
    pub at_mutex : seat.table_id ≡ mutex
    pub idle : IsIdle seat.me

  -- the user of the seat acquired the value
  pub record Acquired (rule : T → List V → Type 0) (old new : Seat (std.Option T) (UserView T V)) : Type 0 where
    pub seat : new.table_id ≡ old.table_id
    pub taken : HasAcquired rule old.me new.me

  -- the user of the seat acquired the value, or its view is as before
  pub record MayHaveAcquired (rule : T → List V → Type 0) (acquired : Bool) (old new : Seat (std.Option T) (UserView T V)) : Type 0 where
    pub seat : new.table_id ≡ old.table_id
    pub taken : acquired ≡ true → HasAcquired rule old.me new.me
    pub refused : acquired ≡ false → new.me ≡ old.me
