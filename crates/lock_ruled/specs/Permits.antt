-- A holder after it acquired or released permits.
use Rattle.std.specs.Prelude.{ℕ, ◌+◌, ◌-◌, ◌<◌, ◌≤◌}
use Rattle.lock_ruled.specs.Ruled.{UserState}
use Rattle.lock_ruled.specs.declared.ledger.Share.{Share}

abbrev pub with_more : UserState Share → ℕ → UserState Share
with_more holder permits = record holder { view = record holder.view { own = holder.view.own + permits } }

abbrev pub with_fewer : UserState Share → ℕ → UserState Share
with_fewer holder permits = record holder { view = record holder.view { own = holder.view.own - permits } }

-- a holder, and the number of its permits that its lease releases
pub record Leased : Type 0 where
  pub holder : UserState Share
  pub permits : ℕ

-- of some number of free permits that the holder may find: it is less than this
abbrev pub HasFew : UserState Share → ℕ → Type 0
HasFew holder permits = (free : ℕ) × (free + holder.view.own ≤ holder.view.all) × (free < permits)
