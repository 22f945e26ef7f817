-- A closure that runs on the value of a mutex, while it holds the mutex.
use Rattle.std.specs.Prelude.{◌≡◌, List}
use Rattle.std.specs.Borrow.{MutBor}
use Rattle.std.specs.Fn.{Once, FnOnceReturnsAtMut}
use Rattle.lock_ruled.specs.Ruled.{UserState, Meets}

module _ {T V U F : Type 0} where
  -- whatever value the closure finds and leaves, the user may change the value and its view so
  abbrev pub KeepsWith : (T → List V → Type 0) → (T → V → T → V → Type 0) → (T → V → T → V)
      → Once F (MutBor T × Unit {0}) (U × (MutBor T × Unit {0})) → F → V → Type 0
  KeepsWith rule updates next calls f view =
      (taken : T) (answer : U) (value : T) → Meets rule taken view → FnOnceReturnsAtMut calls f taken answer value
      → updates taken view value (next taken view value)

  -- the closure gave this answer of a value of which the rule holds, and the user knows what it left
  abbrev pub RanWith : (T → List V → Type 0) → (T → V → T → V)
      → Once F (MutBor T × Unit {0}) (U × (MutBor T × Unit {0})) → F → UserState V → UserState V × U → Type 0
  RanWith rule next calls f user after =
      (taken : T) × (value : T) × Meets rule taken user.view × FnOnceReturnsAtMut calls f taken after.1 value
      × (after.0 ≡ record user { view = next taken user.view value })
