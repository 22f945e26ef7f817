-- The three modes: which is admitted next to those held, which are compatible, and which may change to which.
use Rattle.std.specs.Prelude.{◌≡◌, ℕ, ◌+◌, ◌-◌, ◌<◌, ◌≤◌, Bool, true, false, ◌&&◌, ◌==◌, nat_lt, List, [], ◌∷◌}
use Rattle.lock_modes.specs.declared.mode.Mode.{Mode}
use Rattle.lock_modes.specs.declared.mode.Mode.TheVariants.{Shared, Exclusive, Upgradable}
use Rattle.lock_modes.specs.declared.bag.Bag.{Bag}

abbrev pub is_shared : Mode → Bool
is_shared Shared = true
is_shared Exclusive = false
is_shared Upgradable = false

abbrev pub is_exclusive : Mode → Bool
is_exclusive Shared = false
is_exclusive Exclusive = true
is_exclusive Upgradable = false

abbrev pub is_upgradable : Mode → Bool
is_upgradable Shared = false
is_upgradable Exclusive = false
is_upgradable Upgradable = true

-- nothing is held
abbrev pub empty_bag : Bag
empty_bag = record { shared = 0; exclusive = 0; upgradable = 0 }

-- how many read: the shared holders and the upgradable one
abbrev pub readers : Bag → ℕ
readers b = b.shared + b.upgradable

-- how many are held, of all modes
abbrev pub tokens : Bag → ℕ
tokens b = b.shared + b.exclusive + b.upgradable

abbrev pub count_of : Bag → Mode → ℕ
count_of b Shared = b.shared
count_of b Exclusive = b.exclusive
count_of b Upgradable = b.upgradable

abbrev pub one_more : Bag → Mode → Bag
one_more b Shared = record b { shared = b.shared + 1 }
one_more b Exclusive = record b { exclusive = b.exclusive + 1 }
one_more b Upgradable = record b { upgradable = b.upgradable + 1 }

abbrev pub one_less : Bag → Mode → Bag
one_less b Shared = record b { shared = b.shared - 1 }
one_less b Exclusive = record b { exclusive = b.exclusive - 1 }
one_less b Upgradable = record b { upgradable = b.upgradable - 1 }

-- the bag of a list of modes
abbrev pub bag_of : List Mode → Bag
bag_of [] = empty_bag
bag_of (mode ∷ modes) = one_more (bag_of modes) mode

-- whether the mode is admitted next to those held, of which at most `limit` may read
abbrev pub admits : ℕ → Bag → Mode → Bool
admits limit b Shared = (b.exclusive == 0) && nat_lt (readers b) limit
admits limit b Exclusive = tokens b == 0
admits limit b Upgradable = (b.exclusive == 0) && ((b.upgradable == 0) && nat_lt (readers b) limit)

-- the four changes of mode: upgrade, and three downgrades
abbrev pub is_move : Mode → Mode → Bool
is_move Upgradable Exclusive = true
is_move Exclusive Shared = true
is_move Exclusive Upgradable = true
is_move Upgradable Shared = true
is_move Upgradable Upgradable = false
is_move Exclusive Exclusive = false
is_move Shared Shared = false
is_move Shared Exclusive = false
is_move Shared Upgradable = false

-- whether a holder may change to this mode now: an upgrade needs it to be the only holder
abbrev pub may_become : Bag → Mode → Bool
may_become b Exclusive = tokens b == 1
may_become b Shared = true
may_become b Upgradable = true

-- an exclusive holder is alone, at most one is upgradable, and the readers are within the limit
pub record AreCompatible (limit : ℕ) (b : Bag) : Type 0 where
  pub alone : 0 < b.exclusive → tokens b ≡ 1
  pub one_upgradable : b.upgradable ≤ 1
  pub within : readers b ≤ limit
