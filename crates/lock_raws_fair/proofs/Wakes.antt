-- No mode that fits anew is missed.
use Rattle.std.proofs.Common.{◌≡◌, ℕ, Bool, true, false, ◌||◌, refl}
use Rattle.lock_modes.specs.declared.mode.Mode.TheVariants.{Shared, Exclusive, Upgradable}
use Rattle.lock_modes.specs.declared.bag.Bag.{Bag}
use Rattle.lock_modes.specs.declared.mode.Mode.{Mode}
use Rattle.lock_word.specs.Unblocking.{occupancy, newly_may_proceed}
use Rattle.lock_raws_fair.specs.FairState.{fits}
use Rattle.lock_raws_fair.specs.FairWaking.{wakes_first}

second : (a b c : Bool) → b ≡ true → (a || (b || c)) ≡ true
second true b c is = refl
second false b c is = rw is refl

third : (a b c d : Bool) → c ≡ true → (a || (b || (c || d))) ≡ true
third true b c d is = refl
third false true c d is = refl
third false false c d is = rw is refl

newly : (limit : ℕ) (before after : Bag) (mode : Mode) → fits false limit before mode ≡ false → fits false limit after mode ≡ true
    → newly_may_proceed limit (occupancy false before) (occupancy false after) mode ≡ true
newly limit before after mode was is = rw (was, is) refl

pub wakes_miss_nobody_law : (mode : Mode) (limit : ℕ) (before after : Bag) → fits false limit before mode ≡ false → fits false limit after mode ≡ true
    → wakes_first false limit before after ≡ true
wakes_miss_nobody_law Shared limit before after was is = rw (newly limit before after Shared was is) refl
wakes_miss_nobody_law Exclusive limit before after was is =
    second (newly_may_proceed limit (occupancy false before) (occupancy false after) Shared) _ _ (newly limit before after Exclusive was is)
wakes_miss_nobody_law Upgradable limit before after was is =
    third (newly_may_proceed limit (occupancy false before) (occupancy false after) Shared)
    (newly_may_proceed limit (occupancy false before) (occupancy false after) Exclusive) _ _ (newly limit before after Upgradable was is)
