-- Bags with bars: what all parties hold together, and what each step needs and does.
use Rattle.std.specs.Prelude.{◌≡◌, ℕ, ◌+◌, ◌-◌, ◌<◌, ◌≤◌, Bool, ◌&&◌, nat_lt, if◌then◌else◌, IsTrue, ⊤}
use Rattle.lock_modes.specs.declared.mode_step.ModeStep.{ModeStep}
use Rattle.lock_modes.specs.declared.mode_step.ModeStep.TheVariants.{Acquire, Release, Change}
use Rattle.lock_modes.specs.declared.bag.Bag.{Bag}
use Rattle.lock_modes.specs.declared.lock_step.LockStep.{LockStep}
use Rattle.lock_modes.specs.declared.lock_step.LockStep.TheVariants.{Modes, Announce, Withdraw}
use Rattle.lock_modes.specs.Modes.{AreCompatible}
use Rattle.lock_modes.specs.ModeRuns.{Permits, bag_after}
use Rattle.lock_modes.specs.Bar.{passes_bar}
use Rattle.lock_modes.specs.Holds.{ends_bar}

-- what all parties hold together, and how many of them have announced themselves
pub record BarredBag : Type 0 where
  pub bag : Bag
  pub bars : ℕ

-- a bag without a bar
abbrev pub without_bars : Bag → BarredBag
without_bars b = record { bag = b; bars = 0 }

abbrev pub bars_of : Bool → ℕ
bars_of announced = if announced then 1 else 0

-- whether a bar is set
abbrev pub is_barred : BarredBag → Bool
is_barred all = nat_lt 0 all.bars

-- the holds are compatible, and at most one bar is set
pub record IsLegalBarredBag (limit : ℕ) (all : BarredBag) : Type 0 where
  pub compatible : AreCompatible limit all.bag
  pub one_bar : all.bars ≤ 1

-- the bars let the step pass: a reader if none is set, a writer if none is set but its own
abbrev pub StepPassesBar : Bool → ℕ → ModeStep → Type 0
StepPassesBar announced bars (Acquire mode) = IsTrue (passes_bar (nat_lt 0 bars) announced mode)
StepPassesBar announced bars (Release mode) = ⊤
StepPassesBar announced bars (Change from to) = ⊤

-- whether what all hold permits the step to a party, which has announced itself or has not
abbrev pub PermitsLockStep : Bool → ℕ → BarredBag → LockStep → Type 0
PermitsLockStep announced limit all (Modes step) = Permits limit all.bag step × StepPassesBar announced all.bars step
PermitsLockStep announced limit all Announce = all.bars ≡ 0
PermitsLockStep announced limit all Withdraw = 0 < all.bars

-- what all hold after the step of a party, which had announced itself or had not
abbrev pub barred_after : Bool → BarredBag → LockStep → BarredBag
barred_after announced all (Modes step) =
    record { bag = bag_after all.bag step; bars = all.bars - bars_of (ends_bar step && announced) }
barred_after announced all Announce = record all { bars = all.bars + 1 }
barred_after announced all Withdraw = record all { bars = all.bars - 1 }
