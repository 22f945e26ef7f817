-- What one party holds of a lock, and what each of its steps needs and does.
use Rattle.std.specs.Prelude.{Bool, true, false, ◌&&◌, not}
use Rattle.lock_modes.specs.declared.mode_step.ModeStep.{ModeStep}
use Rattle.lock_modes.specs.declared.mode_step.ModeStep.TheVariants.{Acquire, Release, Change}
use Rattle.lock_modes.specs.declared.lock_step.LockStep.{LockStep}
use Rattle.lock_modes.specs.declared.lock_step.LockStep.TheVariants.{Modes, Announce, Withdraw}
use Rattle.lock_modes.specs.declared.hold.Hold.{Hold}
use Rattle.lock_modes.specs.Modes.{empty_bag, is_exclusive}
use Rattle.lock_modes.specs.ModeRuns.{has, bag_after}

-- an exclusive acquisition, which clears the bar of the party that acquires
abbrev pub ends_bar : ModeStep → Bool
ends_bar (Acquire mode) = is_exclusive mode
ends_bar (Release mode) = false
ends_bar (Change from to) = false

-- the empty hold
abbrev pub no_hold : Hold
no_hold = record { bag = empty_bag; announced = false }

-- whether the hold has what the step releases, changes or clears
abbrev pub hold_has : Hold → LockStep → Bool
hold_has own (Modes step) = has own.bag step
hold_has own Announce = true
hold_has own Withdraw = own.announced

-- the hold after the step
abbrev pub hold_after : Hold → LockStep → Hold
hold_after own (Modes step) =
    record { bag = bag_after own.bag step; announced = not (ends_bar step) && own.announced }
hold_after own Announce = record own { announced = true }
hold_after own Withdraw = record own { announced = false }
