-- The kinds of the makers of scripts.
use Rattle.std.specs.Prelude.{◌≡◌, ◌⊎◌}
use Rattle.lock_modes.specs.declared.kind.Kind.{Kind}
use Rattle.lock_modes.specs.declared.fault.Fault.{Fault}
use Rattle.lock_modes.specs.declared.fault.Fault.TheVariants.{WrongKind}
use Rattle.lock_modes.specs.Limits.{IsMakerFault}
use Rattle.lock_script.specs.declared.maker.Maker.{Maker}

-- the kind of the lock that is made
abbrev pub kind_of : Maker → Kind
kind_of (Maker.Mutex places pair) = Kind.Mutex
kind_of (Maker.RwLock places readers pair) = Kind.RwLock
kind_of (Maker.Reentrant places levels pair) = Kind.Reentrant

-- the faults of a run: a maker of another kind, a limit out of range, or no memory
abbrev pub IsRunFault : Fault → Type 0
IsRunFault fault = (fault ≡ WrongKind) ⊎ IsMakerFault fault
