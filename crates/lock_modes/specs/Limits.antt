-- The range of limits.
use Rattle.std.specs.Prelude.{◌≡◌, ℕ, ◌<◌, ◌^◌, ◌⊎◌}
use Rattle.lock_modes.specs.declared.fault.Fault.{Fault}
use Rattle.lock_modes.specs.declared.fault.Fault.TheVariants.{BadLimits, OutOfMemory}

-- a limit is from 1 to 2^32 - 1
abbrev pub IsLimit : ℕ → Type 0
IsLimit n = (0 < n) × (n < 2 ^ 32)

-- the faults of a maker: a limit out of range, or no memory
abbrev pub IsMakerFault : Fault → Type 0
IsMakerFault fault = (fault ≡ BadLimits) ⊎ (fault ≡ OutOfMemory)
