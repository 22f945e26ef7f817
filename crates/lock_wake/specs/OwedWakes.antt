-- Which wake-up is owed at an epoch.
use Rattle.std.specs.Prelude.{ℕ}
use Rattle.lock_wake.specs.declared.owed_wake.Whom.{Whom}
use Rattle.lock_wake.specs.declared.owed_wake.OwedWake.{OwedWake}

-- these threads of those that park on the word
abbrev pub owed : ℕ → Whom → OwedWake
owed word whom = record { word = word; whom = whom }
