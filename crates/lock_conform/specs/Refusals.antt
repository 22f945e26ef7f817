-- The refusals that no lock is asked for.
use Rattle.std.specs.Prelude.{◌≡◌, ◌≢◌, ℤ}
use Rattle.lock_machine.specs.declared.reply.Reply.{Reply}
use Rattle.lock_modes.specs.declared.fault.Fault.{Fault}
use Rattle.lock_modes.specs.declared.fault.Fault.TheVariants.{WouldWait}

-- the reply refuses the call, and not only because it would block
abbrev pub IsOutright : Reply ℤ → Type 0
IsOutright reply = (fault : Fault) × ((reply ≡ Reply.Refused fault) × (fault ≢ WouldWait))
