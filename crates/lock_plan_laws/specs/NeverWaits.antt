-- Parties that never wait have a step in each world.
use Rattle.std.specs.Prelude.{◌≡◌, ℕ, true, List}
use Rattle.lock_plan.specs.declared.lock.PlanLock.{PlanLock}
use Rattle.lock_plan.specs.declared.program.ProgramPlace.{ProgramPlace}
use Rattle.lock_plan.specs.NeverWaits.{never_waits}
use Rattle.lock_plan.specs.Worlds.{Stand, goes_on, IsReachableWorld}

-- in each world to which some interleaving leads, a party that never waits has a step, and waits behind nobody
abbrev pub NeverWaitingPartiesGoOn : Type 0
NeverWaitingPartiesGoOn = (locks : List PlanLock) (programs : List (List ProgramPlace)) (party : ℕ) (w : List Stand)
    → never_waits locks programs party ≡ true → IsReachableWorld locks programs w → goes_on locks w party ≡ true
