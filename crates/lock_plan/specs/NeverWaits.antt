-- Parties that never wait: a party goes on at once from each place to which it comes, whatever the other rows do.
use Rattle.std.specs.Prelude.{ℕ, ◌+◌, Bool, true, false, not, ◌&&◌, ◌||◌, ◌==◌, if◌then◌else◌, List, [], ◌∷◌, length, Option, Some, None, Result, Ok, Err}
use Rattle.std.specs.List.{list_any}
use Rattle.std.proofs.Common.{get_or}
use Rattle.lock_modes.specs.declared.hold.Hold.{Hold}
use Rattle.lock_modes.specs.Holds.{no_hold}
use Rattle.lock_plan.specs.declared.call.PlanCall.{PlanCall}
use Rattle.lock_plan.specs.declared.lock.PlanLock.{PlanLock}
use Rattle.lock_plan.specs.declared.program.Act.{Act}
use Rattle.lock_plan.specs.declared.program.Act.TheVariants.{Call, Try, Choose, Signal}
use Rattle.lock_plan.specs.declared.program.ProgramPlace.{ProgramPlace}
use Rattle.lock_plan.specs.declared.program.Signal.{Signal as PlanSignal}
use Rattle.lock_plan.specs.declared.program.Signal.TheVariants.{Idle, Sleep, Start, Join, Add, Take, Set, AssertAtLeast, NotifyOne, NotifyAll}
use Rattle.lock_plan.specs.declared.turn.LockHolds.{LockHolds}
use Rattle.lock_plan.specs.Holds.{turn_on}
use Rattle.lock_plan.specs.Known.{PlaceFault, Known, known_of}
use Rattle.lock_plan.specs.Releases.{always_goes}
use Rattle.lock_plan.specs.Worlds.{no_lock, act_in, is_goes, some_below}

-- whether an act calls the lock, or tries it
abbrev pub calls_lock : ℕ → Act → Bool
calls_lock lock (Call call) = call.lock == lock
calls_lock lock (Try call) = call.lock == lock
calls_lock lock (Choose block) = false
calls_lock lock (Signal signal) = false

-- whether some act of a program calls the lock, or tries it
abbrev pub uses : ℕ → List ProgramPlace → Bool
uses lock program = list_any (λ place. calls_lock lock place.act) program

-- whether some row other than the party uses the lock
abbrev pub others_use : List (List ProgramPlace) → ℕ → ℕ → Bool
others_use programs party lock = some_below (λ row. not (row == party) && uses lock (get_or programs row [])) (length programs)

-- what a lock looks like to a party with this hold, if no other one uses the lock
abbrev pub held_alone : ℕ → Hold → LockHolds
held_alone party own =
    record { all = own.bag; bar = if own.announced then Some party else None; own = own; party = party }

-- whether a party with this hold goes on at once from a call: it is admitted whatever is held, or no other row uses its lock,
-- which admits it next to the hold
abbrev pub call_never_waits : List PlanLock → List (List ProgramPlace) → ℕ → Hold → PlanCall → Bool
call_never_waits locks programs party own call =
    always_goes call.step
    || (not (others_use programs party call.lock)
    && is_goes (Some (turn_on (get_or locks call.lock no_lock) (held_alone party own) call.step)))

-- whether a signal goes on at once, wherever the other rows are
abbrev pub signal_never_waits : PlanSignal → Bool
signal_never_waits (Idle value) = false
signal_never_waits (Sleep cond) = false
signal_never_waits (Start row) = true
signal_never_waits (Join row) = false
signal_never_waits (Add row most) = false
signal_never_waits (Take row) = false
signal_never_waits (Set row place) = true
signal_never_waits (AssertAtLeast row number value) = false
signal_never_waits (NotifyOne cond) = true
signal_never_waits (NotifyAll cond) = true

-- whether a party with these holds has an act, and goes on from it at once. A try and a choice never wait
abbrev pub act_never_waits : List PlanLock → List (List ProgramPlace) → ℕ → List Hold → Option Act → Bool
act_never_waits locks programs party holds None = false
act_never_waits locks programs party holds (Some (Call call)) =
    call_never_waits locks programs party (get_or holds call.lock no_hold) call
act_never_waits locks programs party holds (Some (Try call)) = true
act_never_waits locks programs party holds (Some (Choose block)) = true
act_never_waits locks programs party holds (Some (Signal signal)) = signal_never_waits signal

-- the same at a place where the party has these holds, if it comes there
abbrev pub place_never_waits : List PlanLock → List (List ProgramPlace) → ℕ → Option Act → Option (List Hold) → Bool
place_never_waits locks programs party here None = true
place_never_waits locks programs party here (Some holds) = act_never_waits locks programs party holds here

-- at each place from `place` on
abbrev pub places_never_wait : List PlanLock → List (List ProgramPlace) → ℕ → List ProgramPlace → ℕ → Known → Bool
places_never_wait locks programs party program place [] = true
places_never_wait locks programs party program place (held ∷ known) =
    place_never_waits locks programs party (act_in program place) held
    && places_never_wait locks programs party program (place + 1) known

abbrev pub never_waits_by : List PlanLock → List (List ProgramPlace) → ℕ → List ProgramPlace → Result Known PlaceFault → Bool
never_waits_by locks programs party program (Ok known) = places_never_wait locks programs party program 0 known
never_waits_by locks programs party program (Err fault) = false

-- whether a party never waits: at each place to which it comes, it has an act from which it goes on at once. At its end it
-- has none, so it never comes there
abbrev pub never_waits : List PlanLock → List (List ProgramPlace) → ℕ → Bool
never_waits locks programs party =
    let program = get_or programs party [] in
    never_waits_by locks programs party program (known_of locks program)
