-- Whether a program keeps the order of ranks, as a test.
use Rattle.std.specs.Prelude.{ℕ, ◌+◌, Bool, true, false, not, ◌&&◌, ◌||◌, ◌==◌, nat_lt, List, [], ◌∷◌, Option, Some, None, Result, Ok, Err}
use Rattle.std.specs.List.{list_all}
use Rattle.lock_modes.specs.declared.mode_step.ModeStep.TheVariants.{Acquire}
use Rattle.lock_modes.specs.declared.lock_step.LockStep.{LockStep}
use Rattle.lock_modes.specs.declared.lock_step.LockStep.TheVariants.{Modes}
use Rattle.lock_modes.specs.declared.hold.Hold.{Hold}
use Rattle.lock_modes.specs.Modes.{tokens}
use Rattle.lock_plan.specs.declared.lock.PlanLock.{PlanLock}
use Rattle.lock_plan.specs.declared.program.Act.{Act}
use Rattle.lock_plan.specs.declared.program.Act.TheVariants.{Call, Try, Choose, Signal}
use Rattle.lock_plan.specs.declared.program.Block.TheVariants.{TimedSleep}
use Rattle.lock_plan.specs.declared.program.ProgramPlace.{ProgramPlace}
use Rattle.lock_plan.specs.Known.{PlaceFault, Known, known_of}
use Rattle.lock_plan.specs.Worlds.{act_in}
use Rattle.lock_plan_laws.specs.Ranks.{is_ranked_step}

-- whether the lock with this hold is not held, or is below the other lock
abbrev pub is_below : (ℕ → ℕ) → ℕ → ℕ → Hold → Bool
is_below rank lock held h = (tokens h.bag == 0) || nat_lt (rank held) (rank lock)

-- whether the lock is above all locks that are held; the holds are those of the locks from `from` on
abbrev pub is_above : (ℕ → ℕ) → ℕ → ℕ → List Hold → Bool
is_above rank lock from [] = true
is_above rank lock from (h ∷ hs) = is_below rank lock from h && is_above rank lock (from + 1) hs

-- whether an order covers the act where its party has these holds: it covers no signal, no sleep, no upgrade and no announcement
abbrev pub covers : List Hold → Option Act → Bool
covers holds None = list_all (λ h. tokens h.bag == 0) holds
covers holds (Some (Call call)) = is_ranked_step call.step
covers holds (Some (Try call)) = true
covers holds (Some (Choose (TimedSleep cond))) = false
covers holds (Some (Choose block)) = true
covers holds (Some (Signal signal)) = false

abbrev pub covers_at : Option Act → Option (List Hold) → Bool
covers_at here None = true
covers_at here (Some holds) = list_all (λ h. not h.announced) holds && covers holds here

-- at the places from `place` on
abbrev pub covers_from : List ProgramPlace → ℕ → Known → Bool
covers_from program place [] = true
covers_from program place (here ∷ known) = covers_at (act_in program place) here && covers_from program (place + 1) known

abbrev pub goes_up : (ℕ → ℕ) → List Hold → ℕ → LockStep → Bool
goes_up rank holds lock (Modes (Acquire mode)) = is_above rank lock 0 holds
goes_up rank holds lock step = true

abbrev pub keeps_order : (ℕ → ℕ) → List Hold → Option Act → Bool
keeps_order rank holds (Some (Call call)) = goes_up rank holds call.lock call.step
keeps_order rank holds here = true

abbrev pub keeps_at : (ℕ → ℕ) → Option Act → Option (List Hold) → Bool
keeps_at rank here None = true
keeps_at rank here (Some holds) = covers_at here (Some holds) && keeps_order rank holds here

-- at the places from `place` on
abbrev pub keeps_from : (ℕ → ℕ) → List ProgramPlace → ℕ → Known → Bool
keeps_from rank program place [] = true
keeps_from rank program place (here ∷ known) =
    keeps_at rank (act_in program place) here && keeps_from rank program (place + 1) known

abbrev pub keeps_known : (ℕ → ℕ) → List ProgramPlace → Result Known PlaceFault → Bool
keeps_known rank program (Ok known) = keeps_from rank program 0 known
keeps_known rank program (Err fault) = false

abbrev pub is_ordered : (ℕ → ℕ) → List PlanLock → List ProgramPlace → Bool
is_ordered rank locks program = keeps_known rank program (known_of locks program)
