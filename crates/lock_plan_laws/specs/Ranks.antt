-- Plans in the order of ranks: each blocking acquisition is above all that the party holds, and a party that ends holds nothing.
use Rattle.std.specs.Prelude.{◌≡◌, ℕ, ◌<◌, Bool, true, false, not, List, [], length, Option, Some, None, Ok, IsTrue}
use Rattle.std.proofs.Common.{get_or}
use Rattle.lock_modes.specs.declared.mode.Mode.{Mode}
use Rattle.lock_modes.specs.declared.mode_step.ModeStep.TheVariants.{Acquire, Release, Change}
use Rattle.lock_modes.specs.declared.lock_step.LockStep.{LockStep}
use Rattle.lock_modes.specs.declared.lock_step.LockStep.TheVariants.{Modes, Announce, Withdraw}
use Rattle.lock_modes.specs.declared.hold.Hold.{Hold}
use Rattle.lock_modes.specs.Modes.{tokens, is_exclusive}
use Rattle.lock_modes.specs.Holds.{no_hold}
use Rattle.lock_modes.specs.Kind.{is_reentrant}
use Rattle.lock_machine.specs.Operation.{Operation}
use Rattle.lock_plan.specs.declared.call.PlanCall.{PlanCall}
use Rattle.lock_plan.specs.declared.lock.PlanLock.{PlanLock}
use Rattle.lock_plan.specs.declared.program.Act.{Act}
use Rattle.lock_plan.specs.declared.program.Act.TheVariants.{Call, Signal}
use Rattle.lock_plan.specs.declared.program.Signal.{Signal as PlanSignal}
use Rattle.lock_plan.specs.declared.program.ProgramPlace.{ProgramPlace}
use Rattle.lock_plan.specs.Checks.{fit_machines}
use Rattle.lock_plan.specs.Circles.{NeverDeadlocks}
use Rattle.lock_plan.specs.Known.{Known, known_at, known_of}
use Rattle.lock_plan.specs.Worlds.{no_lock, act_in}
use Rattle.lock_plan_laws.specs.MachineStops.{MachinesNeverStop}

-- whether a call makes this step without an announcement of its own, and without an upgrade, which waits for other holders
abbrev pub is_ranked_step : LockStep → Bool
is_ranked_step (Modes (Acquire mode)) = true
is_ranked_step (Modes (Release mode)) = true
is_ranked_step (Modes (Change from to)) = not (is_exclusive to)
is_ranked_step Announce = false
is_ranked_step Withdraw = true

-- what an order covers at a place where a party has these holds
pub record IsCovered (holds : List Hold) (here : Option Act) : Type 0 where
  pub ranked : (call : PlanCall) → here ≡ Some (Call call) → is_ranked_step call.step ≡ true
  -- it waits for no other row
  pub no_signal : (signal : PlanSignal) → here ≡ Some (Signal signal) → ⊥
  -- at its end it holds nothing
  pub ended : here ≡ None → (lock : ℕ) → tokens (get_or holds lock no_hold).bag ≡ 0
  pub silent : (lock : ℕ) → (get_or holds lock no_hold).announced ≡ false

-- what a party may do at a place where it has these holds
pub record KeepsOrder (rank : ℕ → ℕ) (holds : List Hold) (here : Option Act) : Type 0 where
  -- it blocks only for a lock that is above all locks that it holds; a try may take any that is not fair
  pub upward : (call : PlanCall) (mode : Mode) → here ≡ Some (Call call) → call.step ≡ Modes (Acquire mode)
      → (lock : ℕ) → 0 < tokens (get_or holds lock no_hold).bag → rank lock < rank call.lock
  pub covered : IsCovered holds here

-- a program that does so at each place
pub record IsOrdered (rank : ℕ → ℕ) (locks : List PlanLock) (program : List ProgramPlace) : Type 0 where
  pub known : Known
  pub is : known_of locks program ≡ Ok known
  pub keeps : (place : ℕ) (holds : List Hold) → known_at known place ≡ Some holds → KeepsOrder rank holds (act_in program place)

-- a plan of machines, none of them reentrant, whose programs do so
pub record IsOrderedPlan (rank : ℕ → ℕ) (locks : List PlanLock) (programs : List (List ProgramPlace)) : Type 0 where
  pub machines : IsTrue (fit_machines locks)
  pub single : (lock : ℕ) → is_reentrant (get_or locks lock no_lock).kind ≡ false
  pub ordered : (party : ℕ) → party < length programs → IsOrdered rank locks (get_or programs party [])

-- no run of such a plan leads into a stop or a circle, and no run of its machines into a stop
abbrev pub OrderedPlansNeverDeadlock : Type 0
OrderedPlansNeverDeadlock = (rank : ℕ → ℕ) (servers : List Bool) (locks : List PlanLock) (programs : List (List ProgramPlace))
    → IsOrderedPlan rank locks programs → NeverDeadlocks servers locks programs

abbrev pub OrderedMachinesNeverStop : {O T A : Type 0} → (O → Operation T A) → Type 0
OrderedMachinesNeverStop meaning = (rank : ℕ → ℕ) (servers : List Bool) (locks : List PlanLock) (programs : List (List ProgramPlace))
    → IsOrderedPlan rank locks programs → MachinesNeverStop meaning servers locks programs
