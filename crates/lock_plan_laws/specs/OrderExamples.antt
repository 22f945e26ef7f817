-- Examples: two mutexes, and programs that keep the order of ranks or do not.
use Rattle.std.specs.Prelude.{◌≡◌, ℕ, true, false, List, [], ◌∷◌, replicate, Some}
use Rattle.lock_modes.specs.declared.kind.Kind.TheVariants as kind
use Rattle.lock_modes.specs.declared.mode.Mode.TheVariants.{Exclusive}
use Rattle.lock_modes.specs.declared.mode_step.ModeStep.TheVariants.{Acquire, Release}
use Rattle.lock_modes.specs.declared.lock_step.LockStep.{LockStep}
use Rattle.lock_modes.specs.declared.lock_step.LockStep.TheVariants.{Modes}
use Rattle.lock_plan.specs.declared.lock.PlanLock.{PlanLock}
use Rattle.lock_plan.specs.declared.program.Act.TheVariants.{Call}
use Rattle.lock_plan.specs.declared.program.ProgramPlace.{ProgramPlace}
use Rattle.lock_plan.specs.declared.program.Step.{Step}
use Rattle.lock_plan.specs.Circles.{NeverDeadlocks}
use Rattle.lock_plan.specs.Worlds.{Stand, first_world, world_after, is_stop}
use Rattle.lock_plan_laws.specs.OrderChecks.{is_ordered}

abbrev pub mutex : PlanLock
mutex = record { kind = kind.Mutex; limit = 1; bar = false; fair = false }

abbrev pub two_mutexes : List PlanLock
two_mutexes = mutex ∷ mutex ∷ []

abbrev pub place : ℕ → LockStep → ℕ → ProgramPlace
place lock step next = record { act = Call (record { lock = lock; step = step }); next = next; other = 0 }

-- it acquires both mutexes, `first` first, and releases both
abbrev pub both_from : ℕ → ℕ → List ProgramPlace
both_from first second =
    place first (Modes (Acquire Exclusive)) 1
    ∷ place second (Modes (Acquire Exclusive)) 2
    ∷ place first (Modes (Release Exclusive)) 3
    ∷ place second (Modes (Release Exclusive)) 4 ∷ []

-- it acquires the first mutex, and ends
abbrev pub keeps_one : List ProgramPlace
keeps_one = place 0 (Modes (Acquire Exclusive)) 1 ∷ []

abbrev pub step_of : ℕ → Step
step_of party = record { party = party; way = 0 }

-- the steps of these parties lead into a stop
abbrev pub Stops : List (List ProgramPlace) → List Step → Type 0
Stops programs steps = (w : List Stand)
    × (world_after two_mutexes (first_world two_mutexes programs) steps ≡ Some w) × (is_stop [] two_mutexes w ≡ true)

-- the rank of a lock is its number; or all ranks are equal
abbrev pub by_number : ℕ → ℕ
by_number lock = lock

abbrev pub all_equal : ℕ → ℕ
all_equal lock = 0

pub record OrderExamples : Type 0 where
  -- any number of parties that acquire in one order never deadlock
  pub any_number : (parties : ℕ) → NeverDeadlocks [] two_mutexes (replicate parties (both_from 0 1))
  -- at equal ranks both orders would pass: the test refuses each, and together they stop
  pub equal_is_refused : is_ordered all_equal two_mutexes (both_from 0 1) ≡ false
  pub both_orders_stop : Stops (both_from 0 1 ∷ both_from 1 0 ∷ []) (step_of 0 ∷ step_of 1 ∷ [])
  -- the test refuses a party that ends holding, and such a party stops another one
  pub kept_is_refused : is_ordered by_number two_mutexes keeps_one ≡ false
  pub kept_lock_stops : Stops (keeps_one ∷ both_from 0 1 ∷ []) (step_of 0 ∷ [])
