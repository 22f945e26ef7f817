-- Plans without a circle of waits. A wait is a blocking acquisition of a party, with what the party holds there. The waits
-- have ranks: each is below all waits that may hold it up.
use Rattle.std.specs.Prelude.{◌≡◌, ◌≢◌, ℕ, zero, suc, ◌+◌, ◌<◌, ◌≤◌, Bool, true, false, not, ◌&&◌, ◌||◌, nat_lt, ◌⊎◌, List, [], length, Some, Ok, IsTrue}
use Rattle.std.proofs.Common.{get_or}
use Rattle.lock_modes.specs.declared.bag.Bag.{Bag}
use Rattle.lock_modes.specs.declared.hold.Hold.{Hold}
use Rattle.lock_modes.specs.declared.lock_step.LockStep.TheVariants.{Modes}
use Rattle.lock_modes.specs.declared.mode.Mode.{Mode}
use Rattle.lock_modes.specs.declared.mode_step.ModeStep.TheVariants.{Acquire}
use Rattle.lock_modes.specs.Holds.{no_hold}
use Rattle.lock_modes.specs.Kind.{is_reentrant}
use Rattle.lock_modes.specs.Modes.{admits, readers, tokens}
use Rattle.lock_machine.specs.Operation.{Operation}
use Rattle.lock_plan.specs.declared.lock.PlanLock.{PlanLock}
use Rattle.lock_plan.specs.declared.program.Act.TheVariants.{Call}
use Rattle.lock_plan.specs.declared.program.ProgramPlace.{ProgramPlace}
use Rattle.lock_plan.specs.Checks.{fit_machines}
use Rattle.lock_plan.specs.Circles.{NeverDeadlocks}
use Rattle.lock_plan.specs.Known.{Known, known_at, known_of}
use Rattle.lock_plan.specs.Worlds.{act_in, no_lock}
use Rattle.lock_plan_laws.specs.MachineStops.{MachinesNeverStop}
use Rattle.lock_plan_laws.specs.Ranks.{IsCovered}

-- whether a party that holds this of a lock holds it alone
abbrev pub is_sole : PlanLock → Bag → Bool
is_sole lock b = is_reentrant lock.kind || nat_lt 0 b.exclusive

-- whether two parties cannot hold these of one lock at one time
abbrev pub excludes : PlanLock → Bag → Bag → Bool
excludes lock a b =
    ((is_sole lock a || is_sole lock b) && (nat_lt 0 (tokens a) && nat_lt 0 (tokens b)))
    || (nat_lt 0 a.upgradable && nat_lt 0 b.upgradable)

-- two parties can have these holds at one time: no lock is a gate that lets one of them in
abbrev pub CanMeet : List PlanLock → List Hold → List Hold → Type 0
CanMeet locks hs ks =
    (lock : ℕ) → excludes (get_or locks lock no_lock) (get_or hs lock no_hold).bag (get_or ks lock no_hold).bag ≡ false

-- whether a party that holds this of a lock may hold up an acquisition in the mode. A strict lock may refuse any mode next to
-- any hold
abbrev pub may_hold_up : Bool → ℕ → Mode → Bag → Bool
may_hold_up strict limit mode b = nat_lt 0 (tokens b) && (strict || not (admits limit b mode))

-- a party at a blocking acquisition
pub record Wait : Type 0 where
  pub party : ℕ
  pub place : ℕ
  pub holds : List Hold
  pub lock : ℕ
  pub mode : Mode

pub record IsWaitOf (programs : List (List ProgramPlace)) (known : ℕ → Known) (x : Wait) : Type 0 where
  pub within : x.party < length programs
  pub is : known_at (known x.party) x.place ≡ Some x.holds
  pub here : act_in (get_or programs x.party []) x.place ≡ Some (Call (record { lock = x.lock; step = Modes (Acquire x.mode) }))

-- y may hold up x: the two can wait at one time, and y holds what may refuse x. A party holds up itself, but not as the owner
-- of a reentrant lock
pub record MayHoldUp (strict : ℕ → Bool) (locks : List PlanLock) (x y : Wait) : Type 0 where
  pub together : ((x.party ≢ y.party) × CanMeet locks x.holds y.holds)
      ⊎ (((x.party ≡ y.party) × (x.place ≡ y.place)) × (is_reentrant (get_or locks x.lock no_lock).kind ≡ false))
  pub refuses : may_hold_up (strict x.lock) (get_or locks x.lock no_lock).limit x.mode (get_or y.holds x.lock no_hold).bag ≡ true

-- the sum of the values of the numbers below one
abbrev pub sum_below : (ℕ → ℕ) → ℕ → ℕ
sum_below f zero = 0
sum_below f (suc n) = f 0 + sum_below (λ k. f (suc k)) n

-- the lock with this number has neither a line nor a bar, and so many parties together never have as many reads as its limit:
-- each has at most so many of its own
pub record IsLenient (lock : PlanLock) (parties : ℕ) (known : ℕ → Known) (number : ℕ) : Type 0 where
  pub no_line : lock.fair ≡ false
  pub no_bar : lock.bar ≡ false
  pub most : ℕ → ℕ
  pub each : (party place : ℕ) (hs : List Hold) → party < parties → known_at (known party) place ≡ Some hs
      → readers (get_or hs number no_hold).bag ≤ most party
  pub room : sum_below most parties < lock.limit

-- a plan of machines whose waits have such ranks
pub record HasWaitRanks (rank : ℕ → ℕ → ℕ) (strict : ℕ → Bool) (locks : List PlanLock) (programs : List (List ProgramPlace)) : Type 0 where
  pub known : ℕ → Known
  pub is : (party : ℕ) → party < length programs → known_of locks (get_or programs party []) ≡ Ok (known party)
  pub covered : (party place : ℕ) (hs : List Hold) → party < length programs → known_at (known party) place ≡ Some hs
      → IsCovered hs (act_in (get_or programs party []) place)
  pub upward : (x y : Wait) → IsWaitOf programs known x → IsWaitOf programs known y → MayHoldUp strict locks x y
      → rank x.party x.place < rank y.party y.place
  pub lenient : (lock : ℕ) → lock < length locks → strict lock ≡ false
      → IsLenient (get_or locks lock no_lock) (length programs) known lock
  pub machines : IsTrue (fit_machines locks)

-- no run of such a plan leads into a stop or a circle, and no run of its machines into a stop
abbrev pub RankedPlansNeverDeadlock : Type 0
RankedPlansNeverDeadlock = (rank : ℕ → ℕ → ℕ) (strict : ℕ → Bool) (servers : List Bool) (locks : List PlanLock)
    (programs : List (List ProgramPlace)) → HasWaitRanks rank strict locks programs → NeverDeadlocks servers locks programs

abbrev pub RankedMachinesNeverStop : {O T A : Type 0} → (O → Operation T A) → Type 0
RankedMachinesNeverStop meaning = (rank : ℕ → ℕ → ℕ) (strict : ℕ → Bool) (servers : List Bool) (locks : List PlanLock)
    (programs : List (List ProgramPlace)) → HasWaitRanks rank strict locks programs → MachinesNeverStop meaning servers locks programs
