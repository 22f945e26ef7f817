-- What a look for an order finds, whatever parties run the programs.
use Rattle.std.specs.Prelude.{◌≡◌, ◌≢◌, ℕ, ◌<◌, ◌≤◌, ◌==◌, Bool, true, false, not, ⊤, List, [], ◌∷◌, ◌-◌, length, map, max, sum_by, Option, Some, None, Ok, Vec}
use Rattle.std.specs.Global.{Global}
use Rattle.std.specs.List.{list_all, list_any, position}
use Rattle.std.specs.Option.{unwrap_or}
use Rattle.std.proofs.Common.{get_or}
use Rattle.lock_modes.specs.declared.hold.Hold.{Hold}
use Rattle.lock_modes.specs.Holds.{no_hold}
use Rattle.lock_modes.specs.Kind.{is_reentrant}
use Rattle.lock_modes.specs.Modes.{readers}
use Rattle.lock_plan.specs.declared.lock.PlanLock.{PlanLock}
use Rattle.lock_plan.specs.declared.program.ProgramPlace.{ProgramPlace}
use Rattle.lock_plan.specs.declared.fault.PlanFault.{PlanFault}
use Rattle.lock_plan.specs.Checks.{IsFault}
use Rattle.lock_plan.specs.Circles.{NeverDeadlocks}
use Rattle.lock_plan.specs.Known.{Known, known_of}
use Rattle.lock_plan.specs.Worlds.{no_lock}
use Rattle.lock_plan_laws.specs.OrderChecks.{covers_from, keeps_from}
use Rattle.lock_plan_laws.specs.Ranks.{IsOrderedPlan}
use Rattle.lock_plan_order.specs.declared.lock_order.LockOrder.{LockOrder}
use Rattle.lock_plan_order.specs.declared.lock_order.LockOrder.TheVariants.{Kept, NoCircle, Broken}
use Rattle.lock_plan_order.specs.declared.order_fault.OrderFault.{OrderFault}
use Rattle.lock_plan_order.specs.declared.order_fault.OrderFault.TheVariants.{Plan, OutOfTime}

-- the rank of a lock is its place in the order
abbrev pub rank_in : List ℕ → ℕ → ℕ
rank_in order lock = unwrap_or (position (λ other. other == lock) order) 0

abbrev pub none_reentrant : List PlanLock → Bool
none_reentrant locks = list_all (λ lock. not (is_reentrant lock.kind)) locks

-- what a party is known to hold at each place
abbrev pub held_in : Vec (Option (List Hold)) Global → Known
held_in held = held.items

-- what a party with each of the programs holds
abbrev pub AreKnown : List PlanLock → List (List ProgramPlace) → List Known → Type 0
AreKnown locks programs known = map (known_of locks) programs ≡ map (λ held. Ok held) known

-- an order covers each act of the programs
abbrev pub AreCovered : List (List ProgramPlace) → List Known → Type 0
AreCovered programs known = (program : ℕ) → program < length programs
    → covers_from (get_or programs program []) 0 (get_or known program []) ≡ true

-- each of the programs keeps the order
abbrev pub AreKept : List ℕ → List (List ProgramPlace) → List Known → Type 0
AreKept order programs known = (program : ℕ) → program < length programs
    → keeps_from (rank_in order) (get_or programs program []) 0 (get_or known program []) ≡ true

-- each party runs one of the programs
abbrev pub EachRunsOneOf : List (List ProgramPlace) → List (List ProgramPlace) → Type 0
EachRunsOneOf programs parties = (party : ℕ) → party < length parties
    → (program : ℕ) × ((program < length programs) × (get_or parties party [] ≡ get_or programs program []))

-- any number of parties with these programs are in order, and no run of theirs leads into a stop or a circle
pub record IsKept (locks : List PlanLock) (programs : List (List ProgramPlace)) (order : List ℕ) : Type 0 where
  pub ordered : (parties : List (List ProgramPlace)) → EachRunsOneOf programs parties → IsOrderedPlan (rank_in order) locks parties
  pub never_deadlocks : (servers : List Bool) (parties : List (List ProgramPlace)) → EachRunsOneOf programs parties
      → NeverDeadlocks servers locks parties

-- the parties run the programs with these numbers: any number of them a program that is one of many, and at most one another
pub record AreRuns (programs : List (List ProgramPlace)) (many : List Bool) (parties : List (List ProgramPlace)) (runs : ℕ → ℕ) : Type 0 where
  pub each : (party : ℕ) → party < length parties
      → (runs party < length programs) × (get_or parties party [] ≡ get_or programs (runs party) [])
  pub single : (p q : ℕ) → p < length parties → q < length parties → p ≢ q → runs p ≡ runs q → get_or many (runs p) false ≡ true
  pub few : list_any (λ b. b) many ≡ false → length parties ≤ length programs

-- no run of such parties leads into a stop or a circle
abbrev pub IsWithoutCircle : List PlanLock → List (List ProgramPlace) → List Bool → Type 0
IsWithoutCircle locks programs many = (servers : List Bool) (parties : List (List ProgramPlace)) (runs : ℕ → ℕ)
    → AreRuns programs many parties runs → NeverDeadlocks servers locks parties

-- how many reads of a lock a party has with these holds, if they are known, and the most that it has at a place
abbrev pub reads_in : ℕ → Option (List Hold) → ℕ
reads_in lock None = 0
reads_in lock (Some holds) = readers (get_or holds lock no_hold).bag

abbrev pub most_reads : ℕ → Known → ℕ
most_reads lock [] = 0
most_reads lock (here ∷ known) = max (reads_in lock here) (most_reads lock known)

-- each of the programs that any number of parties run has no read of the lock, and all programs together have at most so many
pub record HasRoom (many : List Bool) (known : List Known) (lock room : ℕ) : Type 0 where
  pub alone : (program : ℕ) → program < length known → get_or many program false ≡ true → most_reads lock (get_or known program []) ≡ 0
  pub fits : sum_by (most_reads lock) known ≤ room

-- the lock with this number has neither a line nor a bar, and parties with these programs never have as many reads as its limit
pub record IsLenientAmong (lock : PlanLock) (many : List Bool) (known : List Known) (number : ℕ) : Type 0 where
  pub no_line : lock.fair ≡ false
  pub no_bar : lock.bar ≡ false
  pub some : 0 < lock.limit
  pub room : HasRoom many known number (lock.limit - 1)

-- each lock that is not marked as strict is lenient
abbrev pub AreStrict : List PlanLock → List Bool → List Known → List Bool → Type 0
AreStrict locks many known strict = (lock : ℕ) → lock < length locks → get_or strict lock true ≡ false
    → IsLenientAmong (get_or locks lock no_lock) many known lock

abbrev pub IsLockOrder : List PlanLock → List (List ProgramPlace) → List Bool → LockOrder → Type 0
IsLockOrder locks programs many (Kept order) = IsKept locks programs order.items
IsLockOrder locks programs many NoCircle = IsWithoutCircle locks programs many
IsLockOrder locks programs many (Broken obstacles) = ⊤

-- the fault of a plan, or the end of the budget
abbrev pub IsOrderFault : Option PlanFault → OrderFault → Type 0
IsOrderFault found (Plan fault) = IsFault found fault
IsOrderFault found OutOfTime = ⊤

-- a look for an order is out of time only if its budget has ended
abbrev pub IsInTime : Bool → OrderFault → Type 0
IsInTime has_ended (Plan fault) = ⊤
IsInTime has_ended OutOfTime = has_ended ≡ true
