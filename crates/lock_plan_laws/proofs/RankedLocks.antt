-- Ranks of the locks are ranks of the waits: a wait has the rank of its lock.
use Rattle.std.proofs.Common.{◌≡◌, ℕ, ◌<◌, ◌≤◌, ◌⊎◌, inl, inr, true, List, [], length, get_or, Option, Some, Ok, refl, ap, sym, arith}
use Rattle.std.specs.Prelude.{nat_lt, not, ◌||◌}
use Rattle.std.proofs.lemmas.Bool.{and_parts, cases_lt, false≢true, ltb-true}
use Rattle.lock_modes.specs.declared.hold.Hold.{Hold}
use Rattle.lock_modes.specs.declared.lock_step.LockStep.TheVariants.{Modes}
use Rattle.lock_modes.specs.declared.mode_step.ModeStep.TheVariants.{Acquire}
use Rattle.lock_modes.specs.Holds.{no_hold}
use Rattle.lock_modes.specs.Modes.{admits, tokens}
use Rattle.lock_machine.specs.Operation.{Operation}
use Rattle.lock_plan.specs.declared.lock.PlanLock.{PlanLock}
use Rattle.lock_plan.specs.declared.program.Act.{Act}
use Rattle.lock_plan.specs.declared.program.Act.TheVariants.{Call}
use Rattle.lock_plan.specs.declared.program.ProgramPlace.{ProgramPlace}
use Rattle.lock_plan.specs.Known.{Known, known_at, known_of}
use Rattle.lock_plan.specs.Worlds.{act_in, no_lock}
use Rattle.lock_plan_laws.specs.Ranks.{IsOrderedPlan, KeepsOrder, OrderedPlansNeverDeadlock, OrderedMachinesNeverStop}
use Rattle.lock_plan_laws.specs.WaitRanks.{HasWaitRanks, IsWaitOf, MayHoldUp, Wait}
use Rattle.lock_plan_laws.proofs.WaitRanks as waits

module _ (rank : ℕ → ℕ) (locks : List PlanLock) (programs : List (List ProgramPlace)) (plan : IsOrderedPlan rank locks programs) where
  -- the rank of the lock that an act acquires
  abbrev pub rank_of : Option Act → ℕ
  rank_of (Some (Call call)) = rank call.lock
  rank_of here = 0

  abbrev pub rank_at : ℕ → ℕ → ℕ
  rank_at party place = rank_of (act_in (get_or programs party []) place)

  abbrev known_by : (p : ℕ) → (p < length programs) ⊎ (length programs ≤ p) → Known
  known_by p (inl lt) = (plan.ordered p lt).known
  known_by p (inr past) = []

  abbrev known : ℕ → Known
  known p = known_by p (cases_lt p (length programs))

  known_is : (p : ℕ) (c : (p < length programs) ⊎ (length programs ≤ p)) → p < length programs
      → known_of locks (get_or programs p []) ≡ Ok (known_by p c)
  known_is p (inl lt) below = (plan.ordered p lt).is
  known_is p (inr past) below = absurd (omega (arith, past, below))

  keeps : (p : ℕ) (c : (p < length programs) ⊎ (length programs ≤ p)) → p < length programs → (place : ℕ) (hs : List Hold)
      → known_at (known_by p c) place ≡ Some hs → KeepsOrder rank hs (act_in (get_or programs p []) place)
  keeps p (inl lt) below place hs is = (plan.ordered p lt).keeps place hs is
  keeps p (inr past) below place hs is = absurd (omega (arith, past, below))

  upward : (x y : Wait) → IsWaitOf programs known x → IsWaitOf programs known y → MayHoldUp (λ lock. true) locks x y
      → rank_at x.party x.place < rank_at y.party y.place
  upward x y is_x is_y may =
      let bag = (get_or y.holds x.lock no_hold).bag in
      let some = ltb-true 0 (tokens bag) (and_parts (nat_lt 0 (tokens bag)) (true || not (admits (get_or locks x.lock no_lock).limit bag x.mode)) may.refuses).0 in
      let k = keeps y.party (cases_lt y.party (length programs)) is_y.within y.place y.holds is_y.is in
      let above = k.upward (record { lock = y.lock; step = Modes (Acquire y.mode) }) y.mode is_y.here refl x.lock some in
      let here : rank_at x.party x.place ≡ rank x.lock = ap rank_of is_x.here in
      let there : rank_at y.party y.place ≡ rank y.lock = ap rank_of is_y.here in
      omega (arith, above, here, there)

  pub wait_ranks : HasWaitRanks rank_at (λ lock. true) locks programs
  wait_ranks = record {
    known = known;
    is = λ p lt. known_is p (cases_lt p (length programs)) lt;
    covered = λ p place hs lt is. (keeps p (cases_lt p (length programs)) lt place hs is).covered;
    upward = upward;
    lenient = λ lock lt no. absurd (false≢true (sym no));
    machines = plan.machines;
  }

pub never_deadlock : OrderedPlansNeverDeadlock
never_deadlock rank servers locks programs plan =
    waits.never_deadlock (rank_at rank locks programs plan) (λ lock. true) servers locks programs (wait_ranks rank locks programs plan)

pub machines_never_stop : {O T A : Type 0} (meaning : O → Operation T A) → OrderedMachinesNeverStop meaning
machines_never_stop meaning rank servers locks programs plan =
    waits.machines_never_stop meaning (rank_at rank locks programs plan) (λ lock. true) servers locks programs (wait_ranks rank locks programs plan)
