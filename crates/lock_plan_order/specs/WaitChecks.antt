-- The test of ranks of waits: programs, what is known of each, and a rank for each wait.
use Rattle.std.specs.Prelude.{ℕ, ◌+◌, Bool, true, false, not, ◌&&◌, ◌||◌, ◌==◌, nat_lt, if◌then◌else◌, List, [], ◌∷◌, length, map, Option, Some, None}
use Rattle.std.specs.List.{filter_map, flat_map, list_all, range_with_len}
use Rattle.std.specs.Option.{unwrap_or}
use Rattle.std.proofs.Common.{get_or}
use Rattle.lock_modes.specs.declared.hold.Hold.{Hold}
use Rattle.lock_modes.specs.declared.lock_step.LockStep.{LockStep}
use Rattle.lock_modes.specs.declared.lock_step.LockStep.TheVariants.{Modes}
use Rattle.lock_modes.specs.declared.mode_step.ModeStep.TheVariants.{Acquire}
use Rattle.lock_modes.specs.Holds.{no_hold}
use Rattle.lock_modes.specs.Kind.{is_reentrant}
use Rattle.lock_modes.specs.Modes.{tokens}
use Rattle.lock_plan.specs.declared.lock.PlanLock.{PlanLock}
use Rattle.lock_plan.specs.declared.program.Act.{Act}
use Rattle.lock_plan.specs.declared.program.Act.TheVariants.{Call}
use Rattle.lock_plan.specs.declared.program.ProgramPlace.{ProgramPlace}
use Rattle.lock_plan.specs.Known.{Known, known_at}
use Rattle.lock_plan.specs.Worlds.{act_in, no_lock}
use Rattle.lock_plan_laws.specs.WaitRanks.{excludes, may_hold_up}
use Rattle.lock_plan_order.specs.declared.setting.Setting.{Setting}
use Rattle.lock_plan_order.specs.declared.wait_place.WaitPlace.{WaitPlace}
use Rattle.lock_plan_order.specs.LockOrders.{held_in}

abbrev pub holds_some : List Hold → Bool
holds_some holds = not (list_all (λ h. tokens h.bag == 0) holds)

-- the wait of an act on a lock, if it blocks for it
abbrev pub wait_by : ℕ → ℕ → ℕ → LockStep → Option WaitPlace
wait_by program place lock (Modes (Acquire mode)) = Some (record { program = program; place = place; lock = lock; mode = mode })
wait_by program place lock step = None

-- the wait at a place of a program, if its act blocks for a lock
abbrev pub wait_of : ℕ → ℕ → Option Act → Option WaitPlace
wait_of program place (Some (Call call)) = wait_by program place call.lock call.step
wait_of program place here = None

-- the same, if the party holds something there
abbrev pub wait_at : ℕ → ℕ → Option Act → Option (List Hold) → Option WaitPlace
wait_at program place here None = None
wait_at program place here (Some holds) = if holds_some holds then wait_of program place here else None

-- the wait at this place of a program
abbrev pub wait_in : ℕ → List ProgramPlace → Known → ℕ → Option WaitPlace
wait_in number program known place = wait_at number place (act_in program place) (known_at known place)

-- the waits of a program, place by place
abbrev pub waits_in : ℕ → List ProgramPlace → Known → List WaitPlace
waits_in number program known = filter_map (wait_in number program known) (range_with_len 0 (length known))

-- the waits of the program with this number
abbrev pub numbered_waits : List (List ProgramPlace) → List Known → ℕ → List WaitPlace
numbered_waits programs known number = waits_in number (get_or programs number []) (get_or known number [])

-- the waits of all programs
abbrev pub waits_of : List (List ProgramPlace) → List Known → List WaitPlace
waits_of programs known = flat_map (numbered_waits programs known) (range_with_len 0 (length programs))

-- what a party holds at a place, if that is known
abbrev pub holds_at : List Known → ℕ → ℕ → List Hold
holds_at known program place = unwrap_or (known_at (get_or known program []) place) []

-- whether no lock, from this one on, is a gate that keeps parties with these holds apart
abbrev pub meet_from : List PlanLock → ℕ → List Hold → List Hold → Bool
meet_from [] lock hs ks = true
meet_from (l ∷ locks) lock hs ks =
    not (excludes l (get_or hs lock no_hold).bag (get_or ks lock no_hold).bag) && meet_from locks (lock + 1) hs ks

-- whether two parties can be at these waits, as far as their programs say
abbrev pub are_two : List Bool → WaitPlace → WaitPlace → Bool
are_two many x y = not (x.program == y.program) || get_or many x.program false

abbrev pub is_same : WaitPlace → WaitPlace → Bool
is_same x y = (x.program == y.program) && (x.place == y.place)

abbrev pub known_in : Setting → List Known
known_in s = map held_in s.known.now

-- whether both waits can be at one time: of two parties, or of one
abbrev pub are_together : Setting → WaitPlace → WaitPlace → Bool
are_together s x y =
    (are_two s.many.now x y
    && meet_from s.locks.now 0 (holds_at (known_in s) x.program x.place) (holds_at (known_in s) y.program y.place))
    || (is_same x y && not (is_reentrant (get_or s.locks.now x.lock no_lock).kind))

-- whether y may hold up x
abbrev pub may_be_held_up : Setting → WaitPlace → WaitPlace → Bool
may_be_held_up s x y =
    may_hold_up (get_or s.strict.now x.lock true) (get_or s.locks.now x.lock no_lock).limit x.mode
    (get_or (holds_at (known_in s) y.program y.place) x.lock no_hold).bag
    && are_together s x y

abbrev pub rank_at : List (List ℕ) → ℕ → ℕ → ℕ
rank_at ranks program place = get_or (get_or ranks program []) place 0

-- whether x is below y, if y may hold it up
abbrev pub rises : Setting → List (List ℕ) → WaitPlace → WaitPlace → Bool
rises s ranks x y = not (may_be_held_up s x y) || nat_lt (rank_at ranks x.program x.place) (rank_at ranks y.program y.place)

abbrev pub is_below_all : Setting → List (List ℕ) → List WaitPlace → WaitPlace → Bool
is_below_all s ranks waits x = list_all (rises s ranks x) waits

abbrev pub are_ranked : Setting → List (List ℕ) → List WaitPlace → Bool
are_ranked s ranks waits = list_all (is_below_all s ranks waits) waits
