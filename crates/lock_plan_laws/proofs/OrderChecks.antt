-- The test says that a program keeps the order.
use Rattle.std.proofs.Common.{◌≡◌, ℕ, zero, suc, ◌+◌, ◌<◌, Bool, true, false, not, ◌||◌, List, [], ◌∷◌, get_or, Option, Some, None, Result, Ok, Err, refl, ap, sym, ◌∙◌, subst, arith}
use Rattle.std.specs.Prelude.{◌==◌, nat_lt}
use Rattle.std.specs.List.{list_all}
use Rattle.std.proofs.lemmas.Bool.{and_parts, ltb-true, eqb-true, not-true}
use Rattle.lock_modes.specs.declared.mode.Mode.{Mode}
use Rattle.lock_modes.specs.declared.mode_step.ModeStep.TheVariants.{Acquire}
use Rattle.lock_modes.specs.declared.lock_step.LockStep.TheVariants.{Modes}
use Rattle.lock_modes.specs.declared.hold.Hold.{Hold}
use Rattle.lock_modes.specs.Modes.{tokens}
use Rattle.lock_modes.specs.Holds.{no_hold}
use Rattle.lock_plan.specs.declared.call.PlanCall.{PlanCall}
use Rattle.lock_plan.specs.declared.lock.PlanLock.{PlanLock}
use Rattle.lock_plan.specs.declared.program.Act.{Act}
use Rattle.lock_plan.specs.declared.program.Act.TheVariants.{Call, Signal}
use Rattle.lock_plan.specs.declared.program.ProgramPlace.{ProgramPlace}
use Rattle.lock_plan.specs.Known.{PlaceFault, Known, known_at, known_of}
use Rattle.lock_plan.specs.Worlds.{act_in}
use Rattle.lock_plan_laws.specs.Ranks.{is_ranked_step, IsCovered, KeepsOrder, IsOrdered}
use Rattle.lock_plan_laws.specs.OrderChecks.{covers, covers_at, covers_from, is_above, goes_up, keeps_order, keeps_at, keeps_from, keeps_known, is_ordered}
use Rattle.lock_plan_laws.proofs.BlockedCalls.{call_same}

other_one : (a b : Bool) → (a || b) ≡ true → (a ≡ true → ⊥) → b ≡ true
other_one true b e never = absurd (never refl)
other_one false b e never = e

free_or_below : (n : ℕ) (b : Bool) → ((n == 0) || b) ≡ true → 0 < n → b ≡ true
free_or_below n b e some = other_one (n == 0) b e (λ zero_is. let none = eqb-true n 0 zero_is in omega (arith, none, some))

module _ (rank : ℕ → ℕ) where
  above_all : (lock from : ℕ) (hs : List Hold) → is_above rank lock from hs ≡ true
      → (l : ℕ) → 0 < tokens (get_or hs l no_hold).bag → rank (from + l) < rank lock
  above_all lock from [] e l some = absurd (omega arith)
  above_all lock from (h ∷ hs) e zero some =
      let two = and_parts ((tokens h.bag == 0) || nat_lt (rank from) (rank lock)) (is_above rank lock (from + 1) hs) e in
      let below : rank from < rank lock = ltb-true (rank from) (rank lock) (free_or_below (tokens h.bag) (nat_lt (rank from) (rank lock)) two.0 some) in
      subst (λ (k : ℕ). rank k < rank lock) (omega arith) below
  above_all lock from (h ∷ hs) e (suc l) some =
      let two = and_parts ((tokens h.bag == 0) || nat_lt (rank from) (rank lock)) (is_above rank lock (from + 1) hs) e in
      subst (λ (k : ℕ). rank k < rank lock) (omega arith) (above_all lock (from + 1) hs two.1 l some)

pub all_free : (hs : List Hold) → list_all (λ h. tokens h.bag == 0) hs ≡ true → (l : ℕ) → tokens (get_or hs l no_hold).bag ≡ 0
all_free [] e l = refl
all_free (h ∷ hs) e zero = eqb-true (tokens h.bag) 0 (and_parts (tokens h.bag == 0) (list_all (λ h. tokens h.bag == 0) hs) e).0
all_free (h ∷ hs) e (suc l) = all_free hs (and_parts (tokens h.bag == 0) (list_all (λ h. tokens h.bag == 0) hs) e).1 l

all_silent : (hs : List Hold) → list_all (λ h. not h.announced) hs ≡ true → (l : ℕ) → (get_or hs l no_hold).announced ≡ false
all_silent [] e l = refl
all_silent (h ∷ hs) e zero = not-true h.announced (and_parts (not h.announced) (list_all (λ h. not h.announced) hs) e).0
all_silent (h ∷ hs) e (suc l) = all_silent hs (and_parts (not h.announced) (list_all (λ h. not h.announced) hs) e).1 l

pub covered_is : (holds : List Hold) (here : Option Act) → list_all (λ h. not h.announced) holds ≡ true → covers holds here ≡ true
    → IsCovered holds here
covered_is holds None silent e = record {
  ranked = λ call is. cc;
  no_signal = λ signal is. cc;
  ended = λ is lock. all_free holds e lock;
  silent = all_silent holds silent;
}
covered_is holds (Some (Call call)) silent e = record {
  ranked = λ other is. ap (λ (c : PlanCall). is_ranked_step c.step) (sym (call_same call other is)) ∙ e;
  no_signal = λ signal is. cc;
  ended = λ is lock. cc;
  silent = all_silent holds silent;
}
covered_is holds (Some (Signal signal)) silent e = cc
covered_is holds here silent e = record {
  ranked = λ call is. cc;
  no_signal = λ signal is. cc;
  ended = λ is lock. cc;
  silent = all_silent holds silent;
}

pub covered_at : (holds : List Hold) (here : Option Act) → covers_at here (Some holds) ≡ true → IsCovered holds here
covered_at holds here e =
    let two = and_parts (list_all (λ h. not h.announced) holds) (covers holds here) e in
    covered_is holds here two.0 two.1

pub covers_place : (program : List ProgramPlace) (from : ℕ) (known : Known) → covers_from program from known ≡ true
    → (place : ℕ) (holds : List Hold) → known_at known place ≡ Some holds → covers_at (act_in program (from + place)) (Some holds) ≡ true
covers_place program from [] e place holds is = cc
covers_place program from (here ∷ known) e zero holds is =
    let two = and_parts (covers_at (act_in program from) here) (covers_from program (from + 1) known) e in
    ap (λ (o : Option (List Hold)). covers_at (act_in program (from + 0)) o) (sym is)
    ∙ ap (λ (k : ℕ). covers_at (act_in program k) here) (omega arith) ∙ two.0
covers_place program from (here ∷ known) e (suc place) holds is =
    let two = and_parts (covers_at (act_in program from) here) (covers_from program (from + 1) known) e in
    let k : from + suc place ≡ from + 1 + place = omega arith in
    ap (λ (k : ℕ). covers_at (act_in program k) (Some holds)) k ∙ covers_place program (from + 1) known two.1 place holds is

module _ (rank : ℕ → ℕ) where
  upward_is : (holds : List Hold) (call : PlanCall) (mode : Mode) → keeps_order rank holds (Some (Call call)) ≡ true
      → call.step ≡ Modes (Acquire mode) → (lock : ℕ) → 0 < tokens (get_or holds lock no_hold).bag → rank lock < rank call.lock
  upward_is holds call mode e acquires lock some =
      let above : is_above rank call.lock 0 holds ≡ true = ap (goes_up rank holds call.lock) (sym acquires) ∙ e in
      let lt : rank (0 + lock) < rank call.lock = above_all rank call.lock 0 holds above lock some in
      let here : rank (0 + lock) ≡ rank lock = ap rank (omega arith) in
      omega (arith, lt, here)

  keeps_is : (holds : List Hold) (here : Option Act) → covers_at here (Some holds) ≡ true → keeps_order rank holds here ≡ true
      → KeepsOrder rank holds here
  keeps_is holds here covered e = record {
    upward = λ call mode is acquires lock some.
        upward_is holds call mode (ap (keeps_order rank holds) (sym is) ∙ e) acquires lock some;
    covered = covered_at holds here covered;
  }

  at_place : (program : List ProgramPlace) (from : ℕ) (known : Known) → keeps_from rank program from known ≡ true
      → (place : ℕ) (holds : List Hold) → known_at known place ≡ Some holds → keeps_at rank (act_in program (from + place)) (Some holds) ≡ true
  at_place program from [] e place holds is = cc
  at_place program from (here ∷ known) e zero holds is =
      let two = and_parts (keeps_at rank (act_in program from) here) (keeps_from rank program (from + 1) known) e in
      ap (λ (o : Option (List Hold)). keeps_at rank (act_in program (from + 0)) o) (sym is)
      ∙ ap (λ (k : ℕ). keeps_at rank (act_in program k) here) (omega arith) ∙ two.0
  at_place program from (here ∷ known) e (suc place) holds is =
      let two = and_parts (keeps_at rank (act_in program from) here) (keeps_from rank program (from + 1) known) e in
      let k : from + suc place ≡ from + 1 + place = omega arith in
      ap (λ (k : ℕ). keeps_at rank (act_in program k) (Some holds)) k ∙ at_place program (from + 1) known two.1 place holds is

  ordered_by : (locks : List PlanLock) (program : List ProgramPlace) (o : Result Known PlaceFault) → known_of locks program ≡ o
      → keeps_known rank program o ≡ true → IsOrdered rank locks program
  ordered_by locks program (Err fault) is e = cc
  ordered_by locks program (Ok known) is e = record {
    known = known;
    is = is;
    keeps = λ place holds at.
        let here : keeps_at rank (act_in program (0 + place)) (Some holds) ≡ true = at_place program 0 known e place holds at in
        let same : keeps_at rank (act_in program place) (Some holds) ≡ true = ap (λ (k : ℕ). keeps_at rank (act_in program k) (Some holds)) (omega arith) ∙ here in
        let two = and_parts (covers_at (act_in program place) (Some holds)) (keeps_order rank holds (act_in program place)) same in
        keeps_is holds (act_in program place) two.0 two.1;
  }

  pub ordered_is : (locks : List PlanLock) (program : List ProgramPlace) → is_ordered rank locks program ≡ true → IsOrdered rank locks program
  ordered_is locks program e = ordered_by locks program (known_of locks program) refl e
