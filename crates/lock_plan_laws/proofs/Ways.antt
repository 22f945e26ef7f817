-- An act that signals or chooses can go some way exactly where it goes on in the world.
use Rattle.std.proofs.Common.{◌≡◌, ℕ, zero, suc, Bool, true, false, not, ◌||◌, ◌==◌, nat_lt, if◌then◌else◌, List, [], ◌∷◌, get_or, Option, Some, None, is_some, refl, ap, sym, ◌∙◌, arith, ltb-true}
use Rattle.std.proofs.lemmas.Bool.{and_parts}
use Rattle.std.specs.List.{list_any}
use Rattle.lock_modes.specs.declared.hold.Hold.{Hold}
use Rattle.lock_plan.specs.declared.lock.PlanLock.{PlanLock}
use Rattle.lock_plan.specs.declared.program.Act.{Act}
use Rattle.lock_plan.specs.declared.program.Act.TheVariants as act
use Rattle.lock_plan.specs.declared.program.Block.{Block}
use Rattle.lock_plan.specs.declared.program.Block.TheVariants.{Repeat, Either, AtLeast, TimedSleep, TryAdd, TryTake}
use Rattle.lock_plan.specs.declared.program.Signal.{Signal}
use Rattle.lock_plan.specs.declared.program.Signal.TheVariants.{Idle, Sleep, Start, Join, Add, Take, Set, AssertAtLeast, NotifyOne, NotifyAll}
use Rattle.lock_plan.specs.declared.turn.Turn.{Turn}
use Rattle.lock_plan.specs.declared.turn.Turn.TheVariants.{Goes, Waits, Refused}
use Rattle.lock_plan.specs.Signals.{idles, sleeps_on, has_ended, reaches, is_so, lets_signal, lets, signal_turn}
use Rattle.lock_plan.specs.Worlds.{reply_at, turn_by, is_step_turn}

module _ {X : Type 0} where
  -- an element that passes is at some place
  any_found : (f : X → Bool) (xs : List X) (none : X) → list_any f xs ≡ true → (i : ℕ) × (f (get_or xs i none) ≡ true)
  any_found f [] none is = cc
  any_found f (x ∷ xs) none is = by_first (f x) refl is (any_found f xs none)
    where
      by_first : (b : Bool) → f x ≡ b → (b || list_any f xs) ≡ true
          → (list_any f xs ≡ true → (i : ℕ) × (f (get_or xs i none) ≡ true))
          → (i : ℕ) × (f (get_or (x ∷ xs) i none) ≡ true)
      by_first true here any rest = (0, here)
      by_first false other any rest = let r = rest any in (suc r.0, r.1)

-- of two ways, the second is that of an act that is not made
pub way_of_try : (way : ℕ) (made : Bool) → nat_lt way 2 ≡ true → made ≡ not (way == 1) → way ≡ (if made then 0 else 1)
way_of_try zero made below is = ap (λ (b : Bool). if b then 0 else 1) (sym is)
way_of_try (suc zero) made below is = ap (λ (b : Bool). if b then 0 else 1) (sym is)
way_of_try (suc (suc n)) made below is = let lt = ltb-true (suc (suc n)) 2 below in absurd (omega (arith, lt))

module _ (acts : List (Option Act)) where
  -- a choice can go one of its ways
  pub choice_way : (block : Block) → (way : ℕ) × (lets acts way (Some (act.Choose block)) ≡ true)
  choice_way Repeat = (0, refl)
  choice_way Either = (0, refl)
  choice_way (TimedSleep cond) = (1, refl)
  choice_way (AtLeast row number) = by_value (reaches number (get_or acts row None)) refl
    where
      by_value : (b : Bool) → reaches number (get_or acts row None) ≡ b → (way : ℕ) × (lets acts way (Some (act.Choose (AtLeast row number))) ≡ true)
      by_value true is = (0, is)
      by_value false is = (1, ap not is)
  choice_way (TryAdd row most) = by_value (reaches most (get_or acts row None)) refl
    where
      by_value : (b : Bool) → reaches most (get_or acts row None) ≡ b → (way : ℕ) × (lets acts way (Some (act.Choose (TryAdd row most))) ≡ true)
      by_value true is = (1, is)
      by_value false is = (0, ap not is)
  choice_way (TryTake row) = by_value (reaches 1 (get_or acts row None)) refl
    where
      by_value : (b : Bool) → reaches 1 (get_or acts row None) ≡ b → (way : ℕ) × (lets acts way (Some (act.Choose (TryTake row))) ≡ true)
      by_value true is = (0, is)
      by_value false is = (1, ap not is)

  goes_if : (b : Bool) → is_step_turn (Some (if b then Goes else Waits)) ≡ b
  goes_if true = refl
  goes_if false = refl

  asserts_if : (b : Bool) → is_step_turn (Some (if b then Goes else Refused)) ≡ b
  asserts_if true = refl
  asserts_if false = refl

  -- a signal goes where it has a way
  pub signal_goes : (way : ℕ) (signal : Signal) → lets_signal acts way signal ≡ true
      → is_step_turn (signal_turn acts signal) ≡ true
  signal_goes way (Idle value) is = cc
  signal_goes way (Sleep cond) is = cc
  signal_goes way (Start row) is = refl
  signal_goes way (Join row) is = goes_if (has_ended acts row) ∙ (and_parts (way == 0) (has_ended acts row) is).1
  signal_goes way (Add row most) is = goes_if (is_so acts row most false) ∙ (and_parts (way == 0) (is_so acts row most false) is).1
  signal_goes way (Take row) is = goes_if (is_so acts row 1 true) ∙ (and_parts (way == 0) (is_so acts row 1 true) is).1
  signal_goes way (Set row place) is = refl
  signal_goes way (AssertAtLeast row number value) is =
      asserts_if (is_so acts row number value) ∙ (and_parts (way == 0) (is_so acts row number value) is).1
  signal_goes way (NotifyOne cond) is = refl
  signal_goes way (NotifyAll cond) is = refl

  pub signal_way : (signal : Signal) → is_step_turn (signal_turn acts signal) ≡ true
      → (way : ℕ) × (lets_signal acts way signal ≡ true)
  signal_way (Idle value) is = cc
  signal_way (Sleep cond) is = cc
  signal_way (Start row) is = (0, refl)
  signal_way (Join row) is = (0, sym (goes_if (has_ended acts row)) ∙ is)
  signal_way (Add row most) is = (0, sym (goes_if (is_so acts row most false)) ∙ is)
  signal_way (Take row) is = (0, sym (goes_if (is_so acts row 1 true)) ∙ is)
  signal_way (Set row place) is = (0, refl)
  signal_way (AssertAtLeast row number value) is = (0, sym (asserts_if (is_so acts row number value)) ∙ is)
  signal_way (NotifyOne cond) is = by_sleeper (list_any (sleeps_on cond) acts) refl
    where
      by_sleeper : (b : Bool) → list_any (sleeps_on cond) acts ≡ b
          → (way : ℕ) × (lets_signal acts way (NotifyOne cond) ≡ true)
      by_sleeper true some = let q = any_found (sleeps_on cond) acts None some in (suc q.0, q.1)
      by_sleeper false none = (0, ap not none)
  signal_way (NotifyAll cond) is = (0, refl)

  join_never : (b : Bool) → Some (if b then Goes else Waits) ≡ Some Refused → ⊥
  join_never true is = cc
  join_never false is = cc

  refused_if : (b : Bool) → Some (if b then Goes else Refused) ≡ Some Refused → b ≡ false
  refused_if true is = cc
  refused_if false is = refl

  -- a signal is refused only where it is an assertion that is false
  pub signal_refused : (signal : Signal) → signal_turn acts signal ≡ Some Refused
      → (row : ℕ) × (number : ℕ) × (value : Bool) × (signal ≡ AssertAtLeast row number value) × (is_so acts row number value ≡ false)
  signal_refused (Join row) is = absurd (join_never (has_ended acts row) is)
  signal_refused (Add row most) is = absurd (join_never (is_so acts row most false) is)
  signal_refused (Take row) is = absurd (join_never (is_so acts row 1 true) is)
  signal_refused (AssertAtLeast row number value) is = (row, number, value, refl, refused_if (is_so acts row number value) is)
  signal_refused other is = cc

  signal_some : (signal : Signal) → idles (Some (act.Signal signal)) ≡ false → is_some (signal_turn acts signal) ≡ true
  signal_some (Idle value) there = cc
  signal_some other there = refl

  -- a party at an act of its program has a turn, whatever the others hold, if it does not idle
  pub turn_some : (locks : List PlanLock) (hss : List (List Hold)) (p : ℕ) (a : Act) → idles (Some a) ≡ false
      → is_some (turn_by acts (Some a) (reply_at locks hss p (Some a))) ≡ true
  turn_some locks hss p (act.Call call) there = refl
  turn_some locks hss p (act.Signal signal) there = signal_some signal there
  turn_some locks hss p a there = refl

  pub some_turn : (a : Act) (reply : Option Turn) → is_some (turn_by acts (Some a) reply) ≡ true
      → idles (Some a) ≡ false
  some_turn (act.Signal (Idle value)) reply is = cc
  some_turn other reply is = refl
