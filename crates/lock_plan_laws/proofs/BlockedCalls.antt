-- A blocking acquisition that is not admitted, and what its lock, its turn and the bar say of it.
use Rattle.std.proofs.Common.{◌≡◌, ℕ, zero, suc, ◌<◌, Bool, true, false, not, ◌&&◌, ◌||◌, if◌then◌else◌, List, [], ◌∷◌, length, get_or, Option, Some, None, refl, ap, sym, ◌∙◌, arith, IsTrue}
use Rattle.std.specs.Prelude.{◌==◌, is_some, nat_lt}
use Rattle.std.proofs.lemmas.Bool.{and_parts, and_from, eq-eqb, lt-ltb, ltb-true, not-true}
use Rattle.lock_modes.specs.declared.kind.Kind.{Kind}
use Rattle.lock_modes.specs.declared.kind.Kind.TheVariants as kind
use Rattle.lock_modes.specs.declared.mode.Mode.{Mode}
use Rattle.lock_modes.specs.declared.mode.Mode.TheVariants.{Shared, Exclusive, Upgradable}
use Rattle.lock_modes.specs.declared.mode_step.ModeStep.TheVariants.{Acquire, Change}
use Rattle.lock_modes.specs.declared.bag.Bag.{Bag}
use Rattle.lock_modes.specs.declared.lock_step.LockStep.{LockStep}
use Rattle.lock_modes.specs.declared.lock_step.LockStep.TheVariants as lock_step
use Rattle.lock_modes.specs.declared.hold.Hold.{Hold}
use Rattle.lock_modes.specs.Modes.{tokens, readers, admits, is_exclusive}
use Rattle.lock_modes.specs.Kind.{is_reentrant, is_rwlock}
use Rattle.lock_modes.specs.Bar.{bar_lets_pass}
use Rattle.lock_modes.specs.Holds.{no_hold}
use Rattle.lock_plan.specs.declared.call.PlanCall.{PlanCall}
use Rattle.lock_plan.specs.declared.fault.CallFault.{CallFault}
use Rattle.lock_plan.specs.declared.fault.CallFault.TheVariants.{UnknownLock}
use Rattle.lock_plan.specs.declared.lock.PlanLock.{PlanLock}
use Rattle.lock_plan.specs.declared.program.Act.TheVariants.{Call}
use Rattle.lock_plan.specs.declared.turn.Turn.{Turn}
use Rattle.lock_plan.specs.declared.turn.Turn.TheVariants.{Goes, Announces, Waits}
use Rattle.lock_plan.specs.Circles.{is_wait}
use Rattle.lock_plan.specs.Holds.{is_write, announces_itself, lines_up, admits_step, turn_on}
use Rattle.lock_plan.specs.Checks.{fits_machine, fits_kind, fit_machines}
use Rattle.lock_plan.specs.Worlds.{no_lock, bar_from, lock_holds, is_refused_turn, is_step_turn}
use Rattle.lock_plan_laws.specs.Ranks.{is_ranked_step}
use Rattle.lock_plan_laws.proofs.HeldByAll.{first_false}

pub free_admits : (limit : ℕ) (b : Bag) (mode : Mode) → tokens b ≡ 0 → (is_exclusive mode ≡ false → 0 < limit) → admits limit b mode ≡ true
free_admits limit b Shared free some =
    let room : 0 < limit = some refl in
    and_from (b.exclusive == 0) (nat_lt (readers b) limit) (eq-eqb b.exclusive 0 (omega (arith, free))) (lt-ltb (readers b) limit (omega (arith, free, room)))
free_admits limit b Exclusive free some = eq-eqb (tokens b) 0 free
free_admits limit b Upgradable free some =
    let room : 0 < limit = some refl in
    and_from (b.exclusive == 0) ((b.upgradable == 0) && nat_lt (readers b) limit) (eq-eqb b.exclusive 0 (omega (arith, free)))
    (and_from (b.upgradable == 0) (nat_lt (readers b) limit) (eq-eqb b.upgradable 0 (omega (arith, free)))
    (lt-ltb (readers b) limit (omega (arith, free, room))))

-- what a call without a fault says of its lock
pub fits_at : (locks : List PlanLock) (l : ℕ) → IsTrue (fit_machines locks) → l < length locks → fits_machine (get_or locks l no_lock) ≡ true
fits_at [] l fit lt = absurd (omega (arith, lt))
fits_at (lock ∷ locks) zero fit lt = (and_parts (fits_machine lock) (fit_machines locks) fit).0
fits_at (lock ∷ locks) (suc l) fit lt = fits_at locks l (and_parts (fits_machine lock) (fit_machines locks) fit).1 (omega (arith, lt))

pub no_unknown : (b : Bool) (o : Option CallFault) → (if b then o else Some UnknownLock) ≡ None → (b ≡ true) × (o ≡ None)
no_unknown true o e = (refl, e)
no_unknown false o e = cc

pub by_kind : (k : Kind) (limit : ℕ) (bar : Bool) (mode : Mode) → (is_exclusive mode || is_rwlock k) ≡ true → fits_kind k limit bar ≡ true
    → is_exclusive mode ≡ false → 0 < limit
by_kind kind.Mutex limit bar Shared is fits other = cc
by_kind kind.Mutex limit bar Exclusive is fits other = cc
by_kind kind.Mutex limit bar Upgradable is fits other = cc
by_kind kind.RwLock limit bar mode is fits other = ltb-true 0 limit fits
by_kind kind.Reentrant limit bar Shared is fits other = cc
by_kind kind.Reentrant limit bar Exclusive is fits other = cc
by_kind kind.Reentrant limit bar Upgradable is fits other = cc

-- a reentrant lock has no bar, and is acquired exclusively
pub reentrant_is : (k : Kind) (limit : ℕ) (bar : Bool) (mode : Mode) → is_reentrant k ≡ true → (is_exclusive mode || is_rwlock k) ≡ true
    → fits_kind k limit bar ≡ true → (bar ≡ false) × (mode ≡ Exclusive)
reentrant_is kind.Reentrant limit bar Exclusive r is fits = (not-true bar (and_parts (nat_lt 0 limit) (not bar) fits).1, refl)
reentrant_is kind.Reentrant limit bar Shared r is fits = cc
reentrant_is kind.Reentrant limit bar Upgradable r is fits = cc
reentrant_is kind.Mutex limit bar mode r is fits = cc
reentrant_is kind.RwLock limit bar mode r is fits = cc

-- Turns

waits : (a b : Bool) → is_step_turn (Some (if a then Goes else (if b then Announces else Waits))) ≡ false → a ≡ false
waits true b e = cc
waits false true e = cc
waits false false e = refl

never_refused : (a b : Bool) → is_refused_turn (Some (if a then Goes else (if b then Announces else Waits))) ≡ false
never_refused true b = refl
never_refused false true = refl
never_refused false false = refl

pub no_step : (t : Turn) → is_wait t ≡ true → is_step_turn (Some t) ≡ false
no_step Waits e = refl
no_step t e = cc

module _ (lock : PlanLock) (hss : List (List Hold)) (q l : ℕ) where
  pub not_refused : (s : LockStep) → is_ranked_step s ≡ true → is_refused_turn (Some (turn_on lock (lock_holds hss q l) s)) ≡ false
  not_refused (lock_step.Modes step) r =
      never_refused (admits_step lock (lock_holds hss q l) step) (announces_itself lock (get_or (get_or hss q []) l no_hold) (lock_step.Modes step) && not (is_some (bar_from 0 l hss)))
  not_refused lock_step.Announce r = cc
  not_refused lock_step.Withdraw r = refl

  -- a call that has no turn waits for a lock that does not admit it
  pub step_blocks : (s : LockStep) → is_ranked_step s ≡ true → is_step_turn (Some (turn_on lock (lock_holds hss q l) s)) ≡ false
      → (mode : Mode) × (s ≡ lock_step.Modes (Acquire mode)) × (admits_step lock (lock_holds hss q l) (Acquire mode) ≡ false)
  step_blocks (lock_step.Modes (Acquire mode)) r e = (
    mode,
    refl,
    waits (admits_step lock (lock_holds hss q l) (Acquire mode))
        (announces_itself lock (get_or (get_or hss q []) l no_hold) (lock_step.Modes (Acquire mode)) && not (is_some (bar_from 0 l hss))) e,
  )
  step_blocks (lock_step.Modes (Change from Shared)) r e = cc
  step_blocks s r e = cc

-- a lock with a bar has no line
pub no_line : (lock : PlanLock) (s : LockStep) → fits_machine lock ≡ true → lock.bar ≡ true → lines_up lock s ≡ false
no_line lock (lock_step.Modes (Acquire mode)) fits bars =
    let no : (lock.fair && lock.bar) ≡ false = not-true _ (and_parts (fits_kind lock.kind lock.limit lock.bar) (not (lock.fair && lock.bar)) fits).1 in
    ap (λ (b : Bool). b && not (is_reentrant lock.kind)) (first_false lock.fair lock.bar bars no)
no_line lock s fits bars = refl

-- a step that lines up acquires
pub lined_mode : (lock : PlanLock) (s : LockStep) → lines_up lock s ≡ true → (mode : Mode) × (s ≡ lock_step.Modes (Acquire mode))
lined_mode lock (lock_step.Modes (Acquire mode)) e = (mode, refl)
lined_mode lock s e = cc

pub call_same : (a b : PlanCall) → Some (Call a) ≡ Some (Call b) → a ≡ b
call_same a b e = cc

pub call_is : (call : PlanCall) (mode : Mode) → call.step ≡ lock_step.Modes (Acquire mode)
    → call ≡ record { lock = call.lock; step = lock_step.Modes (Acquire mode) }
call_is call mode e = ap (λ (s : LockStep). record call { step = s }) e

pub bar_there : (bar : Option ℕ) (party : ℕ) (mode : Mode) → bar_lets_pass bar party mode ≡ false → (q : ℕ) × (bar ≡ Some q)
bar_there None party mode e = cc
bar_there (Some q) party mode e = (q, refl)

pub own_bar : (bar : Option ℕ) (q : ℕ) (mode : Mode) → bar ≡ Some q → is_exclusive mode ≡ true → bar_lets_pass bar q mode ≡ true
own_bar None q mode e x = cc
own_bar (Some b) q mode e x =
    let same : b ≡ q = cc in
    ap (λ (y : Bool). y && (b == q)) x ∙ eq-eqb b q same

pub write_mode : (s : LockStep) (mode : Mode) → is_write s ≡ true → s ≡ lock_step.Modes (Acquire mode) → is_exclusive mode ≡ true
write_mode s mode w e = ap is_write (sym e) ∙ w
