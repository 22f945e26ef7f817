-- A plan that was made, of locks that machines can be, can be made of machines.
use Rattle.std.proofs.Common.{◌≡◌, ℕ, zero, suc, ◌+◌, ◌≤◌, Bool, true, false, not, List, [], ◌∷◌, length, get_or, sum_by, None, Ok, IsTrue, nat_lt, refl, sym, ◌∙◌, arith}
use Rattle.std.proofs.lemmas.Bool.{and_parts, false≢true, not-true}
use Rattle.std.proofs.lemmas.Bool.Decides.{nat_tests}
use Rattle.lock_modes.specs.declared.kind.Kind.{Kind}
use Rattle.lock_modes.specs.declared.kind.Kind.TheVariants.{Mutex, RwLock, Reentrant}
use Rattle.lock_modes.specs.Kind.{is_rwlock}
use Rattle.lock_machine.specs.Sound.{IsLimitOf}
use Rattle.lock_plan.specs.declared.lock.PlanLock.{PlanLock}
use Rattle.lock_plan.specs.declared.program.ProgramPlace.{ProgramPlace}
use Rattle.lock_plan.specs.Known.{Known, known_of}
use Rattle.lock_plan.specs.Worlds.{no_lock}
use Rattle.lock_plan.specs.Checks.{program_fault, parties_fault, plan_fault, fits_kind, fits_machine, fit_machines}
use Rattle.lock_plan.proofs.Right.{no_first, no_second, known_when}
use Rattle.lock_plan_laws.specs.Scenes.{limit_for}
use Rattle.lock_plan_laws.specs.Bridge.{FitsMachines}

all_right : (locks : List PlanLock) (party : ℕ) (programs : List (List ProgramPlace)) → parties_fault locks party programs ≡ None
    → (p : ℕ) → (known : Known) × (known_of locks (get_or programs p []) ≡ Ok known)
all_right locks party [] e p = (_, refl)
all_right locks party (program ∷ programs) e zero =
    known_when party (known_of locks program) (no_first (program_fault locks party program) (parties_fault locks (party + 1) programs) e)
all_right locks party (program ∷ programs) e (suc p) =
    all_right locks (party + 1) programs (no_second (program_fault locks party program) (parties_fault locks (party + 1) programs) e) p

limit_of : (kind : Kind) (limit : ℕ) (bar : Bool) → fits_kind kind limit bar ≡ true → IsLimitOf kind (limit_for kind limit)
limit_of Mutex limit bar e = refl
limit_of RwLock limit bar e = grind (arith, nat_tests)
limit_of Reentrant limit bar e = let both = and_parts (nat_lt 0 limit) (not bar) e in grind (arith, nat_tests)

bar_of : (kind : Kind) (limit : ℕ) (bar : Bool) → fits_kind kind limit bar ≡ true → IsTrue bar → IsTrue (is_rwlock kind)
bar_of Mutex limit true e is = cc
bar_of Mutex limit false e is = cc
bar_of RwLock limit bar e is = refl
bar_of Reentrant limit bar e is = let both = and_parts (nat_lt 0 limit) (not bar) e in absurd (false≢true (sym (not-true bar both.1) ∙ is))

fit_at : (locks : List PlanLock) (l : ℕ) → fit_machines locks ≡ true
    → let lock = get_or locks l no_lock in fits_kind lock.kind lock.limit lock.bar ≡ true
fit_at [] l e = refl
fit_at (lock ∷ locks) zero e =
    (and_parts (fits_kind lock.kind lock.limit lock.bar) _ (and_parts (fits_machine lock) (fit_machines locks) e).0).0
fit_at (lock ∷ locks) (suc l) e = fit_at locks l (and_parts (fits_machine lock) (fit_machines locks) e).1

pub fits_by : (locks : List PlanLock) (programs : List (List ProgramPlace)) (room : ℕ)
    → ((p : ℕ) → (known : Known) × (known_of locks (get_or programs p []) ≡ Ok known))
    → IsTrue (fit_machines locks) → sum_by length programs ≤ room → FitsMachines locks programs room
fits_by locks programs room right fit enough =
    let lock : ℕ → PlanLock = λ l. get_or locks l no_lock in
    record {
      limits = λ l lt. limit_of (lock l).kind (lock l).limit (lock l).bar (fit_at locks l fit);
      bars = λ l is. bar_of (lock l).kind (lock l).limit (lock l).bar (fit_at locks l fit) is;
      right = right;
      enough = enough;
    }

pub fits : (locks : List PlanLock) (programs : List (List ProgramPlace)) (room : ℕ) → plan_fault locks programs ≡ None
    → IsTrue (fit_machines locks) → sum_by length programs ≤ room → FitsMachines locks programs room
fits locks programs room right fit enough =
    fits_by locks programs room (all_right locks 0 programs (no_first (parties_fault locks 0 programs) _ right)) fit enough
