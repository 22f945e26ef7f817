-- Programs that keep an order are in it, for any number of parties.
use Rattle.std.proofs.Common.{◌≡◌, ℕ, zero, suc, ◌+◌, ◌<◌, inl, inr, true, false, not, List, [], ◌∷◌, length, get_or, Result, Ok, refl, ap, sym, ◌∙◌, subst, arith}
use Rattle.std.proofs.lemmas.Bool.{and_parts, cases_eq, not-true}
use Rattle.std.proofs.lemmas.List.{get_or-map, length-map}
use Rattle.lock_modes.specs.Kind.{is_reentrant}
use Rattle.lock_plan.specs.declared.lock.PlanLock.{PlanLock}
use Rattle.lock_plan.specs.declared.program.ProgramPlace.{ProgramPlace}
use Rattle.lock_plan.specs.Checks.{fit_machines}
use Rattle.lock_plan.specs.Known.{Known, PlaceFault, known_of}
use Rattle.lock_plan.specs.Worlds.{no_lock}
use Rattle.lock_plan_laws.specs.OrderChecks.{keeps_known}
use Rattle.lock_plan_laws.specs.Ranks.{IsOrdered, IsOrderedPlan}
use Rattle.lock_plan_laws.proofs.OrderChecks.{ordered_is}
use Rattle.lock_plan_laws.proofs.RankedLocks.{never_deadlock}
use Rattle.lock_plan_order.specs.LockOrders.{AreKept, AreKnown, EachRunsOneOf, IsKept, none_reentrant, rank_in}

single : (locks : List PlanLock) → none_reentrant locks ≡ true → (lock : ℕ) → is_reentrant (get_or locks lock no_lock).kind ≡ false
single [] e lock = refl
single (lock ∷ locks) e zero = not-true _ (and_parts (not (is_reentrant lock.kind)) (none_reentrant locks) e).0
single (lock ∷ locks) e (suc other) = single locks (and_parts (not (is_reentrant lock.kind)) (none_reentrant locks) e).1 other

-- what holds below a number and of it, holds below the next one
pub one_more : (P : ℕ → Type 0) (n : ℕ) → ((p : ℕ) → p < n → P p) → P n → (p : ℕ) → p < n + 1 → P p
one_more P n below here p lt = elim (cases_eq p n) [
  | inl same ↦ subst P (sym same) here
  | inr other ↦ below p (omega (arith, lt, other))
]

module _ (locks : List PlanLock) (programs : List (List ProgramPlace)) (known : List Known) (told : AreKnown locks programs known) where
  abbrev as_ok : Known → Result Known PlaceFault
  as_ok held = Ok held

  pub as_many : length programs ≡ length known
  as_many = sym (length-map programs (known_of locks)) ∙ ap length told ∙ length-map known as_ok

  pub known_at_program : (p : ℕ) → p < length programs → known_of locks (get_or programs p []) ≡ Ok (get_or known p [])
  known_at_program p lt =
      sym (get_or-map (known_of locks) programs p [] (Ok []) lt)
      ∙ ap (λ (l : List (Result Known PlaceFault)). get_or l p (Ok [])) told
      ∙ get_or-map as_ok known p [] (Ok []) (omega (arith, lt, as_many))

  module _ (order : List ℕ) (kept : AreKept order programs known) where
    program_ordered : (p : ℕ) → p < length programs → IsOrdered (rank_in order) locks (get_or programs p [])
    program_ordered p lt =
        ordered_is (rank_in order) locks (get_or programs p [])
        (ap (keeps_known (rank_in order) (get_or programs p [])) (known_at_program p lt) ∙ kept p lt)

    in_order : fit_machines locks ≡ true → none_reentrant locks ≡ true → (parties : List (List ProgramPlace)) → EachRunsOneOf programs parties
        → IsOrderedPlan (rank_in order) locks parties
    in_order fit plain parties are = record {
      machines = fit;
      single = single locks plain;
      ordered = λ p lt.
          let of = are p lt in
          subst (IsOrdered (rank_in order) locks) (sym of.1.1) (program_ordered of.0 of.1.0);
    }

    pub kept_is : fit_machines locks ≡ true → none_reentrant locks ≡ true → IsKept locks programs order
    kept_is fit plain = record {
      ordered = in_order fit plain;
      never_deadlocks = λ servers parties are. never_deadlock (rank_in order) servers locks parties (in_order fit plain parties are);
    }
