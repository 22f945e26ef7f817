-- Nothing is admitted next to a held exclusive guard.
use Rattle.std.proofs.Common.{◌≡◌, ℕ, ◌+◌, ◌<◌, Bool, true, false, if◌then◌else◌, [], ◌∷◌, ◌++◌, Option, Some, None, Ok, refl, ap, sym, ◌∙◌, subst, arith, eq-eqb}
use Rattle.std.specs.Prelude.{IsErr, IfOk, IsNone}
use Rattle.lock_modes.specs.declared.mode.Mode.{Mode}
use Rattle.lock_modes.specs.declared.mode.Mode.TheVariants.{Exclusive}
use Rattle.lock_modes.specs.declared.kind.Kind.{Kind}
use Rattle.lock_machine.specs.declared.call.Want.{Want}
use Rattle.lock_modes.specs.declared.fault.Fault.TheVariants as fault
use Rattle.lock_modes.specs.Modes.{count_of}
use Rattle.lock_modes.specs.Kind.{is_reentrant}
use Rattle.lock_machine.specs.Entries.{Entry, find, resumed_entry, held_bag}
use Rattle.lock_machine.specs.Register.{admits_party, is_full_count, with_guard, with_change, after_admission}
use Rattle.lock_machine.specs.Machine.{Machine}
use Rattle.lock_machine.specs.Refusals.{mode_of, acquisition_refusal, parked_guard}
use Rattle.lock_machine.specs.Calls.{CallEffect, blocking_answer, refuse, give, with_register, acquire, resume}
use Rattle.lock_machine.proofs.Splices.{find-append}
use Rattle.lock_machine.proofs.Admissions.{not_let_in_beside_exclusive}
use Rattle.lock_machine.specs.Sound.{IsModeOf}
use Rattle.lock_machine.specs.Exclusion.{IsHeld, AdmitsNobody, ExclusiveGuardsExclude, MutexGuardsExclude, NewGuardsAreHeld}
use Rattle.lock_machine.proofs.CallEffects.{of_unless, of_guard, of_both}
use Rattle.lock_machine.proofs.SoundRegisters.{out_mode}
use Rattle.lock_machine.proofs.GuardNumbers.{find-above}
use Rattle.lock_machine.proofs.Written.{held_is_counted}

module _ {T : Type 0} (m : Machine T) where
  -- a machine whose register admits nothing
  lets_nobody_in : ((party : ℕ) (mode : Mode) → admits_party m.register party mode ≡ false) → AdmitsNobody m
  lets_nobody_in nobody = record {
    none_given = λ want party. asked want party (λ turn. IfOk turn.answer (λ found. IsNone found)) (λ f. tt) refl;
    blocking_refused = λ want party. asked want party (λ turn. IsErr (blocking_answer turn.answer)) (λ f. refl) refl;
    none_resumed = resume_refused;
  }
    where
      asked : (want : Want) (party : ℕ) (P : CallEffect (Option ℕ) T → Type 0) → ((f : _) → P (refuse m f)) → P (give None m)
          → P (acquire m want party)
      asked want party P refused none =
          of_unless P m (acquisition_refusal m.register want party) _ refused
          (λ passed. subst (λ (b : Bool). P (if b then give (Some (m.last + 1))
          (with_register m (after_admission (with_guard m.register party (mode_of want)) (mode_of want))) else give None m))
          (sym (nobody party (mode_of want))) none)

      resume_refused : (party guard : ℕ) → IsErr (resume m party guard).answer
      resume_refused party guard =
          of_guard (λ turn. IsErr turn.answer) m parked_guard party guard _ (λ f. refl)
          (λ e meets. of_both (λ turn. IsErr turn.answer) (is_full_count m.register party) _ _ (λ full. refl)
          (λ room. subst (λ (b : Bool). IsErr
          (if b then give tt (with_register m (after_admission (with_change m.register guard resumed_entry) e.mode))
          else refuse m fault.WouldWait).answer) (sym (nobody party e.mode)) refl))

  beside_exclusive : (guard : ℕ) (holder : IsHeld m.register guard) → is_reentrant m.kind ≡ false
      → holder.entry.mode ≡ Exclusive → AdmitsNobody m
  beside_exclusive guard holder plain exclusive =
      let counted = held_is_counted guard holder.entry m.entries holder.found holder.held in
      let out : 0 < (held_bag m.entries).exclusive =
      subst (λ (mode : Mode). 0 < count_of (held_bag m.entries) mode) exclusive counted in
      lets_nobody_in (λ party mode. not_let_in_beside_exclusive m.register party mode plain out)

module _ {T : Type 0} where
  pub exclusive_excludes : ExclusiveGuardsExclude T
  exclusive_excludes m guard holder plain exclusive = beside_exclusive m guard holder plain exclusive

  pub mutex_excludes : MutexGuardsExclude T
  mutex_excludes m guard sound kind holder =
      let of_kind = out_mode m.register guard holder.entry sound holder.found in
      beside_exclusive m guard holder (ap is_reentrant kind) (subst (λ (k : Kind). IsModeOf k holder.entry.mode) kind of_kind)

  -- an acquisition puts its guard behind the others, whose numbers are lower
  pub new_is_held : NewGuardsAreHeld T
  new_is_held m want party number sound answered =
      let new : Entry = record { party = party; mode = mode_of want; held = true } in
      let behind : (other : ℕ) → m.last + 1 ≡ other → find other (m.entries ++ (m.last + 1, new) ∷ []) ≡ Some new =
      λ other same.
      find-append other m.entries ((m.last + 1, new) ∷ [])
      (find-above 0 m.last other m.entries sound.legal.numbered (omega arith))
      ∙ ap (λ (b : Bool). if b then Some new else None) (eq-eqb (m.last + 1) other same) in
      of_unless (λ turn. turn.answer ≡ Ok (Some number) → find number turn.machine.entries ≡ Some new) m
      (acquisition_refusal m.register want party) _ (λ f told. cc)
      (λ passed. of_both (λ turn. turn.answer ≡ Ok (Some number) → find number turn.machine.entries ≡ Some new)
      (admits_party m.register party (mode_of want)) _ _
      (λ ok told. let same : m.last + 1 ≡ number = cc in behind number same)
      (λ others told. cc)) answered
