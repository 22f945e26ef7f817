-- Each call keeps a machine sound, so every run does.
use Rattle.std.proofs.Common.{◌∙◌, ℕ, Bool, List, [], ◌∷◌, Some, None, refl}
use Rattle.lock_modes.specs.declared.mode_step.ModeStep.{ModeStep}
use Rattle.lock_machine.specs.declared.call.Call.{Call}
use Rattle.lock_machine.specs.declared.reply.Reply.{Reply}
use Rattle.lock_machine.specs.Operation.{Operation}
use Rattle.lock_machine.specs.Entries.{Entry, resumed_entry}
use Rattle.lock_machine.specs.Register.{Register, with_guard, with_change}
use Rattle.lock_machine.specs.Machine.{Machine, start}
use Rattle.lock_machine.specs.Sound.{IsSound}
use Rattle.lock_machine.specs.Steps.{step}
use Rattle.lock_machine.proofs.Splices.{Splice, splice}
use Rattle.lock_machine.proofs.SoundRegisters.{empty_sound, with_guard_sound, unlocked_sound, parked_sound, resumed_sound, abandoned_sound, moved_sound, with_bar_sound, admitted_sound, no_bar, rwlock_bar}
use Rattle.lock_modes.specs.Party.{id_of}
use Rattle.lock_machine.proofs.Admissions.{fitted_in}
use Rattle.lock_machine.specs.SoundRuns.{RunsAreSound, CallsKeepSound, KeepsLimits, RunsKeepLimits}
use Rattle.lock_machine.proofs.Effects.{Effect, effect, IsOut}

-- where the guard of an effect is
at_guard : (r : Register) (guard : ℕ) (e : Entry) (held : Bool) → IsOut r guard e held → Splice guard e r.entries
at_guard r guard e held out = splice guard e r.entries out.found

module _ {O T A : Type 0} (m : Machine T) (sound : IsSound m.register) where
  pub effect_sound : {call : Call O} {reply : Reply A} {steps : List ModeStep} {after : Machine T} → Effect m call reply steps after
      → IsSound after.register
  effect_sound (Effect.kept unnumbered) = sound
  effect_sound (Effect.acquired party mode lets) =
      admitted_sound (with_guard m.register (id_of party) mode) mode
      (with_guard_sound m.register sound (id_of party) mode lets.mode_of_kind lets.room
      (fitted_in m.register (id_of party) mode lets.admission))
  effect_sound (Effect.unlocked guard e out) = unlocked_sound m.register sound guard e (at_guard m.register guard e _ out) out.held
  effect_sound (Effect.parks guard e out) = parked_sound m.register sound guard e (at_guard m.register guard e _ out) out.held
  effect_sound (Effect.resumes party guard e out own ok) =
      admitted_sound (with_change m.register guard resumed_entry) e.mode
      (resumed_sound m.register sound guard e (at_guard m.register guard e _ out) (id_of party) out.held own
      (fitted_in m.register (id_of party) e.mode ok))
  effect_sound (Effect.abandoned guard e out) = abandoned_sound m.register sound guard e (at_guard m.register guard e _ out) out.held
  effect_sound (Effect.bumped party guard e out) = sound
  effect_sound (Effect.moves guard e to out kind move sole) =
      moved_sound m.register sound guard e (at_guard m.register guard e _ out) to out.held kind move sole
  effect_sound (Effect.announces party kind none) =
      with_bar_sound m.register (Some (id_of party)) (rwlock_bar m.kind (Some (id_of party)) kind) sound
  effect_sound (Effect.withdraws party own) = with_bar_sound m.register None (no_bar m.kind) sound
  effect_sound (Effect.written guard e answer value out kind mode) = sound
  effect_sound (Effect.written_upgraded guard e answer value out kind mode sole) = sound

-- no call changes the kind or a limit
effect_limits : {O T A : Type 0} {m after : Machine T} {call : Call O} {reply : Reply A} {steps : List ModeStep}
    → Effect m call reply steps after → KeepsLimits m.register after.register
effect_limits (Effect.kept unnumbered) = record { same_kind = refl; same_places = refl; same_limit = refl }
effect_limits other = record { same_kind = refl; same_places = refl; same_limit = refl }

module _ {O T A : Type 0} (meaning : O → Operation T A) where
  pub step_sound : (m : Machine T) (call : Call O) → IsSound m.register → IsSound (step meaning m call).machine.register
  step_sound m call sound = effect_sound m sound (effect meaning m call)

  pub step_limits : (m : Machine T) (call : Call O) → KeepsLimits m.register (step meaning m call).machine.register
  step_limits m call = effect_limits (effect meaning m call)

  pub runs_limits : RunsKeepLimits meaning
  runs_limits m [] = record { same_kind = refl; same_places = refl; same_limit = refl }
  runs_limits m (call ∷ calls) =
      let one = step_limits m call in
      let rest = runs_limits (step meaning m call).machine calls in
      record {
        same_kind = rest.same_kind ∙ one.same_kind;
        same_places = rest.same_places ∙ one.same_places;
        same_limit = rest.same_limit ∙ one.same_limit;
      }

  pub run_sound : CallsKeepSound meaning
  run_sound m [] sound = sound
  run_sound m (call ∷ calls) sound = run_sound (step meaning m call).machine calls (step_sound m call sound)

  pub runs_sound : RunsAreSound meaning
  runs_sound kind value places limit calls lawful =
      run_sound (start kind value places limit) calls (empty_sound kind places limit lawful)
