-- The spent count is the number of releases.
use Rattle.std.proofs.Common.{◌≡◌, ℕ, ◌+◌, ◌-◌, ◌^◌, ◌≤◌, min, Bool, true, false, if◌then◌else◌, List, [], ◌∷◌, ◌++◌, arith}
use Rattle.lock_modes.specs.declared.mode.Mode.{Mode}
use Rattle.lock_modes.specs.declared.mode_step.ModeStep.{ModeStep}
use Rattle.lock_modes.specs.declared.mode_step.ModeStep.TheVariants.{Acquire, Release, Change}
use Rattle.lock_machine.specs.declared.call.Call.{Call}
use Rattle.lock_machine.specs.declared.reply.Reply.{Reply}
use Rattle.lock_machine.specs.Operation.{Operation}
use Rattle.lock_machine.specs.Entries.{parked_entry}
use Rattle.lock_machine.specs.Register.{moves_token, bumps_token, without_guard, with_change}
use Rattle.lock_machine.specs.Machine.{Machine, start, one_spent_more}
use Rattle.lock_machine.specs.Steps.{step, after_all}
use Rattle.lock_machine.specs.TokenSteps.{only_if, releases, token_steps, all_token_steps, SpentCountsReleases}
use Rattle.lock_machine.proofs.Effects.{Effect, effect}

releases-append : (xs ys : List ModeStep) → releases (xs ++ ys) ≡ releases xs + releases ys
releases-append [] ys = omega arith
releases-append (Acquire mode ∷ xs) ys = releases-append xs ys
releases-append (Release mode ∷ xs) ys = let rest = releases-append xs ys in omega arith
releases-append (Change from to ∷ xs) ys = releases-append xs ys

-- this many more were spent, up to the largest count
abbrev Spends : ℕ → List ModeStep → ℕ → Type 0
Spends old steps new = new ≡ min (old + releases steps) (2 ^ 64 - 1)

spends_none : (n : ℕ) → n ≤ 2 ^ 64 - 1 → Spends n [] n
spends_none n small = omega arith

spends_no_release : (n : ℕ) (take : Bool) (mode : Mode) → n ≤ 2 ^ 64 - 1 → Spends n (only_if take (Acquire mode ∷ [])) n
spends_no_release n true mode small = omega arith
spends_no_release n false mode small = omega arith

spends_one : (n : ℕ) (back : Bool) (mode : Mode) → n ≤ 2 ^ 64 - 1
    → Spends n (only_if back (Release mode ∷ [])) (if back then one_spent_more n else n)
spends_one n true mode small = omega arith
spends_one n false mode small = omega arith

spends_bump : (n : ℕ) (back : Bool) (mode : Mode) → n ≤ 2 ^ 64 - 1
    → Spends n (only_if back (Release mode ∷ Acquire mode ∷ [])) (if back then one_spent_more n else n)
spends_bump n true mode small = omega arith
spends_bump n false mode small = omega arith

module _ {O T A : Type 0} {m : Machine T} (small : m.spent ≤ 2 ^ 64 - 1) where
  effect_spends : {call : Call O} {reply : Reply A} {steps : List ModeStep} {after : Machine T} → Effect m call reply steps after
      → Spends m.spent steps after.spent
  effect_spends (Effect.acquired party mode lets) = spends_no_release m.spent _ mode small
  effect_spends (Effect.unlocked guard e out) = spends_one m.spent (moves_token (without_guard m.register guard)) e.mode small
  effect_spends (Effect.parks guard e out) = spends_one m.spent (moves_token (with_change m.register guard parked_entry)) e.mode small
  effect_spends (Effect.resumes party guard e out own ok) = spends_no_release m.spent _ e.mode small
  effect_spends (Effect.bumped party guard e out) = spends_bump m.spent (bumps_token m.register) e.mode small
  effect_spends other = spends_none m.spent small

module _ {O T A : Type 0} (meaning : O → Operation T A) where
  run_spends : (m : Machine T) (calls : List (Call O)) → m.spent ≤ 2 ^ 64 - 1
      → Spends m.spent (all_token_steps meaning m calls) (after_all meaning m calls).spent
  run_spends m [] small = spends_none m.spent small
  run_spends m (call ∷ calls) small =
      let next : Machine T = (step meaning m call).machine in
      let first : Spends m.spent (token_steps meaning m call) next.spent = effect_spends small (effect meaning m call) in
      let rest : Spends next.spent (all_token_steps meaning next calls) (after_all meaning next calls).spent = run_spends next calls
      (omega arith) in
      let sum = releases-append (token_steps meaning m call) (all_token_steps meaning next calls) in
      omega arith

  pub spent_counts : SpentCountsReleases meaning
  spent_counts kind value places limit calls =
      let first : Machine T = start kind value places limit in
      let spends : Spends 0 (all_token_steps meaning first calls) (after_all meaning first calls).spent = run_spends first calls
      (omega arith) in
      omega arith
