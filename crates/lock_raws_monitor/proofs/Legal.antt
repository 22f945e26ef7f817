-- Each call keeps the held tokens compatible.
use Rattle.std.proofs.Common.{◌≡◌, ◌↔◌, ℕ, ◌<◌, ◌≤◌, Bool, true, false, ◌&&◌, List, length, refl, sym, subst, ◌∙◌, arith, Option, Some, None, Result, Ok, Err}
use Rattle.std.proofs.lemmas.Bool.{and_parts}
use Rattle.std.specs.Prelude.{IsTrue, is_some, is_ok, IfSome, IfNone, IfOk, OnErr}
use Rattle.lock_modes.specs.declared.mode.Mode.{Mode}
use Rattle.lock_modes.specs.declared.mode_step.ModeStep.{ModeStep}
use Rattle.lock_modes.specs.declared.bag.Bag.{Bag}
use Rattle.lock_modes.specs.Modes.{tokens, AreCompatible, admits, may_become, is_move, one_more}
use Rattle.lock_modes.specs.Tokens.{bag_of_tokens, IsOutAs, Adds, Removes, Replaces}
use Rattle.lock_modes.specs.Limits.{IsLimit}
use Rattle.lock_raws_monitor.specs.TokenArbiter.{IsLegalState}
use Rattle.lock_modes.proofs.TokenBags.{tokens-bag_of_tokens}
use Rattle.lock_modes.proofs.ModeLemmas.{compatible_acquired, tokens-one_more}
use Rattle.lock_modes.proofs.TokenSteps.{MakesStep, acquires, releases, changes, stay_compatible}

-- compatible tokens are no more than the limit
pub compatible_within : (limit : ℕ) (b : Bag) → 0 < limit → AreCompatible limit b → tokens b ≤ limit
compatible_within limit b positive c = grind (arith, c.alone, c.within)

not_true : (answer : Bool) → (answer ≡ true → ⊥) → false ≡ answer
not_true true refuted = absurd (refuted refl)
not_true false refuted = refl

module _ {K : Type 0} where
  -- without room nothing is admitted
  pub full_admits_none : {ts : List (K × Mode)} {capacity readers : ℕ} {room : Bool} (mode : Mode) → IsLegalState ts capacity readers
      → (IsTrue room ↔ (length ts < capacity)) → room ≡ false → (passes : Bool)
      → false ≡ (passes && admits readers (bag_of_tokens ts) mode)
  full_admits_none {ts} {capacity} {readers} {room} mode legal fits full passes =
      let bag = bag_of_tokens ts in
      not_true (passes && admits readers bag mode) (λ passed.
      let admitted = (and_parts passes (admits readers bag mode) passed).1 in
      let one_more_legal = compatible_acquired readers bag mode legal.compatible admitted in
      let bound = compatible_within readers (one_more bag mode) legal.lawful.0 one_more_legal in
      let within : length ts < capacity = omega (arith, bound, tokens-one_more bag mode, tokens-bag_of_tokens ts, legal.as_many) in
      let wrong : true ≡ false = sym (fits.1 within) ∙ full in cc)

  -- a call that makes a step
  stepped : {old new : List (K × Mode)} {capacity capacity' readers readers' : ℕ} {step : ModeStep} → IsLegalState old capacity readers
      → MakesStep readers old new step → capacity' ≡ capacity → readers' ≡ readers
      → IsLegalState new capacity' readers'
  stepped {old} {new} legal made as_many limit = record {
    compatible = subst (λ l. AreCompatible l (bag_of_tokens new)) (sym limit) (stay_compatible legal.lawful.0 legal.compatible made);
    as_many = as_many ∙ legal.as_many ∙ sym limit;
    lawful = subst IsLimit (sym limit) legal.lawful;
  }

  -- a call that makes none
  pub kept : {old new : List (K × Mode)} {capacity capacity' readers readers' : ℕ} → IsLegalState old capacity readers
      → new ≡ old → capacity' ≡ capacity → readers' ≡ readers
      → IsLegalState new capacity' readers'
  kept {old} {new} {readers = readers} legal same as_many limit = record {
    compatible = subst (λ l. AreCompatible l (bag_of_tokens new)) (sym limit)
        (subst (λ ts. AreCompatible readers (bag_of_tokens ts)) (sym same) legal.compatible);
    as_many = as_many ∙ legal.as_many ∙ sym limit;
    lawful = subst IsLimit (sym limit) legal.lawful;
  }

  pub admitted_legal : {old new : List (K × Mode)} {capacity capacity' readers readers' : ℕ} (passes : Bool) (mode : Mode) (result : Option K)
      → IsLegalState old capacity readers
      → is_some result ≡ (passes && admits readers (bag_of_tokens old) mode)
      → IfSome result (λ token. Adds old new token mode) → IfNone result (new ≡ old)
      → capacity' ≡ capacity → readers' ≡ readers
      → IsLegalState new capacity' readers'
  admitted_legal {old} {readers = readers} passes mode (Some token) legal admitted added same as_many limit =
      let passed = and_parts passes (admits readers (bag_of_tokens old) mode) (sym admitted) in
      stepped legal (acquires readers mode passed.1 added) as_many limit
  admitted_legal passes mode None legal admitted added same as_many limit = kept legal same as_many limit

  -- where a token was looked for, which changed nothing, and given back
  pub given_back_legal : {first old new : List (K × Mode)} {capacity capacity' capacity'' readers readers' readers'' : ℕ} {token : K} (mode : Mode)
      → IsLegalState first capacity readers
      → old ≡ first → capacity' ≡ capacity → readers' ≡ readers
      → IsOutAs first token mode → Removes old new token
      → capacity'' ≡ capacity' → readers'' ≡ readers'
      → IsLegalState new capacity'' readers''
  given_back_legal {readers' = readers'} {token = token} mode legal same same_capacity same_readers out removed as_many limit =
      let out' = subst (λ ts. IsOutAs ts token mode) (sym same) out in
      stepped (kept legal same same_capacity same_readers) (releases readers' mode out' removed) as_many limit

  changed_step : {old new : List (K × Mode)} {capacity capacity' readers readers' : ℕ} {token : K} (from to : Mode) (result : Result K K)
      → IsLegalState old capacity readers
      → IsTrue (is_move from to) → IsOutAs old token from
      → is_ok result ≡ may_become (bag_of_tokens old) to
      → IfOk result (λ next. Replaces old new token next to) → OnErr result (new ≡ old)
      → capacity' ≡ capacity → readers' ≡ readers
      → IsLegalState new capacity' readers'
  changed_step {readers = readers} from to (Ok next) legal move out allowed replaced same as_many limit =
      stepped legal (changes readers from to move (sym allowed) out replaced) as_many limit
  changed_step from to (Err back) legal move out allowed replaced same as_many limit = kept legal same as_many limit

  -- and where its mode was changed, or not
  pub changed_legal : {first old new : List (K × Mode)} {capacity capacity' capacity'' readers readers' readers'' : ℕ} {token : K}
      (from to : Mode) (result : Result K K)
      → IsLegalState first capacity readers
      → old ≡ first → capacity' ≡ capacity → readers' ≡ readers
      → IsTrue (is_move from to) → IsOutAs first token from
      → is_ok result ≡ may_become (bag_of_tokens old) to
      → IfOk result (λ next. Replaces old new token next to) → OnErr result (new ≡ old)
      → capacity'' ≡ capacity' → readers'' ≡ readers'
      → IsLegalState new capacity'' readers''
  changed_legal {token = token} from to result legal same same_capacity same_readers move out allowed replaced kept_where as_many limit =
      let out' = subst (λ ts. IsOutAs ts token from) (sym same) out in
      changed_step from to result (kept legal same same_capacity same_readers) move out' allowed replaced kept_where as_many limit
