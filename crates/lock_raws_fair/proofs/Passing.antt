-- While an upgrade waits, no step admits an acquisition.
use Rattle.std.proofs.Common.{◌≡◌, ◌↔◌, ◌≤◌, Bool, true, false, not, ◌&&◌, List, [], ◌∷◌, length, refl, sym, ap, ◌∙◌, subst, arith, Result, Ok, Err}
use Rattle.std.specs.Prelude.{IsTrue, IfOk, OnErr}
use Rattle.std.specs.Bool.{OnTrue, OnFalse}
use Rattle.std.proofs.lemmas.Bool.{false≢true, true≢false, or_parts, or_from}
use Rattle.lock_modes.specs.declared.mode.Mode.{Mode}
use Rattle.lock_modes.specs.Tokens.{IsOutAs, Removes, Replaces}
use Rattle.lock_modes.proofs.TokenBags.{same_length}
use Rattle.lock_raws_fair.specs.declared.fair_arbiter.step.FairStep.{FairStep}
use Rattle.lock_raws_fair.specs.declared.fair_arbiter.step.FairStep.TheVariants as fair
use Rattle.lock_raws_fair.specs.FairLaws.{LetsNobodyPass}
use Rattle.lock_raws_fair.specs.FairState.{FairState, KeepsTokens, KeepsLine}
use Rattle.lock_raws_fair.specs.FairSteps.{is_admission, is_end_of_upgrade, has_step, AddsNoToken, MakesFairStep, IsFairRun}

-- neither a ticket nor an acquisition without one is admitted while an upgrade waits
refused : (may admitted waits : Bool) → waits ≡ true → (may && (not waits && admitted)) ≡ true → ⊥
refused true admitted true is permitted = false≢true permitted
refused false admitted true is permitted = false≢true permitted
refused may admitted false is permitted = false≢true is

module _ {K : Type 0} where
  record Stays (step : FairStep) (old next : FairState K) : Type 0 where
    nobody : is_admission step ≡ false
    tokens : AddsNoToken old next
    waits : next.upgrade_waits ≡ true

  kept : (step : FairStep) (old next : FairState K) → is_admission step ≡ false → old.upgrade_waits ≡ true → KeepsTokens old next
      → Stays step old next
  kept step old next nobody waits keeps =
      let same : length next.tokens_out ≡ length old.tokens_out = ap (λ (ts : List (K × Mode)). length ts) keeps.tokens_out in
      record { nobody = nobody; tokens = omega arith; waits = keeps.upgrade_waits ∙ waits }

  stays : (step : FairStep) (old next : FairState K) → old.upgrade_waits ≡ true → MakesFairStep old step next
      → is_end_of_upgrade step ≡ false → Stays step old next
  stays fair.Arrive old next waits makes on = kept fair.Arrive old next refl waits makes.1
  stays (fair.Leave t) old next waits makes on = kept (fair.Leave t) old next refl waits makes.1
  stays (fair.Enter t mode) old next waits makes on = absurd (refused _ _ old.upgrade_waits waits makes.permitted)
  stays (fair.Pass mode) old next waits makes on = absurd (refused _ _ old.upgrade_waits waits makes.permitted)
  stays fair.Keep old next waits makes on = record { nobody = refl; tokens = makes.1; waits = makes.0.upgrade_waits ∙ waits }
  stays fair.Announce old next waits makes on = absurd (true≢false (sym waits ∙ makes.0))
  stays fair.EndUpgrade old next waits makes on = absurd (true≢false on)

  pub nobody_passes_law : (steps : List FairStep) (old new : FairState K) → old.upgrade_waits ≡ true → IsFairRun old steps new
      → has_step is_end_of_upgrade steps ≡ false → LetsNobodyPass old new steps
  nobody_passes_law [] old new waits run on =
      let same : length old.tokens_out ≡ length new.tokens_out = ap (λ (q : FairState K). length q.tokens_out) run in
      record { nobody = refl; tokens = omega arith; waits = subst (λ (q : FairState K). q.upgrade_waits ≡ true) run waits }
  nobody_passes_law (step ∷ steps) old new waits run on =
      let split = or_parts (is_end_of_upgrade step) (has_step is_end_of_upgrade steps) on in
      let here = stays step old run.0 waits run.1 split.0 in
      let rest = nobody_passes_law steps run.0 new here.waits run.2 split.1 in
      record {
        nobody = or_from (is_admission step) (has_step is_admission steps) here.nobody rest.nobody;
        tokens = omega (arith, here.tokens, rest.tokens);
        waits = rest.waits;
      }

  -- a release adds no token
  pub released : (old new : List (K × Mode)) (token : K) (mode : Mode) (was_out : Bool) → (IsTrue was_out ↔ IsOutAs old token mode)
      → OnTrue was_out (Removes old new token) → OnFalse was_out (new ≡ old) → length new ≤ length old
  released old new token mode true is removed same =
      let out = is.0 refl in
      let before : length old ≡ length ((token, mode) ∷ out.0) = same_length out.1 in
      let after : length new ≡ length out.0 = same_length (removed mode out.0 out.1) in
      omega arith
  released old new token mode false is removed same =
      let unchanged : length new ≡ length old = ap (λ (ts : List (K × Mode)). length ts) same in
      omega arith

  -- nor does a change of a token's mode
  pub changed : {X : Type 0} (old new : List (K × Mode)) (token : K) (from to : Mode) (result : Result K X)
      → IfOk result (λ _. IsOutAs old token from) → IfOk result (λ next. Replaces old new token next to)
      → OnErr result (new ≡ old) → length new ≤ length old
  changed old new token from to (Ok next) out replaced same =
      let before : length old ≡ length ((token, from) ∷ out.0) = same_length out.1 in
      let after : length new ≡ length ((next, to) ∷ out.0) = same_length (replaced from out.0 out.1) in
      omega arith
  changed old new token from to (Err refused) out replaced same =
      let unchanged : length new ≡ length old = ap (λ (ts : List (K × Mode)). length ts) same in
      omega arith

  -- the step from the state that a call finds
  pub keeps : {first old new : FairState K} → first ≡ old → KeepsLine first new → AddsNoToken first new → MakesFairStep old fair.Keep new
  keeps {first} {old} {new} same line tokens = subst (λ (q : FairState K). KeepsLine q new × AddsNoToken q new) same (line, tokens)
