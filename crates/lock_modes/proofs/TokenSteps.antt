-- A change of the held tokens is a mode step.
use Rattle.std.proofs.Common.{◌≡◌, ℕ, ◌<◌, List, ◌∷◌, sym, ap, subst, ◌∙◌}
use Rattle.std.specs.Prelude.{IsTrue}
use Rattle.lock_modes.specs.declared.mode.Mode.{Mode}
use Rattle.lock_modes.specs.declared.mode_step.ModeStep.{ModeStep}
use Rattle.lock_modes.specs.declared.mode_step.ModeStep.TheVariants.{Acquire, Release, Change}
use Rattle.lock_modes.specs.declared.bag.Bag.{Bag}
use Rattle.lock_modes.specs.Modes.{AreCompatible, may_become, is_move, count_of, one_more, one_less}
use Rattle.lock_modes.specs.ModeRuns.{Permits, bag_after}
use Rattle.lock_modes.specs.Tokens.{bag_of_tokens, IsOutAs, Adds, Removes, Replaces}
use Rattle.lock_modes.proofs.TokenBags.{bag_of_same}
use Rattle.lock_modes.proofs.ModeLemmas.{count-one_more, one_less-one_more, compatible_after}

module _ {K : Type 0} where
  -- the step is permitted next to the old tokens, and leads to the new ones
  pub record MakesStep (limit : ℕ) (old new : List (K × Mode)) (step : ModeStep) : Type 0 where
    pub permitted : Permits limit (bag_of_tokens old) step
    pub after : bag_of_tokens new ≡ bag_after (bag_of_tokens old) step

  pub acquires : {old new : List (K × Mode)} {token : K} (limit : ℕ) (mode : Mode) → Permits limit (bag_of_tokens old) (Acquire mode)
      → Adds old new token mode → MakesStep limit old new (Acquire mode)
  acquires {old} {new} {token} limit mode admitted added = record {
    permitted = admitted;
    after = bag_of_same new ((token, mode) ∷ old) added;
  }

  pub releases : {old new : List (K × Mode)} {token : K} (limit : ℕ) (mode : Mode) → IsOutAs old token mode
      → Removes old new token → MakesStep limit old new (Release mode)
  releases {old} {new} {token} limit mode out removed =
      let others = out.0 in
      let before : bag_of_tokens old ≡ one_more (bag_of_tokens others) mode = bag_of_same old ((token, mode) ∷ others) out.1 in
      let rest : one_less (bag_of_tokens old) mode ≡ bag_of_tokens others =
      ap (λ (b : Bag). one_less b mode) before ∙ one_less-one_more (bag_of_tokens others) mode in
      record {
        permitted = subst (λ (b : Bag). 0 < count_of b mode) (sym before) (count-one_more (bag_of_tokens others) mode);
        after = bag_of_same new others (removed mode others out.1) ∙ sym rest;
      }

  pub changes : {old new : List (K × Mode)} {token next : K} (limit : ℕ) (from to : Mode) → IsTrue (is_move from to)
      → IsTrue (may_become (bag_of_tokens old) to) → IsOutAs old token from → Replaces old new token next to
      → MakesStep limit old new (Change from to)
  changes {old} {new} {token} {next} limit from to move allowed out replaced =
      let others = out.0 in
      let before : bag_of_tokens old ≡ one_more (bag_of_tokens others) from = bag_of_same old ((token, from) ∷ others) out.1 in
      let rest : one_less (bag_of_tokens old) from ≡ bag_of_tokens others =
      ap (λ (b : Bag). one_less b from) before ∙ one_less-one_more (bag_of_tokens others) from in
      record {
        permitted = (
          subst (λ (b : Bag). 0 < count_of b from) (sym before) (count-one_more (bag_of_tokens others) from),
          move,
          allowed,
        );
        after = bag_of_same new ((next, to) ∷ others) (replaced from others out.1) ∙ ap (λ (b : Bag). one_more b to) (sym rest);
      }

  pub stay_compatible : {old new : List (K × Mode)} {step : ModeStep} {limit : ℕ} → 0 < limit
      → AreCompatible limit (bag_of_tokens old) → MakesStep limit old new step → AreCompatible limit (bag_of_tokens new)
  stay_compatible {old} {new} {step} {limit} positive legal made =
      subst (AreCompatible limit) (sym made.after) (compatible_after limit (bag_of_tokens old) step positive legal made.permitted)
