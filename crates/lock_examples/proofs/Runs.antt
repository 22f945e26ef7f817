-- Steps that are made one after another.
use Rattle.std.proofs.Common.{ℕ, ◌+◌, ◌<◌, List, drop, get_or, length, subst, sym}
use Rattle.std.proofs.lemmas.List.{drop_more}
use Rattle.lock_api.specs.declared.model.Bag.{Bag}
use Rattle.lock_api.specs.declared.model.ModeStep.{ModeStep}
use Rattle.lock_api.specs.ModeRuns.{IsModeRun, Permits, bag_after}

module _ (limit : ℕ) (out last : Bag) (steps : List ModeStep) (i : ℕ) (d : ModeStep) (within : i < length steps) where
  -- a step that may be made, and a run of those after it
  pub with_step : Permits limit out (get_or steps i d) → IsModeRun limit (bag_after out (get_or steps i d)) (drop (i + 1) steps) last
      → IsModeRun limit out (drop i steps) last
  with_step permitted run =
      subst (λ rest. IsModeRun limit out rest last) (sym (drop_more steps i d within)) (permitted, run)

  -- the first of a run of steps, and those after it
  pub first_step : IsModeRun limit out (drop i steps) last
      → Permits limit out (get_or steps i d) × IsModeRun limit (bag_after out (get_or steps i d)) (drop (i + 1) steps) last
  first_step run = subst (λ rest. IsModeRun limit out rest last) (drop_more steps i d within) run
