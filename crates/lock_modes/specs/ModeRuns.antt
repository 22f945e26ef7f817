-- Runs of the modes: legal sequences of acquisitions, releases and changes on a bag.
use Rattle.std.specs.Prelude.{◌≡◌, ℕ, ◌<◌, Bool, true, nat_lt, List, [], ◌∷◌, IsTrue}
use Rattle.lock_modes.specs.declared.mode_step.ModeStep.{ModeStep}
use Rattle.lock_modes.specs.declared.mode_step.ModeStep.TheVariants.{Acquire, Release, Change}
use Rattle.lock_modes.specs.declared.bag.Bag.{Bag}
use Rattle.lock_modes.specs.Modes.{empty_bag, count_of, one_more, one_less, admits, is_move, may_become}

-- whether the bag permits the step
abbrev pub Permits : ℕ → Bag → ModeStep → Type 0
Permits limit b (Acquire mode) = IsTrue (admits limit b mode)
Permits limit b (Release mode) = 0 < count_of b mode
Permits limit b (Change from to) = (0 < count_of b from) × IsTrue (is_move from to) × IsTrue (may_become b to)

-- whether the bag has the mode that the step releases or changes
abbrev pub has : Bag → ModeStep → Bool
has b (Acquire mode) = true
has b (Release mode) = nat_lt 0 (count_of b mode)
has b (Change from to) = nat_lt 0 (count_of b from)

-- the bag after the step
abbrev pub bag_after : Bag → ModeStep → Bag
bag_after b (Acquire mode) = one_more b mode
bag_after b (Release mode) = one_less b mode
bag_after b (Change from to) = one_more (one_less b from) to

-- the steps lead from one bag to the other, and each is permitted where it is made
abbrev pub IsModeRun : ℕ → Bag → List ModeStep → Bag → Type 0
IsModeRun limit before [] after = before ≡ after
IsModeRun limit before (step ∷ steps) after =
    Permits limit before step × IsModeRun limit (bag_after before step) steps after

-- the steps are a run of the modes from the empty bag
abbrev pub Replays : ℕ → List ModeStep → Type 0
Replays limit steps = (last : Bag) × IsModeRun limit empty_bag steps last
