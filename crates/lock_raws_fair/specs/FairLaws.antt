-- What an idle lock admits, and what a lock admits while an upgrade waits.
use Rattle.std.specs.Prelude.{◌≡◌, ℕ, ◌+◌, ◌<◌, true, false, List, IsTrue}
use Rattle.lock_modes.specs.declared.mode.Mode.{Mode}
use Rattle.lock_modes.specs.declared.mode.Mode.TheVariants.{Shared, Exclusive, Upgradable}
use Rattle.lock_modes.specs.declared.bag.Bag.{Bag}
use Rattle.lock_modes.specs.Modes.{empty_bag, one_more, readers, may_become}
use Rattle.lock_modes.specs.Limits.{IsLimit}
use Rattle.lock_raws_fair.specs.declared.fair_arbiter.step.FairStep.{FairStep}
use Rattle.lock_raws_fair.specs.FairState.{FairState, fits}
use Rattle.lock_raws_fair.specs.FairSteps.{is_admission, is_end_of_upgrade, has_step, AddsNoToken, IsFairRun}

-- facts of admission: an empty bag admits every mode; a lone upgradable token may become exclusive; a bag that admitted a
-- reader admits another one, up to the limit
pub record IdleLocksAdmit : Type 0 where
  pub first : (limit : ℕ) (mode : Mode) → IsLimit limit → IsTrue (fits false limit empty_bag mode)
  pub upgrade : IsTrue (may_become (one_more empty_bag Upgradable) Exclusive)
  pub together : (limit : ℕ) (b : Bag) → IsTrue (fits false limit b Shared) → readers b + 1 < limit
      → IsTrue (fits false limit (one_more b Shared) Shared)

-- while an upgrade waits, and until it is admitted or withdrawn: no acquisition is admitted, with or without a ticket, no token
-- more is held, and the upgrade waits on
pub record LetsNobodyPass {K : Type 0} (old new : FairState K) (steps : List FairStep) : Type 0 where
  pub nobody : has_step is_admission steps ≡ false
  pub tokens : AddsNoToken old new
  pub waits : new.upgrade_waits ≡ true

-- of every list of permitted steps
abbrev pub NobodyPassesAnUpgrade : Type 0 → Type 0
NobodyPassesAnUpgrade K = (old new : FairState K) (steps : List FairStep) → old.upgrade_waits ≡ true → IsFairRun old steps new
    → has_step is_end_of_upgrade steps ≡ false → LetsNobodyPass old new steps
