-- Holders: what all hold together, and runs of the modes by them.
use Rattle.std.specs.Prelude.{zero, suc, ◌≡◌, ◌≤◌, ℕ, ◌-◌, List, [], ◌∷◌, ◌++◌, sum_by, slice_get, slice_set, Option, Some, None, IsTrue}
use Rattle.lock_modes.specs.declared.mode_step.ModeStep.{ModeStep}
use Rattle.lock_modes.specs.declared.hold.Hold.{Hold}
use Rattle.lock_modes.specs.declared.lock_step.LockStep.{LockStep}
use Rattle.lock_modes.specs.declared.lock_step.LockStep.TheVariants.{Modes, Announce, Withdraw}
use Rattle.lock_modes.specs.Holds.{hold_has, hold_after}
use Rattle.lock_word.specs.BarredBags.{BarredBag, bars_of, PermitsLockStep}

-- the sum of several holds
abbrev pub all_of : List Hold → BarredBag
all_of holds =
    record {
      bag =
          record {
            shared = sum_by (λ (h : Hold). h.bag.shared) holds;
            exclusive = sum_by (λ (h : Hold). h.bag.exclusive) holds;
            upgradable = sum_by (λ (h : Hold). h.bag.upgradable) holds;
          };
      bars = sum_by (λ (h : Hold). bars_of h.announced) holds;
    }

-- a hold is part of the sum
pub record IsPart (own : Hold) (all : BarredBag) : Type 0 where
  pub shared : own.bag.shared ≤ all.bag.shared
  pub exclusive : own.bag.exclusive ≤ all.bag.exclusive
  pub upgradable : own.bag.upgradable ≤ all.bag.upgradable
  pub bars : bars_of own.announced ≤ all.bars

-- holders are numbered from 1
abbrev pub holder_at : {A : Type 0} → List A → ℕ → Option A
holder_at xs zero = None
holder_at xs (suc k) = slice_get xs k

-- one step of one holder
pub record HolderStep : Type 0 where
  pub holder : ℕ
  pub step : LockStep

-- the holder exists, holds what the step releases, and the sum of all holds permits the step
pub record IsHolderStep (limit : ℕ) (before : List Hold) (s : HolderStep) (after : List Hold) : Type 0 where
  pub own : Hold
  pub is_own : holder_at before s.holder ≡ Some own
  pub had : IsTrue (hold_has own s.step)
  pub permitted : PermitsLockStep own.announced limit (all_of before) s.step
  pub changed : after ≡ slice_set before (s.holder - 1) (hold_after own s.step)

-- the steps lead from one list of holds to the other, and each is permitted where it is made
abbrev pub IsHolderRun : ℕ → List Hold → List HolderStep → List Hold → Type 0
IsHolderRun limit before [] after = before ≡ after
IsHolderRun limit before (s ∷ ss) after =
    (mid : List Hold) × IsHolderStep limit before s mid × IsHolderRun limit mid ss after

-- the step on the modes; an announcement and a withdrawal make none
abbrev pub modes_of : LockStep → List ModeStep
modes_of (Modes step) = step ∷ []
modes_of Announce = []
modes_of Withdraw = []

-- the steps on the modes, without their holders
abbrev pub steps_of : List HolderStep → List ModeStep
steps_of [] = []
steps_of (s ∷ ss) = modes_of s.step ++ steps_of ss
