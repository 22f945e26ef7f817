-- The bar of a register and a number of bars let the same pass.
use Rattle.std.proofs.Common.{◌≡◌, ℕ, ◌-◌, Bool, true, false, ◌&&◌, ◌==◌, Some, None, IsTrue, refl}
use Rattle.std.specs.Prelude.{◌↔◌, is_some}
use Rattle.lock_modes.specs.declared.mode.Mode.{Mode}
use Rattle.lock_modes.specs.declared.mode.Mode.TheVariants.{Shared, Exclusive, Upgradable}
use Rattle.lock_modes.specs.declared.mode_step.ModeStep.TheVariants.{Acquire}
use Rattle.lock_modes.specs.Modes.{is_exclusive}
use Rattle.lock_modes.specs.Bar.{bar_after}
use Rattle.lock_word.specs.BarredBags.{bars_of, StepPassesBar}
use Rattle.lock_word.specs.BarLaws.{BarEncodingsAgree}

-- where a bar stands, which is one's own or is not

lets_own_pass : (own : Bool) (mode : Mode) → IsTrue (is_exclusive mode && own) ↔ StepPassesBar own 1 (Acquire mode)
lets_own_pass own mode = ((λ h. h), (λ e. e))

leaves_none : (announced : ℕ) (own : Bool) (mode : Mode) → IsTrue (is_exclusive mode && own)
    → 1 - bars_of (is_exclusive mode && own) ≡ bars_of (is_some (bar_after (Some announced) mode))
leaves_none announced true Exclusive h = refl
leaves_none announced false Exclusive h = cc
leaves_none announced own Shared h = cc
leaves_none announced own Upgradable h = cc

pub bar_encodings_agree : BarEncodingsAgree
bar_encodings_agree None party Shared bag = record { lets_pass = ((λ h. refl), (λ e. refl)); leaves = λ h. refl }
bar_encodings_agree None party Exclusive bag = record { lets_pass = ((λ h. refl), (λ e. refl)); leaves = λ h. refl }
bar_encodings_agree None party Upgradable bag = record { lets_pass = ((λ h. refl), (λ e. refl)); leaves = λ h. refl }
bar_encodings_agree (Some announced) party mode bag =
    record {
      lets_pass = lets_own_pass (announced == party) mode;
      leaves = leaves_none announced (announced == party) mode;
    }
