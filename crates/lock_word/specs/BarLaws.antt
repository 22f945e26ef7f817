-- The bar of a register, which names its party, against the bar of a word, which does not.
use Rattle.std.specs.Prelude.{◌≡◌, ℕ, ◌↔◌, Option, is_some, IsTrue}
use Rattle.lock_modes.specs.declared.mode.Mode.{Mode}
use Rattle.lock_modes.specs.declared.mode_step.ModeStep.TheVariants.{Acquire}
use Rattle.lock_modes.specs.declared.bag.Bag.{Bag}
use Rattle.lock_modes.specs.declared.lock_step.LockStep.TheVariants.{Modes}
use Rattle.lock_modes.specs.Bar.{bar_lets_pass, has_announced, bar_after}
use Rattle.lock_word.specs.BarredBags.{BarredBag, bars_of, StepPassesBar, barred_after}

-- a bag with the bar of a register, as a number of bars
abbrev pub barred_by : Option ℕ → Bag → BarredBag
barred_by bar bag = record { bag = bag; bars = bars_of (is_some bar) }

-- both bars let the acquisition pass, or neither does, and both are the same afterwards
pub record IsBarAlike (bar : Option ℕ) (party : ℕ) (mode : Mode) (bag : Bag) : Type 0 where
  pub lets_pass :
      IsTrue (bar_lets_pass bar party mode) ↔ StepPassesBar (has_announced bar party) (bars_of (is_some bar)) (Acquire mode)
  pub leaves : IsTrue (bar_lets_pass bar party mode)
      → (barred_after (has_announced bar party) (barred_by bar bag) (Modes (Acquire mode))).bars
      ≡ bars_of (is_some (bar_after bar mode))

abbrev pub BarEncodingsAgree : Type 0
BarEncodingsAgree = (bar : Option ℕ) (party : ℕ) (mode : Mode) (bag : Bag) → IsBarAlike bar party mode bag
