-- The steps of a fair lock, and runs of them.
use Rattle.std.specs.Prelude.{◌≡◌, ◌≤◌, Bool, true, false, ◌||◌, if◌then◌else◌, List, [], ◌∷◌, length, IsTrue}
use Rattle.lock_raws_fair.specs.declared.fair_arbiter.step.FairStep.{FairStep}
use Rattle.lock_raws_fair.specs.declared.fair_arbiter.step.FairStep.TheVariants as fair
use Rattle.lock_raws_fair.specs.declared.line.step.LineStep.{LineStep}
use Rattle.lock_raws_fair.specs.declared.line.step.LineStep.TheVariants as line
use Rattle.lock_raws_fair.specs.Tickets.{Makes}
use Rattle.lock_raws_fair.specs.FairState.{FairState, may_pass, may_enter, KeepsTokens, KeepsLine}

-- an acquisition is admitted by the step, with or without a ticket
abbrev pub is_admission : FairStep → Bool
is_admission (fair.Enter t mode) = true
is_admission (fair.Pass mode) = true
is_admission other = false

abbrev pub is_end_of_upgrade : FairStep → Bool
is_end_of_upgrade fair.EndUpgrade = true
is_end_of_upgrade other = false

-- whether a step passes the test
abbrev pub has_step : (FairStep → Bool) → List FairStep → Bool
has_step test [] = false
has_step test (step ∷ steps) = test step || has_step test steps

-- the step that ends an upgrade: of the one that waits, or of one that is not announced
abbrev pub end_of : Bool → FairStep
end_of announced = if announced then fair.EndUpgrade else fair.Keep

-- the step that announces an upgrade, unless one is announced
abbrev pub announcement : Bool → FairStep
announcement is_new = if is_new then fair.Announce else fair.Keep

module _ {K : Type 0} where
  -- a step of the line admits an acquisition, where it may be admitted
  pub record Admits (old : FairState K) (may : Bool) (step : LineStep) (new : FairState K) : Type 0 where
    pub permitted : IsTrue may
    pub line : Makes old.line step new.line
    pub upgrade_waits : new.upgrade_waits ≡ old.upgrade_waits

  -- no token more is held
  abbrev pub AddsNoToken : FairState K → FairState K → Type 0
  AddsNoToken old new = length new.tokens_out ≤ length old.tokens_out

  -- the step is permitted in the old state, and leads to the new one
  abbrev pub MakesFairStep : FairState K → FairStep → FairState K → Type 0
  MakesFairStep old fair.Arrive new = Makes old.line line.Arrive new.line × KeepsTokens old new
  MakesFairStep old (fair.Leave t) new = Makes old.line (line.Leave t) new.line × KeepsTokens old new
  MakesFairStep old (fair.Enter t mode) new = Admits old (may_enter old t mode) (line.Enter t) new
  MakesFairStep old (fair.Pass mode) new = Admits old (may_pass old mode) line.Pass new
  MakesFairStep old fair.Keep new = KeepsLine old new × AddsNoToken old new
  MakesFairStep old fair.Announce new = (old.upgrade_waits ≡ false) × (new ≡ record old { upgrade_waits = true })
  MakesFairStep old fair.EndUpgrade new = (new.upgrade_waits ≡ false) × (new.line ≡ old.line) × AddsNoToken old new

  -- each step is permitted where it is made, and the steps lead from the old state to the new one
  abbrev pub IsFairRun : FairState K → List FairStep → FairState K → Type 0
  IsFairRun old [] new = old ≡ new
  IsFairRun old (step ∷ steps) new = (next : FairState K) × MakesFairStep old step next × IsFairRun next steps new
