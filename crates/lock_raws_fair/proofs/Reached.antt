-- Each step keeps a line reached.
use Rattle.std.proofs.Common.{◌≡◌, ℕ, true, false, List, [], ◌∷◌, ◌++◌, sym, ap, ◌∙◌, subst}
use Rattle.std.specs.Prelude.{IsTrue}
use Rattle.lock_raws_fair.specs.declared.line.step.LineStep.{LineStep}
use Rattle.lock_raws_fair.specs.Tickets.{Line, Makes, empty_line, is_first, permits, line_after}
use Rattle.lock_raws_fair.specs.LineLaws.{IsLineRun, IsReached, IsEarliest}
use Rattle.lock_raws_fair.proofs.Order.{empty_in_order, rising_first}
use Rattle.lock_raws_fair.proofs.Leaving.{later}

run_more : (steps : List LineStep) (old here new : Line) (step : LineStep) → IsLineRun old steps here → Makes here step new
    → IsLineRun old (steps ++ step ∷ []) new
run_more [] old here new step run made = (
  subst (λ (line : Line). IsTrue (permits line step)) (sym run) made.permitted,
  ap (λ (line : Line). line_after line step) run ∙ sym made.after,
)
run_more (first ∷ steps) old here new step run made = (run.0, run_more steps (line_after old first) here new step run.1 made)

pub reached_more : {old new : Line} {step : LineStep} → IsReached old → Makes old step new → IsReached new
reached_more {old} {new} {step} reached made = (reached.0 ++ step ∷ [], run_more reached.0 empty_line old new step reached.1 made)

pub first_is_earliest : (line : Line) (t : ℕ) → IsReached line → is_first line t ≡ true → IsEarliest line t
first_is_earliest line t reached leading s among =
    let order = (later reached.0 empty_line line (λ _. false) empty_in_order reached.1).order in
    rising_first 0 line.waiting t s order.rises leading among
