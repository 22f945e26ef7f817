-- What the next action tells of a call.
use Rattle.std.proofs.Common.{◌≡◌, ◌^◌, Bool, true, false, nat_lt, if◌then◌else◌, IsTrue, refl, sym, ap, subst, ◌∙◌}
use Rattle.std.proofs.lemmas.Bool.{true≢false}
use Rattle.lock_modes.specs.Holds.{hold_has}
use Rattle.lock_word.specs.declared.down.Down.{Down}
use Rattle.lock_word.specs.Word.{step_of_down}
use Rattle.lock_one.specs.declared.action.Action.{Action}
use Rattle.lock_one.specs.declared.action.Action.TheVariants as action
use Rattle.lock_one.specs.declared.call.WordCall.{WordCall}
use Rattle.lock_one.specs.declared.stage.Stage.{Stage}
use Rattle.lock_one.specs.declared.stage.Stage.TheVariants as stage
use Rattle.lock_one.specs.declared.sleep_view.SleepView.{SleepView}
use Rattle.lock_one.specs.declared.sleep_view.Debt.{Debt}
use Rattle.lock_one.specs.declared.sleep_view.Debt.TheVariants as debt
use Rattle.lock_one.specs.Machine.{class_of, is_brief, sleep_of}
use Rattle.lock_one.specs.Steps.{IsAt, IsWake, is_step}

-- a step on the word
abbrev pub on_word : Action → Bool
on_word action.Load = true
on_word (action.Exchange x y) = true
on_word (action.Subtract d) = true
on_word other = false

quiet : (call : WordCall) → on_word (sleep_of call) ≡ false
quiet call = by (nat_lt call.readers (2 ^ 27))
  where
    by : (b : Bool) → on_word (if b then action.Sleep call.loaded (class_of call.announced call.want) (is_brief call) else action.Yield) ≡ false
    by true = refl
    by false = refl

pub steps_on : (st : Stage) (call : WordCall) (v : SleepView) (a : Action) → IsAt st call v a → on_word a ≡ true → is_step st ≡ true
steps_on stage.Look call v a is h = refl
steps_on stage.Try call v a is h = refl
steps_on stage.Pause call v a is h = refl
steps_on stage.Mark call v a is h = refl
steps_on stage.Sleep call v a is h = absurd (true≢false (sym h ∙ (ap on_word is.5 ∙ quiet call)))
steps_on stage.Withdraw call v a is h = refl
steps_on stage.Leave call v a is h = refl
steps_on stage.LookToRemove call v a is h = refl
steps_on stage.Subtract call v a is h = refl
steps_on stage.Release call v a is h = refl
steps_on stage.Wake call v a is h = by v.debt is.1
  where
    by : (d : Debt) → IsWake d a → is_step stage.Wake ≡ true
    by debt.Nothing e = absurd e
    by debt.One e = absurd (true≢false (sym h ∙ ap on_word e))
    by debt.All e = absurd (true≢false (sym h ∙ ap on_word e))
    by debt.Next e = absurd (true≢false (sym h ∙ ap on_word e))
    by debt.Turn e = absurd (true≢false (sym h ∙ ap on_word e))
steps_on stage.WakeRefused call v a is h = absurd (true≢false (sym h ∙ ap on_word is.2))
steps_on stage.WakeAcquired call v a is h = absurd (true≢false (sym h ∙ ap on_word is.2))
steps_on stage.Acquired call v a is h = absurd (true≢false (sym h ∙ ap on_word is.1))
steps_on stage.Refused call v a is h = absurd (true≢false (sym h ∙ ap on_word is.1))
steps_on stage.Ended call v a is h = absurd (true≢false (sym h ∙ ap on_word is.1))

-- who subtracts holds what the release takes
pub subtracts_own : (st : Stage) (call : WordCall) (v : SleepView) (d : Down) → IsAt st call v (action.Subtract d) → IsTrue (hold_has v.held (step_of_down d))
subtracts_own stage.Look call v d is = let e = is.1 in cc
subtracts_own stage.Try call v d is = let e = is.2 in cc
subtracts_own stage.Pause call v d is = absurd is.1
subtracts_own stage.Mark call v d is = let e = is.4 in cc
subtracts_own stage.Sleep call v d is = absurd (true≢false (ap on_word is.5 ∙ quiet call))
subtracts_own stage.Withdraw call v d is = let e = is.4 in cc
subtracts_own stage.Leave call v d is = let e = is.4 in cc
subtracts_own stage.LookToRemove call v d is = let e = is.2 in cc
subtracts_own stage.Subtract call v d is =
    let same : d ≡ call.down = ap taken is.2 in
    subst (λ x. IsTrue (hold_has v.held (step_of_down x))) (sym same) is.0
  where
    taken : Action → Down
    taken (action.Subtract x) = x
    taken other = d
subtracts_own stage.Release call v d is = let e = is.2 in cc
subtracts_own stage.Wake call v d is = by v.debt is.1
  where
    by : (x : Debt) → IsWake x (action.Subtract d) → IsTrue (hold_has v.held (step_of_down d))
    by debt.Nothing e = absurd e
    by debt.One e = cc
    by debt.All e = cc
    by debt.Next e = cc
    by debt.Turn e = cc
subtracts_own stage.WakeRefused call v d is = let e = is.2 in cc
subtracts_own stage.WakeAcquired call v d is = let e = is.2 in cc
subtracts_own stage.Acquired call v d is = let e = is.1 in cc
subtracts_own stage.Refused call v d is = let e = is.1 in cc
subtracts_own stage.Ended call v d is = let e = is.1 in cc
