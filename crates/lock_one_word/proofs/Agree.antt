-- A step on the word is the machine's step, for each call of the party that asks for it.
use Rattle.std.proofs.Common.{◌⊎◌, ◌≡◌, ℕ, ◌^◌, ◌<◌, true, inl, inr, List, slice_get, slice_set, Some, refl, sym, ap, subst, ◌∙◌}
use Rattle.std.proofs.lemmas.Bool.{false≢true}
use Rattle.lock_modes.specs.Limits.{IsLimit}
use Rattle.lock_modes.specs.declared.hold.Hold.{Hold}
use Rattle.lock_one.specs.declared.action.Action.{Action}
use Rattle.lock_one.specs.declared.action.Action.TheVariants as action
use Rattle.lock_one.specs.declared.call.WordCall.{WordCall}
use Rattle.lock_one.specs.declared.stage.Stage.{Stage}
use Rattle.lock_one.specs.declared.stage.Stage.TheVariants as stage
use Rattle.lock_one.specs.declared.sleep_view.WordLimits.{WordLimits}
use Rattle.lock_one.specs.declared.sleep_view.SleepView.{SleepView}
use Rattle.lock_one.specs.declared.sleep_view.SleepState.{SleepState}
use Rattle.lock_one.specs.declared.sleep_view.SleepState.TheVariants.{Awake}
use Rattle.lock_one.specs.declared.sleep_view.Debt.TheVariants as debt
use Rattle.lock_one.specs.Machine.{word_marked, next_of}
use Rattle.lock_one.specs.Runs.{limits_in, debt_at}
use Rattle.lock_one.specs.Steps.{made, limits_of, IsAt, IsPause, is_step, Keeps}
use Rattle.lock_one.proofs.Kept.{StepKept}
use Rattle.lock_one.proofs.RunViews.{owes_at, same_view}
use Rattle.lock_one.proofs.Steps.{steps_keep_the_rule}
use Rattle.lock_one_word.specs.Seats.{placed, Task, IsGoing}
use Rattle.lock_one_word.proofs.Parties.{same_hold}
use Rattle.lock_one_word.proofs.Loaded.{stays_small}
use Rattle.lock_one_word.proofs.Tasks.{keeps_task, goes_on}

-- a party owes no wake-up before a step on the word or a pause
owes_none : (st : Stage) (call : WordCall) (v : SleepView) (a : Action) → is_step st ≡ true → IsAt st call v a → debt_at a ≡ debt.Nothing
owes_none stage.Look call v a s is = ap debt_at is.1
owes_none stage.Try call v a s is = ap debt_at is.2
owes_none stage.Pause call v a s is = by a is.1
  where
    by : (a : Action) → IsPause a → debt_at a ≡ debt.Nothing
    by action.Load h = refl
    by (action.Exchange x y) h = refl
    by (action.Subtract d) h = refl
    by (action.Sleep n c b) h = refl
    by action.WakeOne h = absurd h
    by action.WakeAll h = absurd h
    by action.WakeNext h = absurd h
    by action.WakeTurn h = absurd h
    by (action.Spin n) h = refl
    by action.Yield h = refl
    by (action.End b) h = refl
owes_none stage.Mark call v a s is = ap debt_at is.4
owes_none stage.Sleep call v a s is = absurd (false≢true s)
owes_none stage.Withdraw call v a s is = ap debt_at is.4
owes_none stage.Leave call v a s is = ap debt_at is.4
owes_none stage.LookToRemove call v a s is = ap debt_at is.2
owes_none stage.Subtract call v a s is = ap debt_at is.2
owes_none stage.Release call v a s is = ap debt_at is.2
owes_none stage.Wake call v a s is = absurd (false≢true s)
owes_none stage.WakeRefused call v a s is = absurd (false≢true s)
owes_none stage.WakeAcquired call v a s is = absurd (false≢true s)
owes_none stage.Acquired call v a s is = absurd (false≢true s)
owes_none stage.Refused call v a s is = absurd (false≢true s)
owes_none stage.Ended call v a s is = absurd (false≢true s)

marks : (call : WordCall) (v : SleepView) (a : Action) → IsAt call.stage call v a → call.stage ≡ stage.Mark → call.left ≡ word_marked call
marks call v a is e = (subst (λ st. IsAt st call v a) e is).3

both_awake : (p : SleepState) → (p ≡ Awake) ⊎ (p ≡ Awake) → p ≡ Awake
both_awake p (inl e) = e
both_awake p (inr e) = e

module _ (limit word : ℕ) (views : List SleepView) (k : ℕ) (h : Hold) (range : IsLimit limit) (keeps : Keeps (limits_in limit) word views)
    (at : slice_get views k ≡ Some (placed h action.Load)) (small : word < 2 ^ 37) where
  -- the machine's law of steps, for the party at k, which holds h
  pub law : (call : WordCall) (before : Hold) (task : Task) (a : Action) (readers : ℕ) → readers ≡ limit → is_step call.stage ≡ true
      → IsGoing (call, a) before task record { held = h; readers = readers }
      → StepKept (limits_of call) call.sleeps Awake before (made a word) views k (next_of word call)
  law call before task a readers known step going =
      let lock : limits_of call ≡ limits_in limit = ap limits_in (going.lock ∙ known) in
      let none : placed h a ≡ placed h action.Load
      = same_view (placed h a) h Awake debt.Nothing refl refl (owes_none call.stage call (placed h a) a step going.at) in
      steps_keep_the_rule word views k (placed h action.Load) call a word before
      (subst IsLimit (sym (going.lock ∙ known)) range) (subst (λ l. Keeps l word views) (sym lock) keeps) at
      (subst (λ (v : SleepView). IsAt call.stage call v a) none going.at) going.held step (λ t. refl)

  -- if the rule holds after the action with the hold `you`, the machine leaves the party that hold
  pub agrees : (a : Action) (you : Hold) → Keeps (limits_in limit) (made a word) (slice_set views k (placed you action.Load))
      → (readers : ℕ) → readers ≡ limit → (call : WordCall) (before : Hold) (task : Task) → is_step call.stage ≡ true
      → IsGoing (call, a) before task record { held = h; readers = readers } → IsGoing (next_of word call) before task record { held = you; readers = readers }
  agrees a you after readers known call before task step going =
      let st = law call before task a readers known step going in
      let next = next_of word call in
      let lock : limits_of call ≡ limits_in limit = ap limits_in (going.lock ∙ known) in
      let kept : Keeps (limits_in limit) (made a word) (slice_set views k st.you) = subst (λ l. Keeps l (made a word) (slice_set views k st.you)) lock st.keeps in
      let same : st.you.held ≡ you
      = same_hold limit (made a word) views k (placed h action.Load) st.you (placed you action.Load) range at kept after in
      let is : st.you ≡ placed you next.1
      = same_view st.you you Awake (debt_at next.1) same (both_awake st.you.sleep st.same_or_awake) (owes_at next.0.stage next.0 st.you next.1 st.at) in
      record {
        lock = ap (λ (p : WordLimits × ℕ). p.0.readers) st.same_lock ∙ going.lock;
        at = subst (λ (v : SleepView). IsAt next.0.stage next.0 v next.1) is st.at;
        held = sym same ∙ st.held;
        loaded = stays_small word call small going.loaded call.stage (marks call (placed h a) a going.at);
        tasked = keeps_task word call (goes_on call.stage step) ∙ going.tasked;
      }
