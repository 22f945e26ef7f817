-- When a call is late.
use Rattle.std.proofs.Common.{◌≡◌, ℕ, ◌^◌, Bool, true, false, nat_lt, if◌then◌else◌, inl, inr, refl, sym, ap, subst, ◌∙◌}
use Rattle.std.proofs.lemmas.Bool.{false≢true, true≢false}
use Rattle.lock_modes.specs.declared.hold.Hold.{Hold}
use Rattle.lock_one.specs.declared.action.Action.{Action}
use Rattle.lock_one.specs.declared.action.Action.TheVariants.{Exchange, Sleep, Yield}
use Rattle.lock_one.specs.declared.call.WordCall.{WordCall}
use Rattle.lock_one.specs.declared.stage.Stage.TheVariants as stage
use Rattle.lock_one.specs.Machine.{Progress, acquiring, class_of, is_brief, sleep_of, next_of}
use Rattle.lock_one.specs.Steps.{IsAt, is_step}
use Rattle.lock_one.proofs.Refusals.{refusals_have_causes}
use Rattle.lock_one_word.specs.declared.rule.OneView.{OneView}
use Rattle.lock_one_word.specs.declared.word_lock.steps.looked.Looked.{Looked}
use Rattle.lock_one_word.specs.Drives.{Pending, at, looked_at, CanGo, IsInTime, touches_lock}
use Rattle.lock_one_word.specs.Seats.{Self, Task, placed, IsGoing}

-- a call is late after an action only if it was late before, or its sleep was answered so
pub keeps_time : (has_end : Bool) (found : ℕ) (p q : Pending) → at q ≡ next_of found p.call → (p.call.stage ≡ stage.Sleep → found ≡ 1 → has_end ≡ true)
    → IsInTime has_end p.call → IsInTime has_end q.call
keeps_time has_end found p q turns sleeps known late =
    elim (refusals_have_causes.late found p.call (sym (ap (λ (x : Progress). x.0.late) turns) ∙ late)) [
      | inl before ↦ known before
      | inr slept ↦ sleeps slept.0 slept.1
    ]

sleeps_alone : (call : WordCall) → touches_lock (sleep_of call) ≡ false
sleeps_alone call = by (nat_lt call.readers (2 ^ 27))
  where
    by : (b : Bool) → touches_lock (if b then Sleep call.loaded (class_of call.announced call.want) (is_brief call) else Yield) ≡ false
    by true = refl
    by false = refl

-- a call that steps on the word or wakes does not sleep
never_asleep : (call : WordCall) (a : Action) (v : OneView) (before : Hold) (task : Task) → IsGoing (call, a) before task v → touches_lock a ≡ true → call.stage ≡ stage.Sleep → ⊥
never_asleep call a v before task going on at_sleep =
    let is = subst (λ st. IsAt st call (placed v.held a) a) at_sleep going.at in
    true≢false (sym on ∙ (ap touches_lock is.5 ∙ sleeps_alone call))

pub on_lock : (has_end : Bool) (p q : Pending) (me : Self) → CanGo (at p) me → touches_lock p.action ≡ true → ((found : ℕ) × (at q ≡ next_of found p.call))
    → IsInTime has_end p.call → IsInTime has_end q.call
on_lock has_end p q me now on went known =
    keeps_time has_end went.0 p q went.1 (λ at_sleep _. absurd (never_asleep p.call p.action me.0 now.0 now.1 now.2 on at_sleep)) known

in_time : (late : Bool) → (late ≡ true → ⊥) → late ≡ false
in_time true never = absurd (never refl)
in_time false never = refl

-- a call is in time after its first load, and after its first exchange
pub looked_in_time : (l : Looked) → (looked_at l).0.late ≡ false
looked_in_time l =
    in_time (looked_at l).0.late
    (λ late. elim (refusals_have_causes.late l.word (acquiring l.readers l.want l.blocks true).0 late) [
      | inl before ↦ false≢true before
      | inr slept ↦ true≢false (ap is_step slept.0)
    ])

pub still_in_time : (found old new : ℕ) (call : WordCall) (v : OneView) (before : Hold) (task : Task) → IsGoing (call, Exchange old new) before task v → call.late ≡ false
    → (next_of found call).0.late ≡ false
still_in_time found old new call v before task going known =
    in_time (next_of found call).0.late
    (λ late. elim (refusals_have_causes.late found call late) [
      | inl before ↦ true≢false (sym before ∙ known)
      | inr slept ↦ never_asleep call (Exchange old new) v before task going refl slept.0
    ])
