-- Runs keep the rule.
use Rattle.std.proofs.Common.{◌≡◌, ℕ, Bool, true, false, ◌^◌, nat_lt, if◌then◌else◌, inl, inr, List, [], ◌∷◌, ◌++◌, slice_get, Option, Some, None, refl, sym, ap, subst, ◌∙◌, arith, eqb-true}
use Rattle.std.proofs.lemmas.Bool.{false≢true, true≢false}
use Rattle.std.proofs.lemmas.List.{map-append}
use Rattle.lock_modes.specs.declared.hold.Hold.{Hold}
use Rattle.lock_modes.specs.Limits.{IsLimit}
use Rattle.lock_modes.specs.Holds.{no_hold}
use Rattle.lock_word.specs.declared.want.ExWant.{ExWant}
use Rattle.lock_word.specs.declared.party.WorldParty.{WorldParty}
use Rattle.lock_word.specs.Rule.{holds}
use Rattle.lock_word.specs.Turns.{idle}
use Rattle.lock_word.proofs.Rules.{keeps_newcomer, element_of_longer}
use Rattle.lock_word.proofs.Lists.{in_longer}
use Rattle.lock_one.specs.declared.action.Action.TheVariants as action
use Rattle.lock_one.specs.declared.stage.Stage.{Stage}
use Rattle.lock_one.specs.declared.stage.Stage.TheVariants as stage
use Rattle.lock_one.specs.declared.sleep_view.WordLimits.{WordLimits}
use Rattle.lock_one.specs.declared.sleep_view.SleepView.{SleepView}
use Rattle.lock_one.specs.declared.sleep_view.SleepState.TheVariants.{Asleep}
use Rattle.lock_one.specs.declared.action.Sleeper.{Sleeper}
use Rattle.lock_one.specs.Rule.{holds_of, is_asleep, KeepsSleepers, new_party}
use Rattle.lock_one.specs.Machine.{core_of, has_turn, has_sleepers, class_of, is_brief, is_due}
use Rattle.lock_one.specs.Steps.{ends, hold_at, IsAt, is_step, Keeps}
use Rattle.lock_one.specs.Runs.{Underway, Thread, LockInUse, views_of, limits_in, new_thread, new_lock, Act, join, acquires, releases, steps, steps_by, step_at, step_in, step_by, after_act, after_acts, SleepsInCall}
use Rattle.lock_one.proofs.EachStep.{parties_of, rule_of, holds_of_parties, sums_of, starts}
use Rattle.lock_one.proofs.RunViews.{IsPlaced, RunKept}
use Rattle.lock_one.proofs.RunActs.{bare_after, acquire_kept, release_kept, step_kept, awake_at, sleep_kept}
use Rattle.lock_one.proofs.RunWakes.{wake_kept, refused_kept, acquired_kept}

-- a thread that joins

pub joined : (limits : WordLimits) (core : ℕ) (t s : Bool) (views : List SleepView) → KeepsSleepers limits core t s views
    → KeepsSleepers limits core t s (views ++ new_party ∷ [])
joined limits core t s views kept =
    let longer : holds (parties_of views ++ idle ∷ []) ≡ holds_of (views ++ new_party ∷ [])
    = map-append (λ (q : WorldParty). q.held) (parties_of views) (idle ∷ [])
    ∙ (ap (λ hs. hs ++ no_hold ∷ []) (holds_of_parties views) ∙ sym (map-append (λ (v : SleepView). v.held) views (new_party ∷ []))) in
    let total = sums_of limits.readers core (parties_of views ++ idle ∷ []) (views ++ new_party ∷ []) longer
    (keeps_newcomer limits.readers core (parties_of views) (rule_of limits.readers core views kept.coded kept.legal)) in
    record {
      coded = total.coded;
      legal = total.legal;
      one_token = kept.one_token;
      no_turn = kept.no_turn;
      entitled = λ k v want is asleep.
          elim (element_of_longer views new_party v k is) [
            | inl old ↦ kept.entitled k v want old asleep
            | inr new ↦ absurd (awake v want new asleep)
          ];
      none_forgotten = λ k v want is asleep.
          elim (element_of_longer views new_party v k is) [
            | inl old ↦
                elim (kept.none_forgotten k v want old asleep) [
                  | inl before ↦ inl before
                  | inr someone ↦ inr record {
                    number = someone.number;
                    server = someone.server;
                    is = in_longer views new_party someone.server someone.number someone.is;
                    does = someone.does;
                  }
                ]
            | inr new ↦ absurd (awake v want new asleep)
          ];
    }
  where
    awake : (v : SleepView) (want : ExWant) → v ≡ new_party → v.sleep ≡ Asleep want → ⊥
    awake v want new asleep = let state = ap (λ (w : SleepView). w.sleep) new in cc

joins : (s : LockInUse) → RunKept s → RunKept (after_act s join)
joins s run =
    record {
      range = run.range;
      keeps =
          subst (λ vs. Keeps (limits_in s.readers) s.word vs) (sym (map-append (λ (t : Thread). t.view) s.threads (new_thread ∷ [])))
          record { small = run.keeps.small; kept = joined (limits_in s.readers) (core_of s.word) (has_turn s.word) (has_sleepers s.word) (views_of s.threads) run.keeps.kept };
      each = λ k t is.
          elim (element_of_longer s.threads new_thread t k is) [
            | inl old ↦ run.each k t old
            | inr new ↦ subst (λ (x : Thread). IsPlaced (limits_in s.readers) x.view x.underway) (sym new) ((refl, refl), refl)
          ];
    }

-- a step
stepped : (s : LockInUse) (k given j : ℕ) (t : Thread) → slice_get s.threads k ≡ Some t → RunKept s → RunKept (step_in s k given j t t.underway)
stepped s k given j t at run = in_call t.underway refl (run.each k t at)
  where
    makes_step : (u : Underway) → t.underway ≡ Some u → IsPlaced (limits_in s.readers) t.view (Some u) → is_step u.at.0.stage ≡ true → RunKept (steps_by s k given t u)
    makes_step u calls place stepping =
        let awake = awake_at u.at.0.stage u.at.0 t.view u.at.1 place.0 stepping in
        step_kept s k given t u at place stepping awake.0 awake.1 run

    has_ended : (u : Underway) (b : Bool) → IsPlaced (limits_in s.readers) t.view (Some u) → u.at.1 ≡ action.End b → RunKept (steps_by s k given t u)
    has_ended u b place end = absurd (true≢false (sym (ap ends end) ∙ place.3))

    at_stage : (st : Stage) (u : Underway) → u.at.0.stage ≡ st → t.underway ≡ Some u → IsPlaced (limits_in s.readers) t.view (Some u)
        → IsAt st u.at.0 t.view u.at.1 → t.view.held ≡ hold_at st u.at.0 u.before → RunKept (step_at st s k given j t u)
    at_stage stage.Look u e calls place is held = makes_step u calls place (ap is_step e)
    at_stage stage.Try u e calls place is held = makes_step u calls place (ap is_step e)
    at_stage stage.Pause u e calls place is held = makes_step u calls place (ap is_step e)
    at_stage stage.Mark u e calls place is held = makes_step u calls place (ap is_step e)
    at_stage stage.Sleep u e calls place is held = sleep_kept s k given t u at is held place.2 place.4 e calls run
    at_stage stage.Withdraw u e calls place is held = makes_step u calls place (ap is_step e)
    at_stage stage.Leave u e calls place is held = makes_step u calls place (ap is_step e)
    at_stage stage.Release u e calls place is held = makes_step u calls place (ap is_step e)
    at_stage stage.LookToRemove u e calls place is held = makes_step u calls place (ap is_step e)
    at_stage stage.Subtract u e calls place is held = makes_step u calls place (ap is_step e)
    at_stage stage.Wake u e calls place is held = wake_kept s k j t u u.at.1 at is held place.2 place.4 e run
    at_stage stage.WakeRefused u e calls place is held = refused_kept s k j t u at is held place.2 place.4 e run
    at_stage stage.WakeAcquired u e calls place is held = acquired_kept s k j t u at is held place.2 place.4 e run
    at_stage stage.Acquired u e calls place is held = has_ended u true place is.1
    at_stage stage.Refused u e calls place is held = has_ended u false place is.1
    at_stage stage.Ended u e calls place is held = has_ended u true place is.1

    in_call : (o : Option Underway) → t.underway ≡ o → IsPlaced (limits_in s.readers) t.view o → RunKept (step_in s k given j t o)
    in_call None e place = run
    in_call (Some u) e place = at_stage u.at.0.stage u refl e place place.0 place.1

step_by_kept : (s : LockInUse) (k given j : ℕ) (o : Option Thread) → slice_get s.threads k ≡ o → RunKept s → RunKept (step_by s k given j o)
step_by_kept s k given j None at run = run
step_by_kept s k given j (Some t) at run = stepped s k given j t at run

pub act_kept : (s : LockInUse) (a : Act) → RunKept s → RunKept (after_act s a)
act_kept s join run = joins s run
act_kept s (acquires k want blocks announces) run = acquire_kept s k want blocks announces (slice_get s.threads k) refl run
act_kept s (releases k down) run = release_kept s k down (slice_get s.threads k) refl run
act_kept s (steps k given j) run = step_by_kept s k given j (slice_get s.threads k) refl run

pub acts_kept : (s : LockInUse) (acts : List Act) → RunKept s → RunKept (after_acts s acts)
acts_kept s [] run = run
acts_kept s (a ∷ acts) run = acts_kept (after_act s a) acts (act_kept s a run)

pub new_kept : (readers : ℕ) → IsLimit readers → RunKept (new_lock readers)
new_kept readers range =
    record {
      range = range;
      keeps = record { small = omega arith; kept = starts (limits_in readers) range (λ one. eqb-true readers 1 one) };
      each = λ k t is.
          elim (element_of_longer [] new_thread t k is) [
            | inl old ↦ cc
            | inr new ↦ subst (λ (x : Thread). IsPlaced (limits_in readers) x.view x.underway) (sym new) ((refl, refl), refl)
          ];
    }

same_sleep : (few : Bool) (n m : ℕ) (p q : Sleeper) (b c : Bool) → action.Sleep n p b ≡ (if few then action.Sleep m q c else action.Yield) → (n ≡ m) × (p ≡ q) × (b ≡ c)
same_sleep true n m p q b c e = (cc, cc, cc)
same_sleep false n m p q b c e = cc

-- each sleeper is in a call, at its sleep
sleeps_in_call : (limits : WordLimits) (t : Thread) → IsPlaced limits t.view t.underway → is_asleep t.view.sleep ≡ true → SleepsInCall t
sleeps_in_call limits t place asleep = in_call t.underway refl place
  where
    at_stage : (st : Stage) (u : Underway) → t.view.held ≡ hold_at u.at.0.stage u.at.0 u.before → u.at.0.stage ≡ st → t.underway ≡ Some u
        → IsAt st u.at.0 t.view u.at.1 → SleepsInCall t
    at_stage stage.Look u held e calls is = absurd (true≢false (sym asleep ∙ is.0.1))
    at_stage stage.Try u held e calls is = absurd (true≢false (sym asleep ∙ is.0.1))
    at_stage stage.Pause u held e calls is = absurd (true≢false (sym asleep ∙ is.0.1))
    at_stage stage.Mark u held e calls is = absurd (true≢false (sym asleep ∙ is.0.1))
    at_stage stage.Sleep u held e calls is = record {
      underway = u;
      calls = calls;
      sleeps = e;
      wants = is.4 asleep;
      marked = is.3;
      sleeps_on = λ number class brief asks.
          let same = same_sleep (nat_lt u.at.0.readers (2 ^ 27)) number u.at.0.loaded class (class_of u.at.0.announced u.at.0.want) brief (is_brief u.at.0) (sym asks ∙ is.5) in
          (same.0, same.1 ∙ ap (λ a. class_of a u.at.0.want) is.0.bar, same.2);
      barred = is.6;
      turned = is.7;
    }
    at_stage stage.Withdraw u held e calls is = absurd (true≢false (sym asleep ∙ is.0.1))
    at_stage stage.Leave u held e calls is = absurd (true≢false (sym asleep ∙ is.0.1))
    at_stage stage.Release u held e calls is = absurd (true≢false (sym asleep ∙ ap is_asleep is.1.0))
    at_stage stage.LookToRemove u held e calls is = absurd (true≢false (sym asleep ∙ ap is_asleep is.1.0))
    at_stage stage.Subtract u held e calls is = absurd (true≢false (sym asleep ∙ ap is_asleep is.1.0))
    at_stage stage.Wake u held e calls is = absurd (true≢false (sym asleep ∙ ap is_asleep is.0))
    at_stage stage.WakeRefused u held e calls is = absurd (true≢false (sym asleep ∙ ap is_asleep is.0))
    at_stage stage.WakeAcquired u held e calls is = absurd (true≢false (sym asleep ∙ ap is_asleep is.0))
    at_stage stage.Acquired u held e calls is = absurd (true≢false (sym asleep ∙ ap is_asleep is.0.0))
    at_stage stage.Refused u held e calls is = absurd (true≢false (sym asleep ∙ ap is_asleep is.0.0))
    at_stage stage.Ended u held e calls is = absurd (true≢false (sym asleep ∙ ap is_asleep is.0.0))

    in_call : (o : Option Underway) → t.underway ≡ o → IsPlaced limits t.view o → SleepsInCall t
    in_call None e place = absurd (true≢false (sym asleep ∙ ap is_asleep place.0.0))
    in_call (Some u) e place = at_stage u.at.0.stage u place.1 refl e place.0

-- a call that has set the bar was due to
due_at : (st : Stage) (u : Underway) (v : SleepView) → IsAt st u.at.0 v u.at.1 → v.held ≡ hold_at st u.at.0 u.before → u.before.announced ≡ false
    → v.held.announced ≡ true → is_due u.at.0 ≡ true
due_at st u v is held clean own = due_in st is (ap (λ (h : Hold). h.announced) (sym held) ∙ own)
  where
    due_in : (st : Stage) → IsAt st u.at.0 v u.at.1 → (hold_at st u.at.0 u.before).announced ≡ true → is_due u.at.0 ≡ true
    due_in stage.Look is bar = is.0.0.patient (is.0.0.bar ∙ own)
    due_in stage.Try is bar = is.0.0.patient (is.0.0.bar ∙ own)
    due_in stage.Pause is bar = is.0.0.patient (is.0.0.bar ∙ own)
    due_in stage.Mark is bar = is.0.0.patient (is.0.0.bar ∙ own)
    due_in stage.Sleep is bar = is.0.patient (is.0.bar ∙ own)
    due_in stage.Withdraw is bar = is.0.0.patient (is.0.0.bar ∙ own)
    due_in stage.Leave is bar = is.0.0.patient (is.0.0.bar ∙ own)
    due_in stage.LookToRemove is bar = absurd (false≢true (sym clean ∙ bar))
    due_in stage.Subtract is bar = absurd (false≢true (sym clean ∙ bar))
    due_in stage.Release is bar = absurd (false≢true (sym clean ∙ bar))
    due_in stage.Wake is bar = absurd (false≢true (sym (bare_after u.before clean u.at.0.down) ∙ bar))
    due_in stage.WakeRefused is bar = absurd (false≢true bar)
    due_in stage.WakeAcquired is bar = absurd (false≢true (sym is.3 ∙ own))
    due_in stage.Acquired is bar = absurd (false≢true (sym is.2 ∙ own))
    due_in stage.Refused is bar = absurd (false≢true bar)
    due_in stage.Ended is bar = absurd (false≢true (sym (bare_after u.before clean u.at.0.down) ∙ bar))

-- each sleeper is in a call, at its sleep, and a call with a bar was due
pub sleeper_in_call : (s : LockInUse) → RunKept s → (k : ℕ) (t : Thread) → slice_get s.threads k ≡ Some t → is_asleep t.view.sleep ≡ true → SleepsInCall t
sleeper_in_call s run k t is asleep = sleeps_in_call (limits_in s.readers) t (run.each k t is) asleep

pub barred_was_due : (s : LockInUse) → RunKept s → (k : ℕ) (t : Thread) (u : Underway) → slice_get s.threads k ≡ Some t → t.underway ≡ Some u
    → t.view.held.announced ≡ true → is_due u.at.0 ≡ true
barred_was_due s run k t u is calls own =
    let place : IsPlaced (limits_in s.readers) t.view (Some u) = subst (λ o. IsPlaced (limits_in s.readers) t.view o) calls (run.each k t is) in
    due_at u.at.0.stage u t.view place.0 place.1 place.4 own
