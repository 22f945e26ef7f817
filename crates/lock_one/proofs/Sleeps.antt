-- Sleeps and wake-ups keep the rule.
use Rattle.std.proofs.Common.{◌≡◌, ◌≢◌, ℕ, not, ◌+◌, ◌%◌, ◌^◌, Bool, true, false, ◌&&◌, ◌||◌, ◌==◌, nat_lt, if◌then◌else◌, inl, inr, List, map, slice_get, slice_set, Some, IsTrue, refl, sym, ap, subst, ◌∙◌, arith, eqb-true, lt-ltb}
use Rattle.std.proofs.lemmas.Bool.{false≢true, true≢false, cases_Bool, or_cases, or_right, false_from_ne_true}
use Rattle.std.proofs.lemmas.Option.{same_Some}
use Rattle.lock_modes.specs.Limits.{IsLimit}
use Rattle.lock_word.specs.declared.want.ExWant.{ExWant}
use Rattle.lock_word.specs.Word.{word_admits}
use Rattle.lock_word.proofs.Lists.{placed, other_stays}
use Rattle.lock_one.specs.declared.action.Action.{Action}
use Rattle.lock_one.specs.declared.action.Action.TheVariants as action
use Rattle.lock_one.specs.declared.call.WordCall.{WordCall}
use Rattle.lock_one.specs.declared.stage.Stage.TheVariants as stage
use Rattle.lock_one.specs.declared.sleep_view.WordLimits.{WordLimits}
use Rattle.lock_one.specs.declared.sleep_view.SleepView.{SleepView}
use Rattle.lock_one.specs.declared.sleep_view.SleepState.{SleepState}
use Rattle.lock_one.specs.declared.sleep_view.SleepState.TheVariants.{Awake, Asleep, Woken}
use Rattle.lock_one.specs.declared.sleep_view.Debt.{Debt}
use Rattle.lock_one.specs.declared.sleep_view.Debt.TheVariants as debt
use Rattle.lock_one.specs.Rule.{passes_turn, is_woken, is_asleep, is_next, is_in_turn, has_duty, reaches, admits_to, IsRefused, KeepsSleepers, with_sleep, with_debt, woken_of, wake_all, wake_of, wake_next, wake_turn}
use Rattle.lock_one.specs.Machine.{core_of, has_turn, has_sleepers, wakes_one, is_due, is_brief, one_more_sleep, sleeps_after, next_at}
use Rattle.lock_one.specs.Steps.{limits_of, Acquires, Acquiring, IsWake, IsAt, Keeps}
use Rattle.lock_one.proofs.Kept.{EachStepKeeps, SleepsKeepTheRule}
use Rattle.lock_one.proofs.EachStep.{each_step, duty_serves, held_refuses, mutex_refuses, others_admit}
use Rattle.lock_one.proofs.Words.{refused_is_taken, refused_is_held, refusal_of}

refused_to : (call : WordCall) (core : ℕ) (v : SleepView) → call.announced ≡ v.held.announced → word_admits call.announced call.readers core call.want ≡ false
    → (IsTrue (wakes_one call) → core ≢ 0) → (call.announced ≡ true → core % 2 ^ 34 ≢ 0) → admits_to (limits_of call) core v call.want ≡ false
refused_to call core v bar refuses taken held = by (wakes_one call) refl
  where
    by : (b : Bool) → wakes_one call ≡ b → admits_to (limits_of call) core v call.want ≡ false
    by true e =
        elim (cases_Bool v.held.announced) [
          | inl own ↦ held_refuses (limits_of call) core v call.want e (held (bar ∙ own))
          | inr bare ↦ mutex_refuses (limits_of call) core v call.want e bare (taken e)
        ]
    by false e = others_admit (limits_of call) core v call.want e ∙ subst (λ a. word_admits a call.readers core call.want ≡ false) bar refuses

-- the end of a sleep

slept_more : (n : ℕ) → not (one_more_sleep n == 0) ≡ true
slept_more n = ap not (false_from_ne_true (one_more_sleep n == 0) (λ e. by (nat_lt n 4) refl (eqb-true (one_more_sleep n) 0 e)))
  where
    by : (b : Bool) → nat_lt n 4 ≡ b → (if b then n + 1 else n) ≡ 0 → ⊥
    by true low e = omega arith
    by false high e = true≢false (sym (lt-ltb n 4 (omega arith)) ∙ high)

-- of a sleep with any answer
slept_after : (found : ℕ) (call : WordCall) → not (sleeps_after found call == 0) ≡ true
slept_after found call = by ((found == 2) && is_brief call)
  where
    by : (b : Bool) → not ((if b then 4 else one_more_sleep call.sleeps) == 0) ≡ true
    by true = refl
    by false = slept_more call.sleeps

due_more : (one : Bool) (n : ℕ) → (not one || (n == 4)) ≡ true → (not one || (one_more_sleep n == 4)) ≡ true
due_more false n due = refl
due_more true n due = let is : n ≡ 4 = eqb-true n 4 due in subst (λ m. (one_more_sleep m == 4) ≡ true) (sym is) refl

due_after : (found : ℕ) (call : WordCall) → is_due call ≡ true → (not (wakes_one call) || (sleeps_after found call == 4)) ≡ true
due_after found call due = by ((found == 2) && is_brief call)
  where
    by : (b : Bool) → (not (wakes_one call) || ((if b then 4 else one_more_sleep call.sleeps) == 4)) ≡ true
    by true = or_right (not (wakes_one call)) true refl
    by false = due_more (wakes_one call) call.sleeps due

pub after_sleep : (call : WordCall) (answer : ℕ) (v : SleepView) (state : SleepState) → Acquires call.want call.announced call.turned true call.blocks (is_due call) v
    → call.blocks ≡ true → Acquiring (next_at stage.Sleep answer call).0 (with_sleep v state)
after_sleep call answer v state acq blocks =
    record {
      awaited = acq.awaited;
      has = acq.has;
      bar = acq.bar;
      owes_none = acq.owes_none;
      woken = λ w. slept_after answer call;
      tries = λ b. absurd (true≢false (sym blocks ∙ b));
      patient = λ own. due_after answer call (acq.patient own);
      writer = acq.writer;
      reader = acq.reader;
    }

owes_all : (d : Debt) → IsWake d action.WakeAll → d ≡ debt.All
owes_all debt.Nothing h = absurd h
owes_all debt.One h = cc
owes_all debt.All h = refl
owes_all debt.Next h = cc
owes_all debt.Turn h = cc

owes_next : (d : Debt) → IsWake d action.WakeNext → d ≡ debt.Next
owes_next debt.Nothing h = absurd h
owes_next debt.One h = cc
owes_next debt.All h = cc
owes_next debt.Next h = refl
owes_next debt.Turn h = cc

owes_turn : (d : Debt) → IsWake d action.WakeTurn → d ≡ debt.Turn
owes_turn debt.Nothing h = absurd h
owes_turn debt.One h = cc
owes_turn debt.All h = cc
owes_turn debt.Next h = cc
owes_turn debt.Turn h = refl

owes_one : (d : Debt) → IsWake d action.WakeOne → d ≡ debt.One
owes_one debt.Nothing h = absurd h
owes_one debt.One h = refl
owes_one debt.All h = cc
owes_one debt.Next h = cc
owes_one debt.Turn h = cc

module _ (word : ℕ) (views : List SleepView) (k : ℕ) (me : SleepView) (call : WordCall) (range : IsLimit call.readers)
    (keeps : Keeps (limits_of call) word views) (at : slice_get views k ≡ Some me) where
  step : EachStepKeeps (limits_of call) (core_of word) (has_turn word) (has_sleepers word) views k me
  step = each_step (limits_of call) (core_of word) (has_turn word) (has_sleepers word) views k me range keeps.kept at

  as_kept : (later : List SleepView) → KeepsSleepers (limits_of call) (core_of word) (has_turn word) (has_sleepers word) later → Keeps (limits_of call) word later
  as_kept later kept = record { small = keeps.small; kept = kept }

  idle : me.sleep ≡ Awake → has_duty (limits_of call) me ≡ false
  idle awake = by (wakes_one call) me.sleep awake
    where
      by : (b : Bool) (state : SleepState) → state ≡ Awake → (b && is_woken state) ≡ false
      by true state e = ap is_woken e
      by false state e = refl

falls_asleep : (views : List SleepView) (k : ℕ) (me : SleepView) (call : WordCall) (a : Action)
    → IsLimit call.readers → Keeps (limits_of call) call.loaded views → slice_get views k ≡ Some me → IsAt stage.Sleep call me a
    → Keeps (limits_of call) call.loaded (slice_set views k (with_sleep me (Asleep call.want)))
    × IsAt stage.Sleep call (with_sleep me (Asleep call.want)) a
falls_asleep views k me call a range keeps at is =
    let acq = is.0 in
    let core = core_of call.loaded in
    let bare : word_admits call.announced call.readers core call.want ≡ false → IsRefused (limits_of call) core (has_turn call.loaded) me call.want
    = λ refuses.
    inl (refused_to call core me acq.bar refuses
    (λ one. refused_is_taken (limits_of call) core (has_turn call.loaded) (has_sleepers call.loaded) views k me call.want range keeps.kept at acq.awaited acq.has call.announced refuses)
    (λ own. refused_is_held call core (omega arith) own acq.writer refuses)) in
    let refuses : IsRefused (limits_of call) core (has_turn call.loaded) me call.want
    = elim (refusal_of call.announced call.readers call.loaded call.want is.1) [
      | inl core_does ↦ bare core_does
      | inr turn ↦ inr (turn.0, subst (λ a. passes_turn a call.want ≡ false) acq.bar turn.1)
    ] in (
      as_kept call.loaded views k me call range keeps at (slice_set views k (with_sleep me (Asleep call.want)))
          ((step call.loaded views k me call range keeps at).sleeps call.want (acq.awaited, acq.has) acq.owes_none is.3 refuses),
      (
        record {
          awaited = acq.awaited;
          has = acq.has;
          bar = acq.bar;
          owes_none = acq.owes_none;
          woken = λ w. absurd (false≢true w);
          tries = acq.tries;
          patient = acq.patient;
          writer = acq.writer;
          reader = acq.reader;
        },
        is.1,
        is.2,
        is.3,
        (λ asleep. refl),
        is.5,
        is.6,
        is.7,
      ),
    )

sleep_ends : (word : ℕ) (views : List SleepView) (k : ℕ) (me : SleepView) (call : WordCall) (a : Action) (answer : ℕ)
    → IsLimit call.readers → Keeps (limits_of call) word views → slice_get views k ≡ Some me → IsAt stage.Sleep call me a
    → Keeps (limits_of call) word (slice_set views k (with_sleep me Woken))
    × IsAt stage.Look (next_at stage.Sleep answer call).0 (with_sleep me Woken) (next_at stage.Sleep answer call).1
sleep_ends word views k me call a answer range keeps at is = (
  as_kept word views k me call range keeps at (slice_set views k (with_sleep me Woken)) (step word views k me call range keeps at).wakes,
  ((after_sleep call answer me Woken is.0 is.2, refl), refl),
)

wake_all_awake : (v : SleepView) → v.sleep ≡ Awake → (wake_all v).sleep ≡ Awake
wake_all_awake v e = by v.sleep e
  where
    by : (state : SleepState) → state ≡ Awake → (wake_all (with_sleep v state)).sleep ≡ Awake
    by Awake e = refl
    by (Asleep w) e = cc
    by Woken e = cc

wake_of_awake : (test : SleepView → ExWant → Bool) (v : SleepView) → v.sleep ≡ Awake → (wake_of test v).sleep ≡ Awake
wake_of_awake test v e = by v.sleep e
  where
    by : (state : SleepState) → state ≡ Awake → woken_of test v state ≡ Awake
    by Awake e = refl
    by (Asleep w) e = cc
    by Woken e = cc

is_one_of_two : (a b : ℕ) → a ≢ b → b ≢ a
is_one_of_two a b other e = other (sym e)

pub sleeps_keep_the_rule : SleepsKeepTheRule
sleeps_keep_the_rule =
    record {
      falls_asleep = falls_asleep;
      sleep_ends = sleep_ends;
      wakes_all = λ word views k me call range keeps at is. (
        as_kept word views k me call range keeps at (slice_set (map wake_all views) k (with_debt (wake_all me) debt.Nothing))
            ((step word views k me call range keeps at).pays_all (owes_all me.debt is.1)),
        ((wake_all_awake me is.0, refl), refl),
      );
      wakes_all_refused = λ word views k me call range keeps at is. (
        as_kept word views k me call range keeps at (slice_set (map wake_all views) k (with_debt (wake_all me) debt.Nothing))
            ((step word views k me call range keeps at).pays_all is.1),
        ((wake_all_awake me is.0, refl), refl),
      );
      wakes_all_acquired = λ word views k me call range keeps at is. (
        as_kept word views k me call range keeps at (slice_set (map wake_all views) k (with_debt (wake_all me) debt.Nothing))
            ((step word views k me call range keeps at).pays_all is.1),
        ((wake_all_awake me is.0, refl), refl, is.3),
      );
      wakes_next = λ word views k me call range keeps at is. (
        as_kept word views k me call range keeps at (slice_set (map wake_next views) k (with_debt (wake_next me) debt.Nothing))
            ((step word views k me call range keeps at).pays_next (owes_next me.debt is.1) (ap is_asleep is.0) (idle word views k me call range keeps at is.0)),
        ((wake_of_awake is_next me is.0, refl), refl),
      );
      wakes_turn = λ word views k me call range keeps at is. (
        as_kept word views k me call range keeps at (slice_set (map wake_turn views) k (with_debt (wake_turn me) debt.Nothing))
            ((step word views k me call range keeps at).pays_turn (owes_turn me.debt is.1) (ap is_asleep is.0) (idle word views k me call range keeps at is.0)),
        ((wake_of_awake is_in_turn me is.0, refl), refl),
      );
      wakes_one = λ word views k j me w call wish range keeps at is at_j asleep.
          let other : j ≢ k = λ e.
          let found : slice_get views k ≡ Some w = subst (λ n. slice_get views n ≡ Some w) e at_j in
          let same : w ≡ me = same_Some w me (sym found ∙ at) in
          let state : Asleep wish ≡ Awake = sym asleep ∙ (ap (λ (v : SleepView). v.sleep) same ∙ is.0) in
          cc in
          let woken = (each_step (limits_of call) (core_of word) (has_turn word) (has_sleepers word) views j w range keeps.kept at_j).wakes in
          let later = slice_set views j (with_sleep w Woken) in
          let here : slice_get later k ≡ Some me = other_stays views j k (with_sleep w Woken) me (is_one_of_two j k other) at in
          let there : slice_get later j ≡ Some (with_sleep w Woken) = placed views j w (with_sleep w Woken) at_j in (
            as_kept word views k me call range keeps at (slice_set later k (with_debt me debt.Nothing))
                ((each_step (limits_of call) (core_of word) (has_turn word) (has_sleepers word) later k me range woken here).pays_one j (with_sleep w Woken)
                (owes_one me.debt is.1) (ap is_asleep is.0) other there refl),
            ((is.0, refl), refl),
          );
      wakes_nobody = λ word views k me call range keeps at is nobody. (
        as_kept word views k me call range keeps at (slice_set views k (with_debt me debt.Nothing)) ((step word views k me call range keeps at).pays_nobody nobody),
        ((is.0, refl), refl),
      );
      woken = λ call v a is. (
        record {
          awaited = is.0.awaited;
          has = is.0.has;
          bar = is.0.bar;
          owes_none = is.0.owes_none;
          woken = λ w. refl;
          tries = λ b. absurd (true≢false (sym is.2 ∙ b));
          patient = is.0.patient;
          writer = is.0.writer;
          reader = is.0.reader;
        },
        is.1,
        is.2,
        is.3,
        (λ asleep. absurd (false≢true asleep)),
        is.5,
        is.6,
        is.7,
      );
    }

-- where no party owes a wake-up or is woken, S is set and the word refuses each sleeper
pub refused_at_rest : (limits : WordLimits) (word : ℕ) (views : List SleepView) (k : ℕ) (v : SleepView) (wish : ExWant)
    → Keeps limits word views → slice_get views k ≡ Some v → v.sleep ≡ Asleep wish
    → ((j : ℕ) (w : SleepView) → slice_get views j ≡ Some w → (w.debt ≡ debt.Nothing) × (is_woken w.sleep ≡ false))
    → (has_sleepers word ≡ true) × IsRefused limits (core_of word) (has_turn word) v wish
refused_at_rest limits word views k v wish keeps at asleep rests =
    elim (keeps.kept.none_forgotten k v wish at asleep) [
      | inl is ↦ is
      | inr someone ↦
          (let none = rests someone.number someone.server someone.is in
          let d : reaches limits someone.server.debt v wish ≡ false = ap (λ x. reaches limits x v wish) none.0 in
          elim (or_cases (reaches limits someone.server.debt v wish) (has_duty limits someone.server && not v.held.announced) someone.does) [
            | inl owes ↦ absurd (false≢true (sym d ∙ owes))
            | inr duty ↦ absurd (by limits.wakes_one someone.server.sleep none.1 (duty_serves limits someone.server v duty).0)
          ])
    ]
  where
    by : (b : Bool) (state : SleepState) → is_woken state ≡ false → IsTrue (b && is_woken state) → ⊥
    by true state no_duty duty = false≢true (sym no_duty ∙ duty)
    by false state no_duty duty = false≢true duty
