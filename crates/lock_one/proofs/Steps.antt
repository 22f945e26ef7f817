-- Each step of the machine keeps the rule.
use Rattle.std.proofs.Common.{◌⊎◌, suc, ◌≡◌, ◌≢◌, ℕ, not, ◌+◌, ◌-◌, ◌^◌, ◌<◌, ◌≤◌, Bool, true, false, ◌&&◌, ◌||◌, ◌==◌, nat_lt, if◌then◌else◌, inl, inr, List, slice_get, slice_set, Some, IsTrue, refl, sym, ap, subst, ◌∙◌, arith, eqb-true, ltb-true, lt-ltb, ◌%◌}
use Rattle.std.proofs.lemmas.Bool.{false≢true, true≢false, and_parts, and_from, or_left, or_parts, or_cases, cases_Bool, false_from_ne_true}
use Rattle.lock_modes.specs.Limits.{IsLimit}
use Rattle.lock_modes.specs.declared.hold.Hold.{Hold}
use Rattle.lock_modes.specs.Holds.{hold_has, hold_after}
use Rattle.lock_word.proofs.Bars.{announced_shows}
use Rattle.lock_word.specs.declared.want.ExWant.TheVariants as want
use Rattle.lock_word.specs.declared.down.Down.TheVariants as down
use Rattle.lock_word.specs.Word.{word_admits, word_after, amount, step_of_want, step_of_down}
use Rattle.lock_word.specs.Unblocking.{word_unblocks}
use Rattle.lock_one.specs.declared.action.Action.{Action}
use Rattle.lock_one.specs.declared.action.Action.TheVariants as action
use Rattle.lock_one.specs.declared.call.WordCall.{WordCall}
use Rattle.lock_one.specs.declared.stage.Stage.{Stage}
use Rattle.lock_one.specs.declared.stage.Stage.TheVariants as stage
use Rattle.lock_one.specs.declared.sleep_view.SleepView.{SleepView}
use Rattle.lock_one.specs.declared.sleep_view.SleepState.{SleepState}
use Rattle.lock_one.specs.declared.sleep_view.SleepState.TheVariants.{Awake}
use Rattle.lock_one.specs.declared.sleep_view.Debt.{Debt}
use Rattle.lock_one.specs.declared.sleep_view.Debt.TheVariants as debt
use Rattle.lock_one.specs.Rule.{is_shared, passes_turn, is_woken, has_duty, KeepsSleepers, with_sleep, with_debt}
use Rattle.lock_one.specs.Machine.{Progress, is_exclusive, turn, sleepers, core_of, has_turn, has_sleepers, with_turn, admits_word, wakes_one, has_slept, is_due, drops_turn, word_unbarred, word_withdrawn, sleep, sets_bar, sets_turn, word_marked, mark_or_sleep, marked, time_out, withdrawn, wait, takes_turn, after_other, after_try, won, decide, release_of, word_released, release_on, subtract, release_again, look_to_remove, wakes, acquired, refused, goes_to, next_at}
use Rattle.lock_one.specs.Steps.{made, touches, limits_of, is_admitted, Acquires, Acquiring, Awaits, AtRest, IsAt, is_step, Keeps, hold_at}
use Rattle.lock_one.proofs.Kept.{EachStepKeeps, IsPaid, is_unset, is_unneeded, is_all, after_win, after_take, frees, lock_of, StepKept, StepsKeepTheRule}
use Rattle.lock_one.proofs.EachStep.{each_step, parties_of, party_at, party_of, rule_of}
use Rattle.lock_word.proofs.Rules.{amount_within, slice_set_same}
use Rattle.lock_one.proofs.Words.{not_below, and_true, encoded, encoded_core, encoded_low, low_is, encoded_turn, encoded_bit, bit_of, turn_clear, decoded, dropped, lessened, refuses_core, core_refuses_it, refuses_alike, no_both, small_core, keeps_word, or_right, or_false, not_true, and_false, is_awake, refused_is_taken, refused_is_held, leaves_no_bar, rest_leaves, marked_refuses, has_after_announcing, no_duty}
use Rattle.lock_one.proofs.Payments.{pays_staying, pays}

module _ (word : ℕ) (views : List SleepView) (k : ℕ) (me : SleepView) (call : WordCall) (before : Hold) (range : IsLimit call.readers)
    (keeps : Keeps (limits_of call) word views) (at : slice_get views k ≡ Some me) where
  steps : EachStepKeeps (limits_of call) (core_of word) (has_turn word) (has_sleepers word) views k me
  steps = each_step (limits_of call) (core_of word) (has_turn word) (has_sleepers word) views k me range keeps.kept at

  abbrev now : WordCall
  now = record call { loaded = word }

  -- nothing has changed but the call
  same : (next : Progress) → lock_of next.0 ≡ lock_of call → IsAt next.0.stage next.0 me next.1 → me.held ≡ hold_at next.0.stage next.0 before
      → StepKept (limits_of call) call.sleeps me.sleep before word views k next
  same next lock is_at held =
      record {
        you = me;
        keeps = record {
          small = keeps.small;
          kept = subst (λ vs. KeepsSleepers (limits_of call) (core_of word) (has_turn word) (has_sleepers word) vs) (sym (slice_set_same views k me at)) keeps.kept;
        };
        at = is_at;
        held = held;
        same_or_awake = inl refl;
        same_lock = lock;
      }

  -- the word and the party have changed
  changed : (core : ℕ) (t s : Bool) (you : SleepView) (next : Progress) → KeepsSleepers (limits_of call) core t s (slice_set views k you)
      → lock_of next.0 ≡ lock_of call → IsAt next.0.stage next.0 you next.1 → you.held ≡ hold_at next.0.stage next.0 before → you.sleep ≡ Awake
      → StepKept (limits_of call) call.sleeps me.sleep before (encoded core t s) views k next
  changed core t s you next kept lock is_at held awake =
      record { you = you; keeps = keeps_word (limits_of call) core t s (slice_set views k you) range kept; at = is_at; held = held; same_or_awake = inr awake; same_lock = lock }

module _ (word : ℕ) (views : List SleepView) (k : ℕ) (me : SleepView) (call : WordCall) (before : Hold) (range : IsLimit call.readers)
    (keeps : Keeps (limits_of call) word views) (at : slice_get views k ≡ Some me) (mine : me.held ≡ record before { announced = call.announced }) where
  abbrev here : WordCall
  here = record call { loaded = word }

  does : EachStepKeeps (limits_of call) (core_of word) (has_turn word) (has_sleepers word) views k me
  does = steps word views k me call before range keeps at

  stays : (next : Progress) → lock_of next.0 ≡ lock_of call → IsAt next.0.stage next.0 me next.1 → me.held ≡ hold_at next.0.stage next.0 before
      → StepKept (limits_of call) call.sleeps me.sleep before word views k next
  stays = same word views k me call before range keeps at

  turns_into : (core : ℕ) (t s : Bool) (you : SleepView) (next : Progress) → KeepsSleepers (limits_of call) core t s (slice_set views k you)
      → lock_of next.0 ≡ lock_of call → IsAt next.0.stage next.0 you next.1 → you.held ≡ hold_at next.0.stage next.0 before → you.sleep ≡ Awake
      → StepKept (limits_of call) call.sleeps me.sleep before (encoded core t s) views k next
  turns_into = changed word views k me call before range keeps at

  unannounced : call.announced ≡ false → me.held ≡ record before { announced = false }
  unannounced no_bar = mine ∙ ap (λ a. record before { announced = a }) no_bar

  -- the core of a mutex refuses
  mutex_core : IsTrue (wakes_one call) → is_admitted here ≡ false → word_admits call.announced call.readers (core_of word) call.want ≡ false
  mutex_core one refuses = refuses_core call.announced call.readers word call.want (keeps.kept.no_turn one) refuses

  taken : Acquiring call me → IsTrue (wakes_one call) → is_admitted here ≡ false → core_of word ≢ 0
  taken acq one refuses =
      refused_is_taken (limits_of call) (core_of word) (has_turn word) (has_sleepers word) views k me call.want range keeps.kept at acq.awaited acq.has call.announced
      (mutex_core one refuses)

  -- T is no bit of a mutex
  many_of_turn : has_turn word ≡ true → wakes_one call ≡ false
  many_of_turn set = false_from_ne_true (wakes_one call) (λ one. false≢true (sym (keeps.kept.no_turn one) ∙ set))

  -- a call that is no reader's has not set T
  unturned : Acquiring call me → is_shared call.want ≡ false → call.turned ≡ false
  unturned acq other = false_from_ne_true call.turned (λ own. false≢true (sym other ∙ acq.reader own))

  -- a call that serves nobody
  idle : wakes_one call ≡ false → IsTrue (has_duty (limits_of call) me) → ⊥
  idle many duty = true≢false (sym duty ∙ no_duty (limits_of call) me many)

  -- a party that has announced itself finds its bar
  own_bar : Acquiring call me → call.announced ≡ true → 2 ^ 34 ≤ core_of word
  own_bar acq own =
      announced_shows call.readers (core_of word) (parties_of views) (suc k) (rule_of call.readers (core_of word) views keeps.kept.coded keeps.kept.legal)
      (party_of me, party_at views k me at, sym acq.bar ∙ own)

  unfreed : wakes_one call ≡ true → 2 ^ 34 ≤ core_of word → call.announced ≡ true → (call.announced ≡ true → is_exclusive call.want ≡ true) → is_admitted here ≡ false
      → frees (limits_of call) (core_of word) (core_of word - 2 ^ 34) ≡ false
  unfreed one high bar writer refuses =
      let small = small_core (limits_of call) (core_of word) (has_turn word) (has_sleepers word) views range keeps.kept in
      let held = refused_is_held call (core_of word) small bar writer (mutex_core one refuses) in
      ap (λ b. if b then (core_of word - 2 ^ 34) % 2 ^ 34 == 0 else word_unblocks call.readers (core_of word) (core_of word - 2 ^ 34)) one
      ∙ false_from_ne_true ((core_of word - 2 ^ 34) % 2 ^ 34 == 0) (λ e. let free = eqb-true ((core_of word - 2 ^ 34) % 2 ^ 34) 0 e in held (omega arith))

  sleeping : Acquiring call me → call.blocks ≡ true → Acquires call.want call.announced call.turned true call.blocks (is_due call) me
  sleeping acq blocks =
      record {
        awaited = acq.awaited;
        has = acq.has;
        bar = acq.bar;
        owes_none = acq.owes_none;
        woken = λ w. refl;
        tries = λ b. absurd (true≢false (sym blocks ∙ b));
        patient = acq.patient;
        writer = acq.writer;
        reader = acq.reader;
      }

  refusal : Awaits call me → has_slept call ≡ false → call.announced ≡ false → StepKept (limits_of call) call.sleeps me.sleep before word views k (refused here)
  refusal aw never no_bar =
      stays (refused here) refl ((is_awake me.sleep aw.1 (λ w. true≢false (sym (aw.0.woken w) ∙ never)), aw.0.owes_none), refl) (unannounced no_bar)

  given_up : Awaits call me → is_admitted here ≡ false → call.late ≡ true → StepKept (limits_of call) call.sleeps me.sleep before word views k (time_out here)
  given_up aw refuses late = by (call.announced || drops_turn here) refl
    where
      leaves : call.announced ≡ false → (b : Bool) → (wakes_one call && (has_slept call && nat_lt word sleepers)) ≡ b
          → StepKept (limits_of call) call.sleeps me.sleep before word views k (if b then goes_to (record here { left = word + sleepers }) stage.Leave (action.Exchange word (word + sleepers)) else refused here)
      leaves no_bar true e =
          let two = and_parts (wakes_one call) (has_slept call && nat_lt word sleepers) e in
          let three = and_parts (has_slept call) (nat_lt word sleepers) two.1 in
          stays (goes_to (record here { left = word + sleepers }) stage.Leave (action.Exchange word (word + sleepers))) refl
          (aw, refuses, no_bar, ltb-true word sleepers three.1, refl, two.0) mine
      leaves no_bar false e =
          elim (cases_Bool (has_slept call)) [
            | inl slept ↦
                (let kept = does.stops aw.0.owes_none (λ is_one. (
                  (elim (cases_Bool (nat_lt word sleepers)) [
                    | inl low ↦ absurd (true≢false (sym (and_from (wakes_one call) (has_slept call && nat_lt word sleepers) is_one (and_from (has_slept call) (nat_lt word sleepers) slept low)) ∙ e))
                    | inr high ↦ ap not high
                  ]),
                  taken aw.0 is_one refuses,
                )) in
                record {
                  you = with_sleep me Awake;
                  keeps = record { small = keeps.small; kept = kept };
                  at = ((refl, aw.0.owes_none), refl);
                  held = unannounced no_bar;
                  same_or_awake = inr refl;
                  same_lock = refl;
                })
            | inr never ↦ refusal aw never no_bar
          ]

      by : (b : Bool) → (call.announced || drops_turn here) ≡ b
          → StepKept (limits_of call) call.sleeps me.sleep before word views k (if b then goes_to (record here { left = word_withdrawn here }) stage.Withdraw (action.Exchange word (word_withdrawn here))
          else if wakes_one call && (has_slept call && nat_lt word sleepers) then goes_to (record here { left = word + sleepers }) stage.Leave (action.Exchange word (word + sleepers)) else refused here)
      by true e = stays (goes_to (record here { left = word_withdrawn here }) stage.Withdraw (action.Exchange word (word_withdrawn here))) refl (
        aw,
        refuses,
        (elim (or_cases call.announced (drops_turn here) e) [ inl own ↦ inl own | inr drops ↦ inr (and_parts call.turned (has_turn word) drops) ]),
        late,
        refl,
      ) mine
      by false e =
          let two = or_parts call.announced (drops_turn here) e in
          leaves two.0 (wakes_one call && (has_slept call && nat_lt word sleepers)) refl

  -- a writer that announces itself and is due finds a bar or T where it sets none
  bar_of : Awaits call me → call.announces ≡ true → is_exclusive call.want ≡ true → is_due call ≡ true → (sets_bar here ≡ true → ⊥) → 2 ^ 34 ≤ word % sleepers
  bar_of aw announces exclusive due unset =
      elim (cases_Bool call.announced) [
        | inl own ↦ (let high = own_bar aw.0 own in omega arith)
        | inr other ↦
            elim (cases_Bool (nat_lt (word % sleepers) (2 ^ 34))) [
              | inl low ↦
                  absurd (unset
                  (and_from call.announces (is_exclusive call.want && (not call.announced && (is_due call && nat_lt (word % sleepers) (2 ^ 34)))) announces
                  (and_from (is_exclusive call.want) (not call.announced && (is_due call && nat_lt (word % sleepers) (2 ^ 34))) exclusive
                  (and_from (not call.announced) (is_due call && nat_lt (word % sleepers) (2 ^ 34)) (ap not other)
                  (and_from (is_due call) (nat_lt (word % sleepers) (2 ^ 34)) due low)))))
              | inr high ↦ not_below (word % sleepers) (2 ^ 34) high
            ]
      ]

  -- what a call finds that sets the bar, or T
  low_of : sets_bar here ≡ true → word % sleepers < 2 ^ 34
  low_of sets =
      let one = and_parts call.announces (is_exclusive call.want && (not call.announced && (is_due call && nat_lt (word % sleepers) (2 ^ 34)))) sets in
      let two = and_parts (is_exclusive call.want) (not call.announced && (is_due call && nat_lt (word % sleepers) (2 ^ 34))) one.1 in
      let three = and_parts (not call.announced) (is_due call && nat_lt (word % sleepers) (2 ^ 34)) two.1 in
      ltb-true (word % sleepers) (2 ^ 34) (and_parts (is_due call) (nat_lt (word % sleepers) (2 ^ 34)) three.1).1

  clear_of : sets_turn here ≡ true → word % sleepers < 2 ^ 35
  clear_of sets =
      let high = not (nat_lt (word % sleepers) (2 ^ 33)) in
      let one = and_parts (is_shared call.want) (not (wakes_one call) && ((call.sleeps == 4) && (nat_lt (word % sleepers) turn && high))) sets in
      let two = and_parts (not (wakes_one call)) ((call.sleeps == 4) && (nat_lt (word % sleepers) turn && high)) one.1 in
      let three = and_parts (call.sleeps == 4) (nat_lt (word % sleepers) turn && high) two.1 in
      ltb-true (word % sleepers) turn (and_parts (nat_lt (word % sleepers) turn) high three.1).0

  unmarked : (b t : Bool) → with_turn (core_of word + (if b then 2 ^ 34 else 0)) t + sleepers ≡ word → word % sleepers < 2 ^ 34 → b ≡ true → ⊥
  unmarked true true is low e = omega arith
  unmarked true false is low e = omega arith
  unmarked false t is low e = false≢true e

  unturned_word : (b : Bool) → with_turn (core_of word + (if b then 2 ^ 34 else 0)) true + sleepers ≡ word → word % sleepers < 2 ^ 35 → ⊥
  unturned_word true is low = omega arith
  unturned_word false is low = omega arith

  waits : Awaits call me → is_admitted here ≡ false → call.blocks ≡ true → StepKept (limits_of call) call.sleeps me.sleep before word views k (mark_or_sleep here)
  waits aw refuses blocks = by (word_marked here == word) refl
    where
      by : (b : Bool) → (word_marked here == word) ≡ b
          → StepKept (limits_of call) call.sleeps me.sleep before word views k (if b then sleep here else goes_to (record here { left = word_marked here }) stage.Mark (action.Exchange word (word_marked here)))
      by true e =
          let is : word_marked here ≡ word = eqb-true (word_marked here) word e in
          stays (sleep here) refl (
            sleeping aw.0 blocks,
            refuses,
            blocks,
            bit_of word (subst (λ n. sleepers ≤ n) is (omega arith)),
            (λ asleep. absurd (true≢false (sym asleep ∙ aw.1))),
            refl,
            (λ announces exclusive due. bar_of aw announces exclusive due (λ sets.
                unmarked true (has_turn word || sets_turn here)
                (subst (λ b. with_turn (core_of word + (if b then 2 ^ 34 else 0)) (has_turn word || sets_turn here) + sleepers ≡ word) sets is)
                (low_of sets) refl)),
            false_from_ne_true (sets_turn here) (λ sets.
                unturned_word (sets_bar here)
                (subst (λ b. with_turn (core_of word + (if sets_bar here then 2 ^ 34 else 0)) b + sleepers ≡ word) (or_right (has_turn word) (sets_turn here) sets) is)
                (clear_of sets)),
          ) mine
      by false e = stays (goes_to (record here { left = word_marked here }) stage.Mark (action.Exchange word (word_marked here))) refl (aw, refuses, blocks, refl, refl) mine

  rests : Awaits call me → is_admitted here ≡ false → StepKept (limits_of call) call.sleeps me.sleep before word views k (wait here)
  rests aw refuses = first call.blocks refl
    where
      third : call.blocks ≡ true → (b : Bool)
          → StepKept (limits_of call) call.sleeps me.sleep before word views k (if b then goes_to (record here { pauses = call.pauses + 1 }) stage.Pause (action.Spin (if nat_lt call.pauses 3 then call.pauses + 6 else 9)) else mark_or_sleep here)
      third blocks true = stays (goes_to (record here { pauses = call.pauses + 1 }) stage.Pause (action.Spin (if nat_lt call.pauses 3 then call.pauses + 6 else 9))) refl (aw, tt) mine
      third blocks false = waits aw refuses blocks

      second : call.blocks ≡ true → (b : Bool) → call.late ≡ b
          → StepKept (limits_of call) call.sleeps me.sleep before word views k (if b then time_out here
          else if nat_lt call.pauses 6 then goes_to (record here { pauses = call.pauses + 1 }) stage.Pause (action.Spin (if nat_lt call.pauses 3 then call.pauses + 6 else 9)) else mark_or_sleep here)
      second blocks true late = given_up aw refuses late
      second blocks false late = third blocks (nat_lt call.pauses 6)

      first : (b : Bool) → call.blocks ≡ b
          → StepKept (limits_of call) call.sleeps me.sleep before word views k (if not b then refused here else if call.late then time_out here
          else if nat_lt call.pauses 6 then goes_to (record here { pauses = call.pauses + 1 }) stage.Pause (action.Spin (if nat_lt call.pauses 3 then call.pauses + 6 else 9)) else mark_or_sleep here)
      first true e = second e call.late refl
      first false e = refusal aw (aw.0.tries e).0 (aw.0.tries e).1

  -- a word was found
  decided : Awaits call me → StepKept (limits_of call) call.sleeps me.sleep before word views k (decide word call)
  decided aw = by (is_admitted here) refl
    where
      by : (b : Bool) → is_admitted here ≡ b
          → StepKept (limits_of call) call.sleeps me.sleep before word views k (if b then goes_to (record call { loaded = word; left = after_try call word }) stage.Try (action.Exchange word (after_try call word)) else wait here)
      by true e = stays (goes_to (record call { loaded = word; left = after_try call word }) stage.Try (action.Exchange word (after_try call word))) refl (aw, e, refl) mine
      by false e = rests aw e

  -- an exchange of the loaded word
  exchanged : (left : ℕ) (next : Progress) → Awaits call me → (word ≡ call.loaded → StepKept (limits_of call) call.sleeps me.sleep before left views k next)
      → StepKept (limits_of call) call.sleeps me.sleep before (if word == call.loaded then left else word) views k (if word == call.loaded then next else decide word call)
  exchanged left next aw won = by (word == call.loaded) refl
    where
      by : (b : Bool) → (word == call.loaded) ≡ b → StepKept (limits_of call) call.sleeps me.sleep before (if b then left else word) views k (if b then next else decide word call)
      by true e = won (eqb-true word call.loaded e)
      by false e = decided aw

  -- the exchange that acquires
  pub tried : Awaits call me → is_admitted here ≡ true → word ≡ call.loaded
      → StepKept (limits_of call) call.sleeps me.sleep before (after_try call word) views k (won call)
  tried aw admits is =
      subst (λ n. StepKept (limits_of call) call.sleeps me.sleep before (after_try call word) views k (ended n)) is (kinds (takes_turn call word) refl)
    where
      ended : ℕ → Progress
      ended n = if takes_turn call n && has_sleepers n then goes_to call stage.WakeAcquired action.WakeAll else acquired call

      core_admits : IsTrue (word_admits me.held.announced call.readers (core_of word) call.want)
      core_admits =
          subst (λ b. IsTrue (word_admits b call.readers (core_of word) call.want)) aw.0.bar
          (and_parts (word_admits call.announced call.readers (core_of word) call.want) (not (has_turn word) || passes_turn call.announced call.want) admits).0

      no_bar : (hold_after me.held (step_of_want call.want)).announced ≡ false
      no_bar = leaves_no_bar me.held call.want aw.0.awaited (λ bar. aw.0.writer (aw.0.bar ∙ bar))

      holds : hold_after me.held (step_of_want call.want) ≡ hold_after (record before { announced = call.announced }) (step_of_want call.want)
      holds = ap (λ h. hold_after h (step_of_want call.want)) mine

      -- a reader takes the turn
      taking : wakes_one call ≡ false → (s : Bool) → has_sleepers word ≡ s
          → StepKept (limits_of call) call.sleeps me.sleep before (word_after (core_of word) call.want) views k
          (if s then goes_to call stage.WakeAcquired action.WakeAll else acquired call)
      taking many true e =
          turns_into (word_after (core_of word) call.want) false false (with_debt (after_win me call.want) debt.All) (goes_to call stage.WakeAcquired action.WakeAll)
          (does.takes_turn call.want false debt.All aw.0.has core_admits aw.0.owes_none many (λ set. refl))
          refl (refl, refl, refl, no_bar) holds refl
      taking many false e =
          turns_into (word_after (core_of word) call.want) false false (with_debt (after_win me call.want) debt.Nothing) (acquired call)
          (does.takes_turn call.want false debt.Nothing aw.0.has core_admits aw.0.owes_none many (λ set. absurd (false≢true (sym e ∙ set))))
          refl ((refl, refl), refl, no_bar) holds refl

      kinds : (b : Bool) → takes_turn call word ≡ b
          → StepKept (limits_of call) call.sleeps me.sleep before (if b then word_after (core_of word) call.want else after_other call word) views k
          (if b && has_sleepers word then goes_to call stage.WakeAcquired action.WakeAll else acquired call)
      kinds true e = taking (many_of_turn (and_parts (has_turn word) (is_shared call.want) e).0) (has_sleepers word) refl
      kinds false e =
          let now = has_sleepers word || (wakes_one call && has_slept call) in
          turns_into (word_after (core_of word) call.want) (has_turn word) now (after_win me call.want) (acquired call)
          (does.exchange call.want now aw.0.has core_admits
          aw.0.owes_none
          (λ set. or_left (has_sleepers word) (wakes_one call && has_slept call) set)
          (λ duty.
          let two = and_parts (wakes_one call) (is_woken me.sleep) duty in
          or_right (has_sleepers word) (wakes_one call && has_slept call) (and_from (wakes_one call) (has_slept call) two.0 (aw.0.woken two.1))))
          refl ((refl, refl), refl, no_bar) holds refl

  -- the exchange that clears the bar. In a mutex it leaves S on a word that refuses
  has_unbarred : Awaits call me → is_admitted here ≡ false → call.announced ≡ true → call.loaded ≡ word
      → StepKept (limits_of call) call.sleeps me.sleep before (encoded (core_of word - 2 ^ 34) (has_turn word) (wakes_one call)) views k (withdrawn call)
  has_unbarred aw refuses announced is = kind (wakes_one call) refl
    where
      has : IsTrue (hold_has me.held (step_of_down down.Withdraw))
      has = sym aw.0.bar ∙ announced

      cleared : me.held ≡ record before { announced = call.announced } → hold_after me.held (step_of_down down.Withdraw) ≡ record before { announced = false }
      cleared e = ap (λ (h : Hold). record h { announced = false }) e

      in_mutex : wakes_one call ≡ true → (d : Bool) → d ≡ false
          → StepKept (limits_of call) call.sleeps me.sleep before (encoded (core_of word - 2 ^ 34) (has_turn word) true) views k
          (if d then goes_to (record call { announced = false; turned = false }) stage.WakeRefused action.WakeAll else refused (record call { announced = false; turned = false }))
      in_mutex one true e = absurd (true≢false e)
      in_mutex one false e =
          let still : frees (limits_of call) (core_of word) (core_of word - 2 ^ 34) ≡ false = unfreed one (own_bar aw.0 announced) announced aw.0.writer refuses in
          turns_into (core_of word - 2 ^ 34) (has_turn word) true (after_take me down.Withdraw debt.Nothing) (refused (record call { announced = false; turned = false }))
          (does.take down.Withdraw true debt.Nothing has aw.0.owes_none (λ duty. (refl, still)) (is_unneeded still refl))
          refl ((refl, refl), refl) (cleared mine) refl

      in_others : wakes_one call ≡ false → (b : Bool) → (has_sleepers call.loaded && not (wakes_one call)) ≡ b
          → StepKept (limits_of call) call.sleeps me.sleep before (encoded (core_of word - 2 ^ 34) (has_turn word) false) views k
          (if b then goes_to (record call { announced = false; turned = false }) stage.WakeRefused action.WakeAll else refused (record call { announced = false; turned = false }))
      in_others many true e =
          turns_into (core_of word - 2 ^ 34) (has_turn word) false (after_take me down.Withdraw debt.All)
          (goes_to (record call { announced = false; turned = false }) stage.WakeRefused action.WakeAll)
          (does.take down.Withdraw false debt.All has aw.0.owes_none (λ duty. absurd (idle many duty)) is_all)
          refl (refl, refl, refl) (cleared mine) refl
      in_others many false e =
          let clear : has_sleepers word ≡ false
          = ap has_sleepers (sym is) ∙ (sym (and_true (has_sleepers call.loaded)) ∙ (ap (λ b. has_sleepers call.loaded && not b) (sym many) ∙ e)) in
          turns_into (core_of word - 2 ^ 34) (has_turn word) false (after_take me down.Withdraw debt.Nothing) (refused (record call { announced = false; turned = false }))
          (does.take down.Withdraw false debt.Nothing has aw.0.owes_none (λ duty. absurd (idle many duty)) (is_unset clear))
          refl ((refl, refl), refl) (cleared mine) refl

      kind : (b : Bool) → wakes_one call ≡ b
          → StepKept (limits_of call) call.sleeps me.sleep before (encoded (core_of word - 2 ^ 34) (has_turn word) b) views k (withdrawn call)
      kind true e = in_mutex e (has_sleepers call.loaded && not (wakes_one call)) (ap (λ b. has_sleepers call.loaded && not b) e ∙ and_false (has_sleepers call.loaded))
      kind false e = in_others e (has_sleepers call.loaded && not (wakes_one call)) refl

  -- the exchange that clears T
  has_dropped : Awaits call me → call.turned ≡ true → has_turn word ≡ true → call.loaded ≡ word
      → StepKept (limits_of call) call.sleeps me.sleep before (encoded (core_of word) false (has_sleepers word)) views k (withdrawn call)
  has_dropped aw turned set is =
      by (has_sleepers call.loaded && not (wakes_one call)) refl
    where
      many : wakes_one call ≡ false
      many = many_of_turn set

      mine_bare : me.held ≡ record before { announced = false }
      mine_bare = unannounced (false_from_ne_true call.announced (λ own. no_both call.want (aw.0.writer own) (aw.0.reader turned)))

      by : (b : Bool) → (has_sleepers call.loaded && not (wakes_one call)) ≡ b
          → StepKept (limits_of call) call.sleeps me.sleep before (encoded (core_of word) false (has_sleepers word)) views k
          (if b then goes_to (record call { announced = false; turned = false }) stage.WakeRefused action.WakeAll else refused (record call { announced = false; turned = false }))
      by true e =
          turns_into (core_of word) false (has_sleepers word) (with_debt (with_sleep me Awake) debt.All) (goes_to (record call { announced = false; turned = false }) stage.WakeRefused action.WakeAll)
          (does.drops_turn debt.All aw.0.owes_none many (λ was. refl)) refl (refl, refl, refl) mine_bare refl
      by false e =
          let clear : has_sleepers word ≡ false
          = ap has_sleepers (sym is) ∙ (sym (and_true (has_sleepers call.loaded)) ∙ (ap (λ b. has_sleepers call.loaded && not b) (sym many) ∙ e)) in
          turns_into (core_of word) false (has_sleepers word) (with_debt (with_sleep me Awake) debt.Nothing) (refused (record call { announced = false; turned = false }))
          (does.drops_turn debt.Nothing aw.0.owes_none many (λ was. absurd (false≢true (sym clear ∙ was)))) refl ((refl, refl), refl) mine_bare refl

  pub has_withdrawn : Awaits call me → is_admitted here ≡ false → (call.announced ≡ true) ⊎ ((call.turned ≡ true) × (has_turn call.loaded ≡ true)) → call.loaded ≡ word
      → StepKept (limits_of call) call.sleeps me.sleep before (word_withdrawn here) views k (withdrawn call)
  has_withdrawn aw refuses (inl own) is =
      subst (λ b. StepKept (limits_of call) call.sleeps me.sleep before (if b then word_unbarred here else word - turn) views k (withdrawn call)) (sym own)
      (has_unbarred aw refuses own is)
  has_withdrawn aw refuses (inr turns) is =
      let set : has_turn word ≡ true = ap has_turn (sym is) ∙ turns.1 in
      let bare : call.announced ≡ false = false_from_ne_true call.announced (λ own. no_both call.want (aw.0.writer own) (aw.0.reader turns.0)) in
      subst (λ b. StepKept (limits_of call) call.sleeps me.sleep before (if b then word_unbarred here else word - turn) views k (withdrawn call)) (sym bare)
      (subst (λ n. StepKept (limits_of call) call.sleeps me.sleep before n views k (withdrawn call)) (dropped word keeps.small set)
      (has_dropped aw turns.0 set is))

  -- the exchange by which a late call of a mutex sets S
  has_left : Awaits call me → is_admitted here ≡ false → call.announced ≡ false → IsTrue (wakes_one call) → word < sleepers → StepKept (limits_of call) call.sleeps me.sleep before (word + sleepers) views k (refused call)
  has_left aw refuses no_bar one low =
      let clear = turn_clear word (keeps.kept.no_turn one) in
      let bare : core_of word ≡ word = omega arith in
      let marks = does.marks in
      let later = each_step (limits_of call) (core_of word) (has_turn word) true views k me range marks at in
      let kept = later.stops aw.0.owes_none (λ is_one. (refl, taken aw.0 is_one refuses)) in
      let whole : with_turn (core_of word) (has_turn word) ≡ word = ap (λ b. with_turn (core_of word) b) (keeps.kept.no_turn one) ∙ bare in
      subst (λ c. StepKept (limits_of call) call.sleeps me.sleep before (c + sleepers) views k (refused call)) whole
      (turns_into (core_of word) (has_turn word) true (with_sleep me Awake) (refused call) kept refl ((refl, aw.0.owes_none), refl) (unannounced no_bar) refl)

  -- the exchange that sets S, and the bar or T

  -- the call at its sleep, after an exchange that left this
  abbrev marked_as : Bool → Bool → Progress
  marked_as b c = sleep (record call { announced = call.announced || b; turned = call.turned || c; loaded = call.left })

  small_here : core_of word < 2 ^ 35
  small_here = small_core (limits_of call) (core_of word) (has_turn word) (has_sleepers word) views range keeps.kept

  -- it sets the bar
  marks_bar : Awaits call me → is_admitted here ≡ false → call.blocks ≡ true → sets_bar here ≡ true → call.left ≡ encoded (core_of word + 2 ^ 34) false true
      → StepKept (limits_of call) call.sleeps me.sleep before (encoded (core_of word + 2 ^ 34) false true) views k (marked_as true false)
  marks_bar aw refuses blocks sets is_left =
      let one = and_parts call.announces (is_exclusive call.want && (not call.announced && (is_due call && nat_lt (word % sleepers) (2 ^ 34)))) sets in
      let exclusive = and_parts (is_exclusive call.want) (not call.announced && (is_due call && nat_lt (word % sleepers) (2 ^ 34))) one.1 in
      let two = and_parts (not call.announced) (is_due call && nat_lt (word % sleepers) (2 ^ 34)) exclusive.1 in
      let due = (and_parts (is_due call) (nat_lt (word % sleepers) (2 ^ 34)) two.1).0 in
      let free = low_of sets in
      let low : core_of word < 2 ^ 34 = omega arith in
      let clear : has_turn word ≡ false = low_is (word % 2 ^ 36) (2 ^ 35) (omega arith) in
      let more : core_of word + 2 ^ 34 < 2 ^ 35 = omega arith in
      let unread : is_shared call.want ≡ false = false_from_ne_true (is_shared call.want) (λ reads. no_both call.want exclusive.0 reads) in
      let bare : call.turned ≡ false = unturned aw.0 unread in
      let kept = does.exchange want.Announce true refl (lt-ltb (core_of word) (2 ^ 34) low) aw.0.owes_none (λ set. refl) (λ duty. refl) in
      let bar : (call.announced || true) ≡ true = or_right call.announced true refl in
      let still : (call.turned || false) ≡ false = or_false call.turned ∙ bare in
      let core_left = ap core_of is_left ∙ encoded_core (core_of word + 2 ^ 34) false true more in
      turns_into (core_of word + 2 ^ 34) false true (after_win me want.Announce) (marked_as true false)
      (subst (λ t. KeepsSleepers (limits_of call) (core_of word + 2 ^ 34) t true (slice_set views k (after_win me want.Announce))) clear kept) refl (
        record {
          awaited = aw.0.awaited;
          has = has_after_announcing me call.want aw.0.awaited aw.0.has;
          bar = bar;
          owes_none = refl;
          woken = λ w. refl;
          tries = λ b. absurd (true≢false (sym blocks ∙ b));
          patient = λ a. due;
          writer = λ a. exclusive.0;
          reader = λ own. absurd (false≢true (sym still ∙ own));
        },
        core_refuses_it (call.announced || true) call.readers call.left call.want
            (subst (λ a. word_admits a call.readers (core_of call.left) call.want ≡ false) (sym bar)
            (subst (λ n. word_admits true call.readers n call.want ≡ false) (sym core_left)
            (marked_refuses call.announced call.readers (core_of word) call.want low aw.0.awaited (refuses_core call.announced call.readers word call.want clear refuses)))),
        blocks,
        ap has_sleepers is_left ∙ encoded_bit (core_of word + 2 ^ 34) false true more,
        (λ asleep. absurd (false≢true asleep)),
        refl,
        (λ announces is_exclusive due. subst (λ n. 2 ^ 34 ≤ n % sleepers) (sym is_left) (omega arith)),
        ap (λ b. b && (not (wakes_one call) && ((call.sleeps == 4) && (nat_lt (call.left % sleepers) turn && not (nat_lt (call.left % sleepers) (2 ^ 33)))))) unread,
      )
      (ap (λ (h : Hold). record h { announced = true }) mine ∙ ap (λ a. record before { announced = a }) (sym bar)) refl

  -- it sets T
  marks_turn : Awaits call me → is_admitted here ≡ false → call.blocks ≡ true → sets_turn here ≡ true → call.left ≡ encoded (core_of word) true true
      → StepKept (limits_of call) call.sleeps me.sleep before (encoded (core_of word) true true) views k (marked_as false true)
  marks_turn aw refuses blocks sets is_left =
      let rest = (call.sleeps == 4) && (nat_lt (word % sleepers) turn && not (nat_lt (word % sleepers) (2 ^ 33))) in
      let reads = and_parts (is_shared call.want) (not (wakes_one call) && rest) sets in
      let many : wakes_one call ≡ false = not_true (wakes_one call) (and_parts (not (wakes_one call)) rest reads.1).0 in
      let clear : has_turn word ≡ false = low_is (word % 2 ^ 36) (2 ^ 35) (clear_of sets) in
      let unbarred : call.announced ≡ false = false_from_ne_true call.announced (λ own. no_both call.want (aw.0.writer own) reads.0) in
      let bare : (call.announced || false) ≡ call.announced = or_false call.announced in
      let own : (call.turned || true) ≡ true = or_right call.turned true refl in
      let core_left = ap core_of is_left ∙ encoded_core (core_of word) true true small_here in
      record {
        you = me;
        keeps =
            subst (λ vs. Keeps (limits_of call) (encoded (core_of word) true true) vs) (sym (slice_set_same views k me at))
            (keeps_word (limits_of call) (core_of word) true true views range (does.turns many));
        held = mine ∙ ap (λ a. record before { announced = a }) (sym bare);
        same_or_awake = inl refl;
        at = (
          record {
            awaited = aw.0.awaited;
            has = aw.0.has;
            bar = bare ∙ aw.0.bar;
            owes_none = aw.0.owes_none;
            woken = λ w. refl;
            tries = λ b. absurd (true≢false (sym blocks ∙ b));
            patient = λ a. aw.0.patient (sym bare ∙ a);
            writer = λ a. aw.0.writer (sym bare ∙ a);
            reader = λ is. reads.0;
          },
          core_refuses_it (call.announced || false) call.readers call.left call.want
              (subst (λ a. word_admits a call.readers (core_of call.left) call.want ≡ false) (sym bare)
              (subst (λ n. word_admits call.announced call.readers n call.want ≡ false) (sym core_left)
              (refuses_core call.announced call.readers word call.want clear refuses))),
          blocks,
          ap has_sleepers is_left ∙ encoded_bit (core_of word) true true small_here,
          (λ asleep. absurd (true≢false (sym asleep ∙ aw.1))),
          refl,
          (λ announces exclusive due. absurd (no_both call.want exclusive reads.0)),
          false_from_ne_true (sets_turn (record call { announced = call.announced || false; turned = call.turned || true; loaded = call.left })) (λ again.
              let high = not (nat_lt (call.left % sleepers) (2 ^ 33)) in
              let first = and_parts (is_shared call.want) (not (wakes_one call) && ((call.sleeps == 4) && (nat_lt (call.left % sleepers) turn && high))) again in
              let second = and_parts (not (wakes_one call)) ((call.sleeps == 4) && (nat_lt (call.left % sleepers) turn && high)) first.1 in
              let third = and_parts (call.sleeps == 4) (nat_lt (call.left % sleepers) turn && high) second.1 in
              let below = ltb-true (call.left % sleepers) turn (and_parts (nat_lt (call.left % sleepers) turn) high third.1).0 in
              let is_low = ap (λ n. n % sleepers) is_left ∙ encoded_low (core_of word) true true small_here in
              omega arith),
        );
        same_lock = refl;
      }

  -- it sets S alone
  marks_bit : Awaits call me → is_admitted here ≡ false → call.blocks ≡ true → sets_bar here ≡ false → sets_turn here ≡ false → call.left ≡ encoded (core_of word) (has_turn word) true
      → StepKept (limits_of call) call.sleeps me.sleep before (encoded (core_of word) (has_turn word) true) views k (marked_as false false)
  marks_bit aw refuses blocks no_bar no_turn is_left =
      let bare : (call.announced || false) ≡ call.announced = or_false call.announced in
      let still : (call.turned || false) ≡ call.turned = or_false call.turned in
      let t = has_turn word in
      let core_left = ap core_of is_left ∙ encoded_core (core_of word) t true small_here in
      let turn_left = ap has_turn is_left ∙ encoded_turn (core_of word) t true small_here in
      let low_left : call.left % sleepers ≡ word % sleepers
      = ap (λ n. n % sleepers) is_left
      ∙ (encoded_low (core_of word) t true small_here
      ∙ (sym (encoded_low (core_of word) t (has_sleepers word) small_here) ∙ ap (λ n. n % sleepers) (decoded word keeps.small))) in
      record {
        you = me;
        keeps =
            subst (λ vs. Keeps (limits_of call) (encoded (core_of word) t true) vs) (sym (slice_set_same views k me at))
            (keeps_word (limits_of call) (core_of word) t true views range does.marks);
        held = mine ∙ ap (λ a. record before { announced = a }) (sym bare);
        same_or_awake = inl refl;
        at = (
          subst (λ a. Acquires call.want a (call.turned || false) true call.blocks (is_due call) me) (sym bare)
              (subst (λ b. Acquires call.want call.announced b true call.blocks (is_due call) me) (sym still) (sleeping aw.0 blocks)),
          subst (λ a. admits_word a call.readers call.left call.want ≡ false) (sym bare)
              (refuses_alike call.announced call.readers word call.left call.want core_left turn_left refuses),
          blocks,
          ap has_sleepers is_left ∙ encoded_bit (core_of word) t true small_here,
          (λ asleep. absurd (true≢false (sym asleep ∙ aw.1))),
          refl,
          (λ announces exclusive due.
              subst (λ n. 2 ^ 34 ≤ n) (sym low_left)
              (bar_of aw announces exclusive due (λ sets. true≢false (sym sets ∙ no_bar)))),
          ap (λ n. is_shared call.want && (not (wakes_one call) && ((call.sleeps == 4) && (nat_lt n turn && not (nat_lt n (2 ^ 33)))))) low_left ∙ no_turn,
        );
        same_lock = refl;
      }

  pub has_marked : Awaits call me → is_admitted here ≡ false → call.blocks ≡ true → call.loaded ≡ word → call.left ≡ word_marked call
      → StepKept (limits_of call) call.sleeps me.sleep before (word_marked call) views k (marked call)
  has_marked aw refuses blocks is left =
      subst (λ n. StepKept (limits_of call) call.sleeps me.sleep before
      (with_turn (core_of n + (if sets_bar (record call { loaded = n }) then 2 ^ 34 else 0)) (has_turn n || sets_turn (record call { loaded = n })) + sleepers)
      views k (marked_as (sets_bar (record call { loaded = n })) (sets_turn (record call { loaded = n })))) (sym is)
      (by (sets_bar here) (sets_turn here) refl refl)
    where
      -- the word that is left, where the bar and T are set or not
      sums : (b c : Bool) → sets_bar here ≡ b → sets_turn here ≡ c → call.left ≡ with_turn (core_of word + (if b then 2 ^ 34 else 0)) (has_turn word || c) + sleepers
      sums b c eb ec =
          left
          ∙ (ap (λ n. with_turn (core_of n + (if sets_bar (record call { loaded = n }) then 2 ^ 34 else 0)) (has_turn n || sets_turn (record call { loaded = n })) + sleepers) is
          ∙ (ap (λ x. with_turn (core_of word + (if x then 2 ^ 34 else 0)) (has_turn word || sets_turn here) + sleepers) eb
          ∙ ap (λ x. with_turn (core_of word + (if b then 2 ^ 34 else 0)) (has_turn word || x) + sleepers) ec))

      by : (b c : Bool) → sets_bar here ≡ b → sets_turn here ≡ c
          → StepKept (limits_of call) call.sleeps me.sleep before (with_turn (core_of word + (if b then 2 ^ 34 else 0)) (has_turn word || c) + sleepers) views k (marked_as b c)
      by true true eb ec =
          let rest = not (wakes_one call) && ((call.sleeps == 4) && (nat_lt (word % sleepers) turn && not (nat_lt (word % sleepers) (2 ^ 33)))) in
          let one = and_parts call.announces (is_exclusive call.want && (not call.announced && (is_due call && nat_lt (word % sleepers) (2 ^ 34)))) eb in
          absurd (no_both call.want (and_parts (is_exclusive call.want) (not call.announced && (is_due call && nat_lt (word % sleepers) (2 ^ 34))) one.1).0
          (and_parts (is_shared call.want) rest ec).0)
      by true false eb ec =
          let free = low_of eb in
          let clear : (has_turn word || false) ≡ false = or_false (has_turn word) ∙ low_is (word % 2 ^ 36) (2 ^ 35) (omega arith) in
          let same : with_turn (core_of word + 2 ^ 34) (has_turn word || false) + sleepers ≡ encoded (core_of word + 2 ^ 34) false true
          = ap (λ t. with_turn (core_of word + 2 ^ 34) t + sleepers) clear in
          subst (λ n. StepKept (limits_of call) call.sleeps me.sleep before n views k (marked_as true false)) (sym same)
          (marks_bar aw refuses blocks eb (sums true false eb ec ∙ same))
      by false true eb ec =
          let set : (has_turn word || true) ≡ true = or_right (has_turn word) true refl in
          let same : with_turn (core_of word + 0) (has_turn word || true) + sleepers ≡ encoded (core_of word) true true
          = ap (λ t. with_turn (core_of word + 0) t + sleepers) set ∙ omega arith in
          subst (λ n. StepKept (limits_of call) call.sleeps me.sleep before n views k (marked_as false true)) (sym same)
          (marks_turn aw refuses blocks ec (sums false true eb ec ∙ same))
      by false false eb ec =
          let same : with_turn (core_of word + 0) (has_turn word || false) + sleepers ≡ encoded (core_of word) (has_turn word) true
          = ap (λ t. with_turn (core_of word + 0) t + sleepers) (or_false (has_turn word)) ∙ ap (λ n. with_turn n (has_turn word) + sleepers) (omega arith) in
          subst (λ n. StepKept (limits_of call) call.sleeps me.sleep before n views k (marked_as false false)) (sym same)
          (marks_bit aw refuses blocks eb ec (sums false false eb ec ∙ same))

module _ (word : ℕ) (views : List SleepView) (k : ℕ) (me : SleepView) (call : WordCall) (before : Hold) (range : IsLimit call.readers)
    (keeps : Keeps (limits_of call) word views) (at : slice_get views k ≡ Some me) where
  -- the party has released, and S is set after it or is not
  has_released : (now : Bool) → IsTrue (hold_has me.held (step_of_down call.down)) → AtRest me → me.held ≡ before
      → IsPaid (limits_of call) (core_of word) (core_of word - amount call.down) (has_turn word) (has_sleepers word) now (release_of call.readers word call.down).1
      → StepKept (limits_of call) call.sleeps me.sleep before (encoded (core_of word - amount call.down) (has_turn word) now) views k (wakes (release_of call.readers word call.down).1 call)
  has_released now has rests mine paid =
      let core = core_of word - amount call.down in
      let r = release_of call.readers word call.down in
      let you = after_take me call.down r.1 in
      let idle : has_duty (limits_of call) me ≡ false = idle_at me.sleep rests.0 in
      changed word views k me call before range keeps at core (has_turn word) now you (wakes r.1 call)
      ((steps word views k me call before range keeps at).take call.down now r.1 has rests.1 (λ duty. absurd (false≢true (sym idle ∙ duty))) paid)
      (lock r.1) (placed_at r.1) (holds_at r.1) refl
    where
      idle_at : (state : SleepState) → state ≡ Awake → (wakes_one call && is_woken state) ≡ false
      idle_at state e = rw e (and_false (wakes_one call))

      lock : (d : Debt) → lock_of (wakes d call).0 ≡ lock_of call
      lock debt.Nothing = refl
      lock debt.One = refl
      lock debt.All = refl
      lock debt.Next = refl
      lock debt.Turn = refl

      placed_at : (d : Debt) → IsAt (wakes d call).0.stage (wakes d call).0 (after_take me call.down d) (wakes d call).1
      placed_at debt.Nothing = ((refl, refl), refl)
      placed_at debt.One = (refl, refl)
      placed_at debt.All = (refl, refl)
      placed_at debt.Next = (refl, refl)
      placed_at debt.Turn = (refl, refl)

      holds_at : (d : Debt) → hold_after me.held (step_of_down call.down) ≡ hold_at (wakes d call).0.stage (wakes d call).0 before
      holds_at debt.Nothing = ap (λ h. hold_after h (step_of_down call.down)) mine
      holds_at debt.One = ap (λ h. hold_after h (step_of_down call.down)) mine
      holds_at debt.All = ap (λ h. hold_after h (step_of_down call.down)) mine
      holds_at debt.Next = ap (λ h. hold_after h (step_of_down call.down)) mine
      holds_at debt.Turn = ap (λ h. hold_after h (step_of_down call.down)) mine

  pub has_freed : IsTrue (hold_has me.held (step_of_down call.down)) → AtRest me → call.loaded ≡ word → me.held ≡ before
      → StepKept (limits_of call) call.sleeps me.sleep before (word_released call.readers word call.down) views k (wakes (release_of call.readers word call.down).1 call)
  has_freed has rests is mine =
      has_released (release_of call.readers word call.down).0 has rests mine
      (pays (has_sleepers word) call.readers word (core_of word - amount call.down))

  -- the subtraction
  pub has_subtracted : IsTrue (hold_has me.held (step_of_down call.down)) → AtRest me → me.held ≡ before
      → StepKept (limits_of call) call.sleeps me.sleep before (word - amount call.down) views k (wakes (release_of call.readers word call.down).1 call)
  has_subtracted has rests mine =
      let within = amount_within call.readers (core_of word) (parties_of views) k (party_of me) call.down
      (rule_of call.readers (core_of word) views keeps.kept.coded keeps.kept.legal) (party_at views k me at) has in
      subst (λ n. StepKept (limits_of call) call.sleeps me.sleep before n views k (wakes (release_of call.readers word call.down).1 call))
      (lessened word (amount call.down) keeps.small within)
      (has_released (has_sleepers word) has rests mine (pays_staying (has_sleepers word) call.readers word (core_of word - amount call.down)))

  -- the action is this one, and its answer is the word
  looked : (a x : Action) (found : ℕ) (f : ℕ → Progress) → a ≡ x → touches x ≡ true → (IsTrue (touches a) → found ≡ word)
      → StepKept (limits_of call) call.sleeps me.sleep before (made x word) views k (f word) → StepKept (limits_of call) call.sleeps me.sleep before (made a word) views k (f found)
  looked a x found f is reads answer kept =
      let same_word : found ≡ word = answer (ap touches is ∙ reads) in
      subst (λ y. StepKept (limits_of call) call.sleeps me.sleep before (made y word) views k (f found)) (sym is)
      (subst (λ n. StepKept (limits_of call) call.sleeps me.sleep before (made x word) views k (f n)) (sym same_word) kept)

  step_at : (st : Stage) (a : Action) (found : ℕ) → IsAt st call me a → me.held ≡ hold_at st call before → is_step st ≡ true → (IsTrue (touches a) → found ≡ word)
      → StepKept (limits_of call) call.sleeps me.sleep before (made a word) views k (next_at st found call)
  step_at stage.Look a found is_at held step answer = looked a action.Load found (λ n. decide n call) is_at.1 refl answer (decided word views k me call before range keeps at held is_at.0)
  step_at stage.Try a found is_at held step answer =
      looked a (action.Exchange call.loaded (after_try call call.loaded)) found (λ n. if n == call.loaded then won call else decide n call) is_at.2 refl answer
      (exchanged word views k me call before range keeps at held (after_try call call.loaded) (won call) is_at.0 (λ is.
      subst (λ n. StepKept (limits_of call) call.sleeps me.sleep before (after_try call n) views k (won call)) is
      (tried word views k me call before range keeps at held is_at.0 (subst (λ n. admits_word call.announced call.readers n call.want ≡ true) (sym is) is_at.1) is)))
  step_at stage.Pause a found is_at held step answer =
      subst (λ w. StepKept (limits_of call) call.sleeps me.sleep before w views k (goes_to call stage.Look action.Load)) (sym (rest_leaves a word is_at.1))
      (same word views k me call before range keeps at (goes_to call stage.Look action.Load) refl (is_at.0, refl) held)
  step_at stage.Mark a found is_at held step answer =
      looked a (action.Exchange call.loaded (word_marked call)) found (λ n. if n == call.loaded then marked call else decide n call) is_at.4 refl answer
      (exchanged word views k me call before range keeps at held (word_marked call) (marked call) is_at.0 (λ is.
      has_marked word views k me call before range keeps at held is_at.0 (subst (λ n. admits_word call.announced call.readers n call.want ≡ false) (sym is) is_at.1) is_at.2 (sym is) is_at.3))
  step_at stage.Sleep a found is_at held step answer = absurd (false≢true step)
  step_at stage.Withdraw a found is_at held step answer =
      looked a (action.Exchange call.loaded (word_withdrawn call)) found (λ n. if n == call.loaded then withdrawn call else decide n call) is_at.4 refl answer
      (exchanged word views k me call before range keeps at held (word_withdrawn call) (withdrawn call) is_at.0 (λ is.
      subst (λ n. StepKept (limits_of call) call.sleeps me.sleep before (word_withdrawn (record call { loaded = n })) views k (withdrawn call)) is
      (has_withdrawn word views k me call before range keeps at held is_at.0 (subst (λ n. admits_word call.announced call.readers n call.want ≡ false) (sym is) is_at.1) is_at.2 (sym is))))
  step_at stage.Leave a found is_at held step answer =
      looked a (action.Exchange call.loaded (call.loaded + sleepers)) found (λ n. if n == call.loaded then refused call else decide n call) is_at.4 refl answer
      (exchanged word views k me call before range keeps at held (call.loaded + sleepers) (refused call) is_at.0 (λ is.
      subst (λ n. StepKept (limits_of call) call.sleeps me.sleep before (n + sleepers) views k (refused call)) is
      (has_left word views k me call before range keeps at held is_at.0 (subst (λ n. admits_word call.announced call.readers n call.want ≡ false) (sym is) is_at.1) is_at.2 is_at.5 (subst (λ n. n < sleepers) (sym is) is_at.3))))
  step_at stage.LookToRemove a found is_at held step answer =
      looked a action.Load found (λ n. look_to_remove n call) is_at.2 refl answer (chosen (has_sleepers word))
    where
      chosen : (b : Bool) → StepKept (limits_of call) call.sleeps me.sleep before word views k (if b then release_on word call else subtract call)
      chosen true = same word views k me call before range keeps at (release_on word call) refl (is_at.0, is_at.1, refl) held
      chosen false = same word views k me call before range keeps at (subtract call) refl (is_at.0, is_at.1, refl) held
  step_at stage.Subtract a found is_at held step answer =
      looked a (action.Subtract call.down) found (λ n. wakes (release_of call.readers n call.down).1 call) is_at.2 refl answer
      (has_subtracted is_at.0 is_at.1 held)
  step_at stage.Release a found is_at held step answer =
      looked a (action.Exchange call.loaded (word_released call.readers call.loaded call.down)) found
      (λ n. if n == call.loaded then wakes (release_of call.readers call.loaded call.down).1 call else release_again n call) is_at.2 refl answer
      (freed (word == call.loaded) refl)
    where
      again : (b : Bool) → StepKept (limits_of call) call.sleeps me.sleep before word views k (if b then release_on word (record call { pauses = call.pauses + 1 }) else subtract call)
      again true = same word views k me call before range keeps at (release_on word (record call { pauses = call.pauses + 1 })) refl (is_at.0, is_at.1, refl) held
      again false = same word views k me call before range keeps at (subtract call) refl (is_at.0, is_at.1, refl) held

      freed : (b : Bool) → (word == call.loaded) ≡ b
          → StepKept (limits_of call) call.sleeps me.sleep before (if b then word_released call.readers call.loaded call.down else word) views k
          (if b then wakes (release_of call.readers call.loaded call.down).1 call else release_again word call)
      freed true e =
          let is = eqb-true word call.loaded e in
          subst (λ n. StepKept (limits_of call) call.sleeps me.sleep before (word_released call.readers n call.down) views k (wakes (release_of call.readers n call.down).1 call)) is
          (has_freed is_at.0 is_at.1 (sym is) held)
      freed false e = again (nat_lt call.pauses 8)
  step_at stage.Wake a found is_at held step answer = absurd (false≢true step)
  step_at stage.WakeRefused a found is_at held step answer = absurd (false≢true step)
  step_at stage.WakeAcquired a found is_at held step answer = absurd (false≢true step)
  step_at stage.Acquired a found is_at held step answer = absurd (false≢true step)
  step_at stage.Refused a found is_at held step answer = absurd (false≢true step)
  step_at stage.Ended a found is_at held step answer = absurd (false≢true step)

pub steps_keep_the_rule : StepsKeepTheRule
steps_keep_the_rule word views k me call a found before range keeps at is_at held step answer =
    step_at word views k me call before range keeps at call.stage a found is_at held step answer
