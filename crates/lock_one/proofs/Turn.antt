-- Readers get a turn.
use Rattle.std.proofs.Common.{◌≡◌, ◌≢◌, ◌⊎◌, ℕ, zero, suc, ◌+◌, ◌-◌, ◌%◌, ◌^◌, ◌<◌, ◌≤◌, Bool, true, false, not, ◌&&◌, ◌||◌, ◌==◌, nat_lt, if◌then◌else◌, inl, inr, List, [], ◌∷◌, slice_get, slice_set, Option, Some, None, IsTrue, refl, sym, ap, subst, ◌∙◌, arith, eqb-true, eq-eqb, ltb-true, lt-ltb}
use Rattle.std.proofs.lemmas.Bool.{false≢true, cases_Bool, cases_lt, and_parts, and_from, or_cases, false_from_ne_true}
use Rattle.std.proofs.lemmas.Option.{same_Some}
use Rattle.lock_modes.specs.declared.hold.Hold.{Hold}
use Rattle.lock_modes.specs.Modes.{tokens}
use Rattle.lock_modes.specs.Holds.{hold_has, hold_after}
use Rattle.lock_word.specs.declared.want.ExWant.{ExWant}
use Rattle.lock_word.specs.declared.want.ExWant.TheVariants as want
use Rattle.lock_word.specs.declared.down.Down.{Down}
use Rattle.lock_word.specs.Word.{word_admits, word_after, amount, step_of_want, step_of_down}
use Rattle.lock_word.specs.Unblocking.{is_awaited}
use Rattle.lock_word.proofs.Rules.{amount_within}
use Rattle.lock_word.proofs.Bars.{announced_shows}
use Rattle.lock_word.proofs.Lists.{placed}
use Rattle.lock_one.specs.declared.action.Action.{Action}
use Rattle.lock_one.specs.declared.action.Action.TheVariants as action
use Rattle.lock_one.specs.declared.action.Sleeper.{Sleeper}
use Rattle.lock_one.specs.declared.call.WordCall.{WordCall}
use Rattle.lock_one.specs.declared.stage.Stage.{Stage}
use Rattle.lock_one.specs.declared.stage.Stage.TheVariants as stage
use Rattle.lock_one.specs.declared.sleep_view.SleepView.{SleepView}
use Rattle.lock_one.specs.declared.sleep_view.Debt.{Debt}
use Rattle.lock_one.specs.declared.sleep_view.Debt.TheVariants as debt
use Rattle.lock_one.specs.Rule.{is_asleep, is_shared, passes_turn}
use Rattle.lock_one.specs.Machine.{Progress, is_exclusive, turn, sleepers, core_of, has_turn, has_sleepers, with_turn, with_sleepers, admits_word, wakes_one, has_slept, is_due, pauses_before, exchanges_before, sets_bar, sets_turn, word_marked, marked, drops_turn, word_unbarred, word_withdrawn, withdrawn, takes_turn, after_try, won, decide, goes_to, release_on, release_of, word_released, release_again, look_to_remove, acquiring, taking, subtract, wakes, refused, acquired, next_at, next_of}
use Rattle.lock_one.specs.Steps.{made, touches, hold_at, Awaits, IsAt, is_step}
use Rattle.lock_one.specs.Runs.{Underway, Thread, LockInUse, views_of, limits_in, Act, join, acquires, releases, steps, begins, may_acquire, may_release, with_thread, acquire_by, release_by, answer, after_act}
use Rattle.lock_one.specs.Bars.{in_use}
use Rattle.lock_one.specs.Turn.{tokens_of, acquires_by, acquisitions, keeps_turn, EndsTurn, ReadersGetATurn}
use Rattle.lock_one.proofs.Either.{of_either}
use Rattle.lock_one.proofs.EachStep.{parties_of, party_of, party_at, rule_of}
use Rattle.lock_one.proofs.Words.{encoded, encoded_core, encoded_turn, lessened, dropped, low_is, high_is, turn_is, turn_clear, rest_leaves, small_core}
use Rattle.lock_one.proofs.RunViews.{IsPlaced, RunKept, view_in}
use Rattle.lock_one.proofs.RunActs.{bare_after}
use Rattle.lock_one.proofs.RunSteps.{held_in, MadeBy, thread_made, act_makes, act_moves, of_made}
use Rattle.lock_one.proofs.Bars.{Still, still_decided, fewer, same_tokens, kept_in, read_here}
use Rattle.lock_one.proofs.Runs.{act_kept, sleeper_in_call}
use Rattle.lock_one.proofs.RunTurns.{acts_owned, served}

-- what a step of a call under T may do: it gives no token and sets no bar, and T stays or the call is late; or a reader takes the turn;
-- or the call with the bar acquires

abbrev SetsNone : ℕ → ℕ → Type 0
SetsNone word later = has_turn later ≡ true → 2 ^ 34 ≤ core_of later → 2 ^ 34 ≤ core_of word

abbrev Result : WordCall → Hold → ℕ → ℕ → Hold → Type 0
Result call own word later h =
    (((tokens h.bag ≤ tokens own.bag) × (h.announced ≡ true → own.announced ≡ true)) × ((has_turn later ≡ true) ⊎ (call.late ≡ true)) × SetsNone word later)
    ⊎ (((h ≡ hold_after own (step_of_want want.Shared)) × (has_turn later ≡ false))
    ⊎ ((own.announced ≡ true) × (h ≡ hold_after own (step_of_want want.Exclusive)) × (has_turn later ≡ true) × (core_of later < 2 ^ 34)))

abbrev Outcome : WordCall → Hold → Hold → ℕ → ℕ → Progress → Type 0
Outcome call own before word later p = Result call own word later (hold_at p.0.stage p.0 before)

-- the word after an acquisition
abbrev left_by : WordCall → ℕ → ExWant → ℕ
left_by call word w =
    if has_turn word && is_shared w then word_after (core_of word) w
    else with_sleepers (with_turn (word_after (core_of word) w) (has_turn word)) (has_sleepers word || (wakes_one call && has_slept call))

-- a call that goes on keeps what it held, and has no bar that it had not

abbrev Bars : Hold → WordCall → Progress → Type 0
Bars before call p = (hold_at p.0.stage p.0 before).announced ≡ true → call.announced ≡ true

bars_decided : (before : Hold) (word : ℕ) (call : WordCall) → Bars before call (decide word call)
bars_decided before word call =
    let now : WordCall = record call { loaded = word } in
    of_either (Bars before call) (admits_word call.announced call.readers word call.want) _ _ (λ e. e)
    (of_either (Bars before call) (not call.blocks) _ _ (λ e. absurd (false≢true e))
    (of_either (Bars before call) call.late _ _
    (of_either (Bars before call) (call.announced || drops_turn now) _ _ (λ e. e)
    (of_either (Bars before call) (wakes_one call && (has_slept call && nat_lt word sleepers)) _ _ (λ e. e) (λ e. absurd (false≢true e))))
    (of_either (Bars before call) (nat_lt call.pauses pauses_before) _ _ (λ e. e) (of_either (Bars before call) (word_marked now == word) _ _ (λ e. e) (λ e. e)))))

module _ (call : WordCall) (v : SleepView) (before : Hold) (word : ℕ) (set : has_turn word ≡ true) (small : word < 2 ^ 37) (core_small : core_of word < 2 ^ 35)
    (no_turn : IsTrue (wakes_one call) → has_turn word ≡ false) (clean : before.announced ≡ false)
    (within : (d : Down) → IsTrue (hold_has v.held (step_of_down d)) → amount d ≤ core_of word) where
  -- the word is the same, and the call keeps what it held
  stays : (p : Progress) → v.held ≡ record before { announced = call.announced } → Still before p → Bars before call p → Outcome call v.held before word word p
  stays p held still bars =
      inl (
        (
          same_tokens (hold_at p.0.stage p.0 before) v.held (still ∙ sym (ap (λ (h : Hold). h.bag) held)),
          (λ e. ap (λ (h : Hold). h.announced) held ∙ bars e),
        ),
        inl set,
        (λ t high. high),
      )

  decided : v.held ≡ record before { announced = call.announced } → Outcome call v.held before word word (decide word call)
  decided held = stays (decide word call) held (still_decided before word call) (bars_decided before word call)

  -- an exchange of the loaded word
  exchanged : (left : ℕ) (next : Progress) → v.held ≡ record before { announced = call.announced }
      → (word ≡ call.loaded → Outcome call v.held before word left next)
      → Outcome call v.held before word (if word == call.loaded then left else word) (if word == call.loaded then next else decide word call)
  exchanged left next held wins = by (word == call.loaded) refl
    where
      by : (b : Bool) → (word == call.loaded) ≡ b → Outcome call v.held before word (if b then left else word) (if b then next else decide word call)
      by true e = wins (eqb-true word call.loaded e)
      by false e = decided held

  -- the exchange that acquires
  tried : Awaits call v → admits_word call.announced call.readers word call.want ≡ true → v.held ≡ record before { announced = call.announced }
      → word ≡ call.loaded → Outcome call v.held before word (after_try call word) (won call)
  tried aw admits held is =
      subst (λ n. Outcome call v.held before word (after_try call word) (if takes_turn call n && has_sleepers n then goes_to call stage.WakeAcquired action.WakeAll else acquired call)) is
      (ended (takes_turn call word && has_sleepers word))
    where
      core_admits : IsTrue (word_admits call.announced call.readers (core_of word) call.want)
      core_admits = (and_parts (word_admits call.announced call.readers (core_of word) call.want) (not (has_turn word) || passes_turn call.announced call.want) admits).0

      passes : passes_turn call.announced call.want ≡ true
      passes =
          ap (λ b. not b || passes_turn call.announced call.want) (sym set)
          ∙ (and_parts (word_admits call.announced call.readers (core_of word) call.want) (not (has_turn word) || passes_turn call.announced call.want) admits).1

      mine : hold_after v.held (step_of_want call.want) ≡ hold_after (record before { announced = call.announced }) (step_of_want call.want)
      mine = ap (λ h. hold_after h (step_of_want call.want)) held

      -- T stays
      left_stays : (w : ExWant) → is_shared w ≡ false → left_by call word w ≡ encoded (word_after (core_of word) w) true (has_sleepers word || (wakes_one call && has_slept call))
      left_stays w other =
          ap (λ b. if b && is_shared w then word_after (core_of word) w
          else with_sleepers (with_turn (word_after (core_of word) w) b) (has_sleepers word || (wakes_one call && has_slept call))) set
          ∙ ap (λ b. if b then word_after (core_of word) w
          else with_sleepers (with_turn (word_after (core_of word) w) true) (has_sleepers word || (wakes_one call && has_slept call))) other

      left_taken : left_by call word want.Shared ≡ core_of word + 1
      left_taken =
          ap (λ b. if b && true then core_of word + 1
          else with_sleepers (with_turn (core_of word + 1) b) (has_sleepers word || (wakes_one call && has_slept call))) set

      wins : (w : ExWant) → IsTrue (is_awaited w) → IsTrue (hold_has v.held (step_of_want w)) → IsTrue (word_admits call.announced call.readers (core_of word) w)
          → passes_turn call.announced w ≡ true → Result call v.held word (left_by call word w) (hold_after v.held (step_of_want w))
      wins want.Shared awaited has admit pass =
          let low = ltb-true (core_of word) (2 ^ 33) (and_parts (nat_lt (core_of word) (2 ^ 33)) (nat_lt (core_of word % 2 ^ 32) call.readers) admit).0 in
          let is_left : left_by call word want.Shared ≡ core_of word + 1 = left_taken in
          inr (inl (refl, ap has_turn is_left ∙ low_is ((core_of word + 1) % 2 ^ 36) (2 ^ 35) (omega arith)))
      wins want.Exclusive awaited has admit pass =
          let s = has_sleepers word || (wakes_one call && has_slept call) in
          let is_left = left_stays want.Exclusive refl in
          inr (inr (
            sym aw.0.bar ∙ pass,
            refl,
            ap has_turn is_left ∙ encoded_turn (2 ^ 33) true s (omega arith),
            subst (λ n. n < 2 ^ 34) (sym (ap core_of is_left ∙ encoded_core (2 ^ 33) true s (omega arith))) (omega arith),
          ))
      wins want.Upgradable awaited has admit pass = absurd (false≢true pass)
      wins want.Upgrade awaited has admit pass =
          let s = has_sleepers word || (wakes_one call && has_slept call) in
          let is_left = left_stays want.Upgrade refl in
          let next = word_after (core_of word) want.Upgrade in
          let some = ltb-true 0 v.held.bag.upgradable has in
          let fits : (next < 2 ^ 35) × (2 ^ 34 ≤ next → 2 ^ 34 ≤ core_of word)
          = elim (or_cases (core_of word == 2 ^ 32 + 1) (core_of word == 2 ^ 34 + 2 ^ 32 + 1) admit) [
            | inl one ↦ (let is = eqb-true (core_of word) (2 ^ 32 + 1) one in (omega arith, λ high. omega arith))
            | inr one ↦ (let is = eqb-true (core_of word) (2 ^ 34 + 2 ^ 32 + 1) one in (omega arith, λ high. omega arith))
          ] in
          inl (
            (omega arith, (λ e. e)),
            inl (ap has_turn is_left ∙ encoded_turn next true s fits.0),
            (λ t high. fits.1 (subst (λ n. 2 ^ 34 ≤ n) (ap core_of is_left ∙ encoded_core next true s fits.0) high)),
          )
      wins want.Announce awaited has admit pass = absurd (false≢true pass)

      ended : (b : Bool) → Outcome call v.held before word (after_try call word) (if b then goes_to call stage.WakeAcquired action.WakeAll else acquired call)
      ended true = subst (λ h. Result call v.held word (after_try call word) h) mine (wins call.want aw.0.awaited aw.0.has core_admits passes)
      ended false = subst (λ h. Result call v.held word (after_try call word) h) mine (wins call.want aw.0.awaited aw.0.has core_admits passes)

  -- the exchange that sets S. Under T it sets nothing else
  has_marked : v.held ≡ record before { announced = call.announced } → word ≡ call.loaded → Outcome call v.held before word (word_marked call) (marked call)
  has_marked held is =
      let high = turn_is word set in
      let none : sets_bar call ≡ false
      = false_from_ne_true (sets_bar call) (λ sets.
      let one = and_parts call.announces (is_exclusive call.want && (not call.announced && (is_due call && nat_lt (call.loaded % sleepers) (2 ^ 34)))) sets in
      let two = and_parts (is_exclusive call.want) (not call.announced && (is_due call && nat_lt (call.loaded % sleepers) (2 ^ 34))) one.1 in
      let three = and_parts (not call.announced) (is_due call && nat_lt (call.loaded % sleepers) (2 ^ 34)) two.1 in
      let low = ltb-true (call.loaded % sleepers) (2 ^ 34) (and_parts (is_due call) (nat_lt (call.loaded % sleepers) (2 ^ 34)) three.1).1 in
      omega arith) in
      let t_is : (has_turn call.loaded || sets_turn call) ≡ true = ap (λ b. b || sets_turn call) (ap has_turn (sym is) ∙ set) in
      let left : word_marked call ≡ encoded (core_of word) true true
      = ap (λ b. with_turn (core_of call.loaded + (if b then 2 ^ 34 else 0)) (has_turn call.loaded || sets_turn call) + sleepers) none
      ∙ (ap (λ b. with_turn (core_of call.loaded + 0) b + sleepers) t_is ∙ (ap (λ n. core_of n + 0 + turn + sleepers) (sym is) ∙ ap (λ n. n + turn + sleepers) (plus_none (core_of word)))) in
      inl (
        (
          same_tokens (hold_at stage.Sleep (marked call).0 before) v.held (sym (ap (λ (h : Hold). h.bag) held)),
          (λ e. ap (λ (h : Hold). h.announced) held ∙ (sym (or_false call.announced) ∙ (ap (λ b. call.announced || b) (sym none) ∙ e))),
        ),
        inl (ap has_turn left ∙ encoded_turn (core_of word) true true core_small),
        (λ t high. subst (λ n. 2 ^ 34 ≤ n) (ap core_of left ∙ encoded_core (core_of word) true true core_small) high),
      )
    where
      plus_none : (n : ℕ) → n + 0 ≡ n
      plus_none n = omega arith

      or_false : (a : Bool) → (a || false) ≡ a
      or_false true = refl
      or_false false = refl

  -- a late call withdraws
  has_withdrawn : v.held ≡ record before { announced = call.announced } → call.late ≡ true → word ≡ call.loaded
      → Outcome call v.held before word (word_withdrawn call) (withdrawn call)
  has_withdrawn held late is =
      by (has_sleepers call.loaded && not (wakes_one call))
    where
      none_set : SetsNone word (word_withdrawn call)
      none_set = kind call.announced
        where
          kind : (b : Bool) → SetsNone word (if b then word_unbarred call else call.loaded - turn)
          kind true t high =
              let same = ap core_of is in
              let less : core_of call.loaded - 2 ^ 34 < 2 ^ 35 = omega arith in
              let left = encoded_core (core_of call.loaded - 2 ^ 34) (has_turn call.loaded) (wakes_one call) less in
              let fits = subst (λ n. 2 ^ 34 ≤ n) left high in
              omega arith
          kind false t high =
              let left : call.loaded - turn ≡ encoded (core_of word) false (has_sleepers word) = ap (λ n. n - turn) (sym is) ∙ sym (dropped word small set) in
              absurd (false≢true (sym (ap has_turn left ∙ encoded_turn (core_of word) false (has_sleepers word) core_small) ∙ t))

      by : (b : Bool) → Outcome call v.held before word (word_withdrawn call)
          (if b then goes_to (record call { announced = false; turned = false }) stage.WakeRefused action.WakeAll else refused (record call { announced = false; turned = false }))
      by true = inl ((same_tokens (record before { announced = false }) v.held (sym (ap (λ (h : Hold). h.bag) held)), (λ e. absurd (false≢true e))), inr late, none_set)
      by false = inl ((same_tokens (record before { announced = false }) v.held (sym (ap (λ (h : Hold). h.bag) held)), (λ e. absurd (false≢true e))), inr late, none_set)

  -- a release
  released : IsTrue (hold_has v.held (step_of_down call.down)) → v.held ≡ before → (later : ℕ) → (s : Bool) → later ≡ encoded (core_of word - amount call.down) (has_turn word) s → (d : Debt)
      → Outcome call v.held before word later (wakes d call)
  released has held later s is d = by d
    where
      less : core_of word - amount call.down < 2 ^ 35
      less = omega arith

      few : tokens (hold_after before (step_of_down call.down)).bag ≤ tokens v.held.bag
      few = subst (λ h. tokens (hold_after h (step_of_down call.down)).bag ≤ tokens v.held.bag) held (fewer v.held call.down has)

      bare : (hold_after before (step_of_down call.down)).announced ≡ true → v.held.announced ≡ true
      bare e = absurd (false≢true (sym (bare_after before clean call.down) ∙ e))

      keeps_t : has_turn later ≡ true
      keeps_t = ap has_turn is ∙ (encoded_turn (core_of word - amount call.down) (has_turn word) s less ∙ set)

      none_set : SetsNone word later
      none_set t high =
          let fits = subst (λ n. 2 ^ 34 ≤ n) (ap core_of is ∙ encoded_core (core_of word - amount call.down) (has_turn word) s less) high in
          omega arith

      by : (d : Debt) → Outcome call v.held before word later (wakes d call)
      by debt.Nothing = inl ((few, bare), inl keeps_t, none_set)
      by debt.One = inl ((few, bare), inl keeps_t, none_set)
      by debt.All = inl ((few, bare), inl keeps_t, none_set)
      by debt.Next = inl ((few, bare), inl keeps_t, none_set)
      by debt.Turn = inl ((few, bare), inl keeps_t, none_set)

  -- a release that goes on
  still_releasing : (p : Progress) → v.held ≡ before → hold_at p.0.stage p.0 before ≡ before → Outcome call v.held before word word p
  still_releasing p held same =
      inl (
        (
          same_tokens (hold_at p.0.stage p.0 before) v.held (ap (λ (h : Hold). h.bag) (same ∙ sym held)),
          (λ e. ap (λ (h : Hold). h.announced) (held ∙ sym same) ∙ e),
        ),
        inl set,
        (λ t high. high),
      )

  -- the action is this one, and its answer is the word
  looked : (a x : Action) (found : ℕ) (f : ℕ → Progress) → a ≡ x → touches x ≡ true → (IsTrue (touches a) → found ≡ word)
      → Outcome call v.held before word (made x word) (f word) → Outcome call v.held before word (made a word) (f found)
  looked a x found f is reads same kept =
      subst (λ y. Outcome call v.held before word (made y word) (f found)) (sym is)
      (subst (λ n. Outcome call v.held before word (made x word) (f n)) (sym (same (ap touches is ∙ reads))) kept)

  by_stage : (st : Stage) (a : Action) (found : ℕ) → IsAt st call v a → v.held ≡ hold_at st call before → is_step st ≡ true → (IsTrue (touches a) → found ≡ word)
      → Outcome call v.held before word (made a word) (next_at st found call)
  by_stage stage.Look a found is held step reads = looked a action.Load found (λ n. decide n call) is.1 refl reads (decided held)
  by_stage stage.Try a found is held step reads =
      looked a (action.Exchange call.loaded (after_try call call.loaded)) found (λ n. if n == call.loaded then won call else decide n call) is.2 refl reads
      (exchanged (after_try call call.loaded) (won call) held (λ same.
      subst (λ n. Outcome call v.held before word (after_try call n) (won call)) same
      (tried is.0 (subst (λ n. admits_word call.announced call.readers n call.want ≡ true) (sym same) is.1) held same)))
  by_stage stage.Pause a found is held step reads =
      subst (λ w. Outcome call v.held before word w (goes_to call stage.Look action.Load)) (sym (rest_leaves a word is.1))
      (stays (goes_to call stage.Look action.Load) held refl (λ e. e))
  by_stage stage.Mark a found is held step reads =
      looked a (action.Exchange call.loaded (word_marked call)) found (λ n. if n == call.loaded then marked call else decide n call) is.4 refl reads
      (exchanged (word_marked call) (marked call) held (λ same. has_marked held same))
  by_stage stage.Sleep a found is held step reads = absurd (false≢true step)
  by_stage stage.Withdraw a found is held step reads =
      looked a (action.Exchange call.loaded (word_withdrawn call)) found (λ n. if n == call.loaded then withdrawn call else decide n call) is.4 refl reads
      (exchanged (word_withdrawn call) (withdrawn call) held (λ same. has_withdrawn held is.3 same))
  by_stage stage.Leave a found is held step reads = absurd (false≢true (sym (no_turn is.5) ∙ set))
  by_stage stage.LookToRemove a found is held step reads =
      looked a action.Load found (λ n. look_to_remove n call) is.2 refl reads (chosen (has_sleepers word))
    where
      chosen : (b : Bool) → Outcome call v.held before word word (if b then release_on word call else subtract call)
      chosen true = still_releasing (release_on word call) held refl
      chosen false = still_releasing (subtract call) held refl
  by_stage stage.Subtract a found is held step reads =
      looked a (action.Subtract call.down) found (λ n. wakes (release_of call.readers n call.down).1 call) is.2 refl reads
      (released is.0 held (word - amount call.down) (has_sleepers word) (sym (lessened word (amount call.down) small (within call.down is.0))) (release_of call.readers word call.down).1)
  by_stage stage.Release a found is held step reads =
      looked a (action.Exchange call.loaded (word_released call.readers call.loaded call.down)) found
      (λ n. if n == call.loaded then wakes (release_of call.readers call.loaded call.down).1 call else release_again n call) is.2 refl reads
      (freed (word == call.loaded) refl)
    where
      again : (b : Bool) → Outcome call v.held before word word (if b then release_on word (record call { pauses = call.pauses + 1 }) else subtract call)
      again true = still_releasing (release_on word (record call { pauses = call.pauses + 1 })) held refl
      again false = still_releasing (subtract call) held refl

      freed : (b : Bool) → (word == call.loaded) ≡ b
          → Outcome call v.held before word (if b then word_released call.readers call.loaded call.down else word)
          (if b then wakes (release_of call.readers call.loaded call.down).1 call else release_again word call)
      freed true e =
          let same = eqb-true word call.loaded e in
          released is.0 held (word_released call.readers call.loaded call.down) (release_of call.readers call.loaded call.down).0
          (ap (λ n. encoded (core_of n - amount call.down) (has_turn n) (release_of call.readers call.loaded call.down).0) (sym same)) (release_of call.readers call.loaded call.down).1
      freed false e = again (nat_lt call.pauses exchanges_before)
  by_stage stage.Wake a found is held step reads = absurd (false≢true step)
  by_stage stage.WakeRefused a found is held step reads = absurd (false≢true step)
  by_stage stage.WakeAcquired a found is held step reads = absurd (false≢true step)
  by_stage stage.Acquired a found is held step reads = absurd (false≢true step)
  by_stage stage.Refused a found is held step reads = absurd (false≢true step)
  by_stage stage.Ended a found is held step reads = absurd (false≢true step)

-- the same of a run

abbrev MadeOutcome : (s after : LockInUse) (a : Act) → MadeBy s after a → Type 0
MadeOutcome s after a m =
    Outcome m.underway.at.0 m.own.view.held m.underway.before s.word (made m.underway.at.1 s.word) (next_of (answer m.underway.at.1 s.word m.given) m.underway.at.0)

made_under_turn : (s after : LockInUse) (a : Act) (m : MadeBy s after a) → RunKept s → has_turn s.word ≡ true → MadeOutcome s after a m
made_under_turn s after a m run set =
    let u = m.underway in
    let views = views_of s.threads in
    let kept = run.keeps.kept in
    let place : IsPlaced (limits_in s.readers) m.own.view (Some u) = subst (λ o. IsPlaced (limits_in s.readers) m.own.view o) m.calls (run.each m.number m.own m.at) in
    let rule = rule_of s.readers (core_of s.word) views kept.coded kept.legal in
    by_stage u.at.0 m.own.view u.before s.word set run.keeps.small (small_core (limits_in s.readers) (core_of s.word) (has_turn s.word) (has_sleepers s.word) views run.range kept)
    (λ one. kept.no_turn (subst (λ n. (n == 1) ≡ true) (ap (λ l. l.readers) place.2) one)) place.4
    (λ d has. amount_within s.readers (core_of s.word) (parties_of views) m.number (party_of m.own.view) d rule (party_at views m.number m.own.view (view_in s.threads m.number m.own m.at)) has)
    u.at.0.stage u.at.1 (answer u.at.1 s.word m.given) place.0 place.1 m.stepping (read_here u.at.1 s.word m.given)

word_made : (s after : LockInUse) (a : Act) (m : MadeBy s after a) → after.word ≡ made m.underway.at.1 s.word
word_made s after a m = ap (λ (x : LockInUse). x.word) m.is

passed_by_bar : (s : LockInUse) (a : Act) (k : ℕ) (before after : Thread) → RunKept s → has_turn s.word ≡ true → has_turn (after_act s a).word ≡ true
    → slice_get s.threads k ≡ Some before → slice_get (after_act s a).threads k ≡ Some after
    → (tokens after.view.held.bag ≤ tokens before.view.held.bag)
    ⊎ ((before.view.held.announced ≡ true) × (after.view.held ≡ hold_after before.view.held (step_of_want want.Exclusive)))
passed_by_bar s a k before after run set still at later =
    elim (act_moves s a run) [
      | inl same ↦ inl (same_tokens after.view.held before.view.held (ap (λ (h : Hold). h.bag) (same.1 k before after at later)))
      | inr m ↦
          elim (of_made s (after_act s a) a m k before after at later) [
            | inr same ↦ inl (same_tokens after.view.held before.view.held (ap (λ (x : Thread). x.view.held.bag) same))
            | inl is ↦
                subst (λ (t : Thread). (tokens after.view.held.bag ≤ tokens t.view.held.bag) ⊎ ((t.view.held.announced ≡ true) × (after.view.held ≡ hold_after t.view.held (step_of_want want.Exclusive)))) (sym is.0)
                (subst (λ (t : Thread). (tokens t.view.held.bag ≤ tokens m.own.view.held.bag) ⊎ ((m.own.view.held.announced ≡ true) × (t.view.held ≡ hold_after m.own.view.held (step_of_want want.Exclusive)))) (sym is.1)
                (elim (made_under_turn s (after_act s a) a m run set) [
                  | inl few ↦ inl few.0.0
                  | inr other ↦
                      elim other [
                        | inl reads ↦ absurd (false≢true (sym (ap has_turn (word_made s (after_act s a) a m) ∙ reads.1) ∙ still))
                        | inr writes ↦ inr (writes.0, writes.1)
                      ]
                ]))
          ]
    ]

sets_no_bar : (s : LockInUse) (a : Act) (k : ℕ) (before after : Thread) → RunKept s → has_turn s.word ≡ true
    → slice_get s.threads k ≡ Some before → slice_get (after_act s a).threads k ≡ Some after
    → after.view.held.announced ≡ true → before.view.held.announced ≡ true
sets_no_bar s a k before after run set at later bar =
    elim (act_moves s a run) [
      | inl same ↦ ap (λ (h : Hold). h.announced) (sym (same.1 k before after at later)) ∙ bar
      | inr m ↦
          elim (of_made s (after_act s a) a m k before after at later) [
            | inr same ↦ ap (λ (x : Thread). x.view.held.announced) (sym same) ∙ bar
            | inl is ↦
                (let own : (thread_made s (after_act s a) a m).view.held.announced ≡ true = ap (λ (x : Thread). x.view.held.announced) (sym is.1) ∙ bar in
                ap (λ (x : Thread). x.view.held.announced) is.0
                ∙ elim (made_under_turn s (after_act s a) a m run set) [
                  | inl few ↦ few.0.1 own
                  | inr other ↦
                      elim other [
                        | inl reads ↦ sym (ap (λ (h : Hold). h.announced) reads.0) ∙ own
                        | inr writes ↦ writes.0
                      ]
                ])
          ]
    ]

ends_turn : (s : LockInUse) (a : Act) → RunKept s → has_turn s.word ≡ true → (has_turn (after_act s a).word ≡ true) ⊎ EndsTurn s a
ends_turn s a run set =
    elim (act_moves s a run) [
      | inl same ↦ inl (ap has_turn same.0 ∙ set)
      | inr m ↦
          (let word_is = word_made s (after_act s a) a m in
          let there : slice_get (after_act s a).threads m.number ≡ Some (thread_made s (after_act s a) a m)
          = ap (λ (x : LockInUse). slice_get x.threads m.number) m.is ∙ placed s.threads m.number m.own (thread_made s (after_act s a) a m) m.at in
          elim (made_under_turn s (after_act s a) a m run set) [
            | inl few ↦
                elim few.1 [
                  | inl stays ↦ inl (ap has_turn word_is ∙ stays)
                  | inr late ↦ inr record {
                    number = m.number;
                    given = m.given;
                    other = m.other;
                    makes = m.act;
                    own = m.own;
                    own_after = thread_made s (after_act s a) a m;
                    was = m.at;
                    is = there;
                    reads = inr record { underway = m.underway; calls = m.calls; late = late };
                  }
                ]
            | inr other ↦
                elim other [
                  | inl reads ↦ inr record { number = m.number; given = m.given; other = m.other; makes = m.act; own = m.own; own_after = thread_made s (after_act s a) a m; was = m.at; is = there; reads = inl reads.0 }
                  | inr writes ↦ inl (ap has_turn word_is ∙ writes.2)
                ]
          ])
    ]

-- how many acquire

-- one, where a bar is set
abbrev bars : ℕ → ℕ
bars core = if nat_lt core (2 ^ 34) then 0 else 1

bars_low : (core : ℕ) → core < 2 ^ 34 → bars core ≡ 0
bars_low core low = ap (λ b. if b then 0 else 1) (lt-ltb core (2 ^ 34) low)

bars_high : (core : ℕ) → 2 ^ 34 ≤ core → bars core ≡ 1
bars_high core high = ap (λ b. if b then 0 else 1) (false_from_ne_true (nat_lt core (2 ^ 34)) (λ e. let low = ltb-true core (2 ^ 34) e in omega arith))

few_bars : (core : ℕ) → bars core ≤ 1
few_bars core = by (nat_lt core (2 ^ 34))
  where
    by : (b : Bool) → (if b then 0 else 1) ≤ 1
    by true = omega arith
    by false = omega arith

no_more_bars : (core later : ℕ) → (2 ^ 34 ≤ later → 2 ^ 34 ≤ core) → bars later ≤ bars core
no_more_bars core later stays =
    elim (cases_lt later (2 ^ 34)) [
      | inl low ↦ subst (λ n. n ≤ bars core) (sym (bars_low later low)) (omega arith)
      | inr high ↦ subst (λ n. bars later ≤ n) (sym (bars_high core (stays high))) (few_bars later)
    ]

abbrev held_tokens : Option Hold → ℕ
held_tokens None = 0
held_tokens (Some h) = tokens h.bag

tokens_held : (ts : List Thread) (k : ℕ) → tokens_of (slice_get ts k) ≡ held_tokens (slice_get (held_in ts) k)
tokens_held [] k = refl
tokens_held (t ∷ ts) zero = refl
tokens_held (t ∷ ts) (suc k) = tokens_held ts k

-- of a thread that has no more tokens
tokens_set : (ts : List Thread) (n k : ℕ) (own x : Thread) → slice_get ts n ≡ Some own → tokens x.view.held.bag ≤ tokens own.view.held.bag
    → tokens_of (slice_get (slice_set ts n x) k) ≤ tokens_of (slice_get ts k)
tokens_set [] n k own x at few = omega arith
tokens_set (t ∷ ts) zero zero own x at few = subst (λ (y : Thread). tokens x.view.held.bag ≤ tokens y.view.held.bag) (same_Some own t (sym at)) few
tokens_set (t ∷ ts) zero (suc k) own x at few = omega arith
tokens_set (t ∷ ts) (suc n) zero own x at few = omega arith
tokens_set (t ∷ ts) (suc n) (suc k) own x at few = tokens_set ts n k own x at few

abbrev counted : Bool → ℕ
counted b = if b then 1 else 0

-- no thread that has no more tokens counts
counts_none : (before after : ℕ) → after ≤ before → counted (nat_lt before after) ≡ 0
counts_none before after few = ap counted (false_from_ne_true (nat_lt before after) (λ e. let more = ltb-true before after e in omega arith))

counts_one : (b : Bool) → counted b ≤ 1
counts_one true = omega arith
counts_one false = omega arith

one_step : (s : LockInUse) (k given j : ℕ) → RunKept s → has_turn s.word ≡ true → has_turn (after_act s (steps k given j)).word ≡ true
    → counted (acquires_by s (steps k given j)) + bars (core_of (after_act s (steps k given j)).word) ≤ bars (core_of s.word)
one_step s k given j run set still =
    elim (act_makes s k given j run) [
      | inl quiet ↦
          (let same : tokens_of (slice_get later.threads k) ≡ tokens_of (slice_get s.threads k)
          = tokens_held later.threads k ∙ (ap (λ hs. held_tokens (slice_get hs k)) quiet.1 ∙ sym (tokens_held s.threads k)) in
          let none = counts_none (tokens_of (slice_get s.threads k)) (tokens_of (slice_get later.threads k)) (omega arith) in
          let bar : bars (core_of later.word) ≡ bars (core_of s.word) = ap (λ n. bars (core_of n)) quiet.0 in
          omega arith)
      | inr m ↦ of_step m
    ]
  where
    later : LockInUse
    later = after_act s (steps k given j)

    of_step : MadeBy s (after_act s (steps k given j)) (steps k given j)
        → counted (acquires_by s (steps k given j)) + bars (core_of (after_act s (steps k given j)).word) ≤ bars (core_of s.word)
    of_step m =
        let then_ = after_act s (steps k given j) in
        let word_is = word_made s then_ (steps k given j) m in
        let x = thread_made s then_ (steps k given j) m in
        elim (made_under_turn s then_ (steps k given j) m run set) [
          | inl few ↦
              (let fewer_tokens : tokens_of (slice_get then_.threads k) ≤ tokens_of (slice_get s.threads k)
              = subst (λ (y : LockInUse). tokens_of (slice_get y.threads k) ≤ tokens_of (slice_get s.threads k)) (sym m.is)
              (tokens_set s.threads m.number k m.own x m.at few.0.0) in
              let none = counts_none (tokens_of (slice_get s.threads k)) (tokens_of (slice_get then_.threads k)) fewer_tokens in
              let bar = no_more_bars (core_of s.word) (core_of then_.word) (λ high.
              few.2 (sym (ap has_turn word_is) ∙ still) (subst (λ n. 2 ^ 34 ≤ core_of n) word_is high)) in
              omega arith)
          | inr other ↦
              elim other [
                | inl reads ↦ absurd (false≢true (sym (ap has_turn word_is ∙ reads.1) ∙ still))
                | inr writes ↦
                    (let kept = run.keeps.kept in
                    let rule = rule_of s.readers (core_of s.word) (views_of s.threads) kept.coded kept.legal in
                    let high = announced_shows s.readers (core_of s.word) (parties_of (views_of s.threads)) (suc m.number) rule
                    (party_of m.own.view, party_at (views_of s.threads) m.number m.own.view (view_in s.threads m.number m.own m.at), writes.0) in
                    let was = bars_high (core_of s.word) high in
                    let is = bars_low (core_of then_.word) (subst (λ n. core_of n < 2 ^ 34) (sym word_is) writes.3) in
                    let one = counts_one (acquires_by s (steps k given j)) in
                    omega arith)
              ]
        ]

-- a call that begins leaves the word
begun_leaves : (s : LockInUse) (k : ℕ) (wish : ExWant) (blocks announces : Bool) (o : Option Thread) → (acquire_by s k wish blocks announces o).word ≡ s.word
begun_leaves s k wish blocks announces None = refl
begun_leaves s k wish blocks announces (Some t) = by (may_acquire t wish)
  where
    by : (b : Bool) → (if b then with_thread s k (begins t (acquiring s.readers wish blocks announces)) else s).word ≡ s.word
    by true = refl
    by false = refl

taking_leaves : (s : LockInUse) (k : ℕ) (d : Down) (o : Option Thread) → (release_by s k d o).word ≡ s.word
taking_leaves s k d None = refl
taking_leaves s k d (Some t) = by (may_release t d)
  where
    by : (b : Bool) → (if b then with_thread s k (begins t (taking s.readers d)) else s).word ≡ s.word
    by true = refl
    by false = refl

keeps_now : (s : LockInUse) (acts : List Act) → keeps_turn s acts ≡ true → has_turn s.word ≡ true
keeps_now s [] keeps = keeps
keeps_now s (a ∷ acts) keeps = (and_parts (has_turn s.word) (keeps_turn (after_act s a) acts) keeps).0

-- an act that is no step acquires nothing, and leaves the word
one_act : (s : LockInUse) (a : Act) → RunKept s → has_turn s.word ≡ true → has_turn (after_act s a).word ≡ true
    → counted (acquires_by s a) + bars (core_of (after_act s a).word) ≤ bars (core_of s.word)
one_act s join run set still = omega arith
one_act s (acquires k wish blocks announces) run set still =
    let same = begun_leaves s k wish blocks announces (slice_get s.threads k) in
    let bar : bars (core_of (after_act s (acquires k wish blocks announces)).word) ≡ bars (core_of s.word) = ap (λ n. bars (core_of n)) same in
    omega arith
one_act s (releases k d) run set still =
    let same = taking_leaves s k d (slice_get s.threads k) in
    let bar : bars (core_of (after_act s (releases k d)).word) ≡ bars (core_of s.word) = ap (λ n. bars (core_of n)) same in
    omega arith
one_act s (steps k given j) run set still = one_step s k given j run set still

counts : (s : LockInUse) (acts : List Act) → RunKept s → keeps_turn s acts ≡ true → acquisitions s acts ≤ bars (core_of s.word)
counts s [] run keeps = omega arith
counts s (a ∷ acts) run keeps =
    let two = and_parts (has_turn s.word) (keeps_turn (after_act s a) acts) keeps in
    let rest = counts (after_act s a) acts (act_kept s a run) two.1 in
    let one = one_act s a run two.0 (keeps_now (after_act s a) acts two.1) in
    omega arith

asleep_in_turn : (s : LockInUse) (k : ℕ) (t : Thread) (u : Underway) (number : ℕ) (class : Sleeper) (brief : Bool) → RunKept s
    → slice_get s.threads k ≡ Some t → t.underway ≡ Some u → is_asleep t.view.sleep ≡ true
    → u.at.0.want ≡ want.Shared → u.at.0.readers ≢ 1 → u.at.0.sleeps ≡ 4
    → u.at.1 ≡ action.Sleep number class brief → 2 ^ 33 ≤ number % sleepers → has_turn number ≡ true
asleep_in_turn s k t u number class brief run at calls asleep wish many slept asks high =
    let own = sleeper_in_call s run k t at asleep in
    let same : u ≡ own.underway = same_Some u own.underway (sym calls ∙ own.calls) in
    let turned : sets_turn u.at.0 ≡ false = ap (λ (x : Underway). sets_turn x.at.0) same ∙ own.turned in
    let number_is : number ≡ u.at.0.loaded
    = (own.sleeps_on number class brief (ap (λ (x : Underway). x.at.1) (sym same) ∙ asks)).0 ∙ ap (λ (x : Underway). x.at.0.loaded) (sym same) in
    elim (cases_Bool (has_turn number)) [
      | inl set ↦ set
      | inr clear ↦
          (let low = turn_clear number clear in
          let m = u.at.0.loaded % sleepers in
          let is_low : nat_lt m turn ≡ true = ap (λ n. nat_lt (n % sleepers) turn) (sym number_is) ∙ lt-ltb (number % sleepers) turn low in
          let is_high : not (nat_lt m (2 ^ 33)) ≡ true = ap (λ n. not (nat_lt (n % sleepers) (2 ^ 33))) (sym number_is) ∙ high_is (number % sleepers) (2 ^ 33) high in
          let bits = and_from (nat_lt m turn) (not (nat_lt m (2 ^ 33))) is_low is_high in
          let often = and_from (u.at.0.sleeps == 4) (nat_lt m turn && not (nat_lt m (2 ^ 33))) (eq-eqb u.at.0.sleeps 4 slept) bits in
          let shared = and_from (not (wakes_one u.at.0)) ((u.at.0.sleeps == 4) && (nat_lt m turn && not (nat_lt m (2 ^ 33))))
          (ap not (false_from_ne_true (wakes_one u.at.0) (λ e. many (eqb-true u.at.0.readers 1 e)))) often in
          absurd (false≢true (sym turned ∙ and_from (is_shared u.at.0.want) (not (wakes_one u.at.0) && ((u.at.0.sleeps == 4) && (nat_lt m turn && not (nat_lt m (2 ^ 33))))) (ap is_shared wish) shared)))
    ]

pub readers_get_a_turn : ReadersGetATurn
readers_get_a_turn =
    record {
      at_most_one = λ readers acts later range keeps.
          let most = counts (in_use readers acts) later (kept_in readers acts range) keeps in
          let few = few_bars (core_of (in_use readers acts).word) in
          omega arith;
      passes_by_bar = λ readers acts a k before after range. passed_by_bar (in_use readers acts) a k before after (kept_in readers acts range);
      no_new_bar = λ readers acts a k before after range. sets_no_bar (in_use readers acts) a k before after (kept_in readers acts range);
      turn_stays = λ readers acts a range. ends_turn (in_use readers acts) a (kept_in readers acts range);
      owned = λ readers acts range. (served (in_use readers acts) (kept_in readers acts range) (acts_owned readers acts range)).turn_owned;
      sleeps_in_turn = λ readers acts k t u number class brief range. asleep_in_turn (in_use readers acts) k t u number class brief (kept_in readers acts range);
    }
