-- Of a run: where T is set, a thread is in a call that has set it; and what a run keeps, said of threads.
use Rattle.std.proofs.Common.{◌≡◌, ◌⊎◌, ℕ, ◌+◌, ◌-◌, ◌%◌, ◌^◌, ◌<◌, ◌≤◌, Bool, true, false, not, ◌&&◌, ◌||◌, ◌==◌, nat_lt, if◌then◌else◌, inl, inr, List, [], ◌∷◌, map, slice_get, slice_set, Option, Some, None, IsTrue, refl, sym, ap, subst, ◌∙◌, arith, eqb-true, eq-eqb, ltb-true}
use Rattle.std.proofs.lemmas.Bool.{false≢true, true≢false, cases_Bool, cases_eq, and_parts, and_from, or_cases, or_parts, or_right, false_from_ne_true}
use Rattle.std.proofs.lemmas.Option.{same_Some, slice_get-map}
use Rattle.lock_modes.specs.declared.hold.Hold.{Hold}
use Rattle.lock_modes.specs.Limits.{IsLimit}
use Rattle.lock_modes.specs.Holds.{hold_has}
use Rattle.lock_word.specs.declared.want.ExWant.{ExWant}
use Rattle.lock_word.specs.declared.want.ExWant.TheVariants as want
use Rattle.lock_word.specs.declared.down.Down.{Down}
use Rattle.lock_word.specs.Word.{word_admits, word_after, amount, step_of_want, step_of_down}
use Rattle.lock_word.specs.Unblocking.{is_awaited}
use Rattle.lock_word.proofs.Rules.{amount_within}
use Rattle.lock_word.proofs.Lists.{placed, in_longer, other_stays}
use Rattle.lock_one.specs.declared.action.Action.{Action}
use Rattle.lock_one.specs.declared.action.Action.TheVariants as action
use Rattle.lock_one.specs.declared.call.WordCall.{WordCall}
use Rattle.lock_one.specs.declared.stage.Stage.{Stage}
use Rattle.lock_one.specs.declared.stage.Stage.TheVariants as stage
use Rattle.lock_one.specs.declared.sleep_view.SleepView.{SleepView}
use Rattle.lock_one.specs.declared.sleep_view.SleepState.TheVariants.{Asleep, Woken}
use Rattle.lock_one.specs.Rule.{is_asleep, is_shared, passes_turn, with_sleep, wake_all, wake_next, wake_turn}
use Rattle.lock_one.specs.Machine.{Progress, is_exclusive, turn, sleepers, core_of, has_turn, has_sleepers, with_turn, admits_word, wakes_one, has_slept, is_due, pauses_before, sets_bar, sets_turn, word_marked, sleep, mark_or_sleep, marked, drops_turn, word_unbarred, word_withdrawn, time_out, withdrawn, takes_turn, after_other, after_try, won, decide, goes_to, acquiring, taking, refused, word_released, release_of, next_at}
use Rattle.lock_one.specs.Steps.{made, touches, ends, Acquires, Awaits, IsAt, is_step}
use Rattle.lock_one.specs.Runs.{Underway, Thread, LockInUse, views_of, limits_in, new_thread, new_lock, Act, join, acquires, releases, steps, turned_at, begins, may_acquire, may_release, is_idle, with_thread, view_to, any_asleep, answer, finds, goes_on, steps_by, paid, wake_at, wakes_by, step_at, step_in, step_by, acquire_by, release_by, after_act, after_acts, IsTurnOf, SomeoneTurns, ThreadsAreServed, EveryRunIsServed}
use Rattle.lock_one.proofs.Either.{of_either}
use Rattle.lock_one.proofs.EachStep.{parties_of, party_of, party_at, rule_of}
use Rattle.lock_one.proofs.Sleeps.{refused_at_rest}
use Rattle.lock_one.proofs.Words.{encoded, encoded_turn, lessened, dropped, no_both, low_is, rest_leaves, small_core}
use Rattle.lock_one.proofs.RunViews.{IsPlaced, RunKept, view_in, quiet_sleep, owes_at}
use Rattle.lock_one.proofs.Runs.{act_kept, acts_kept, new_kept, sleeper_in_call, barred_was_due}

-- whether a call under way has set T, and goes on
abbrev pub flag : Option Underway → Bool
flag None = false
flag (Some u) = turned_at u.at.0.stage u.at.0.turned

pub record Owner (threads : List Thread) : Type 0 where
  pub number : ℕ
  pub thread : Thread
  pub is : slice_get threads number ≡ Some thread
  pub has : flag thread.underway ≡ true

abbrev pub TurnOwned : LockInUse → Type 0
TurnOwned s = has_turn s.word ≡ true → Owner s.threads

-- one thread has changed
other_owns : (ts : List Thread) (k : ℕ) (t x : Thread) → slice_get ts k ≡ Some t → Owner ts → (flag t.underway ≡ true → flag x.underway ≡ true)
    → Owner (slice_set ts k x)
other_owns ts k t x at o goes_on =
    elim (cases_eq o.number k) [
      | inl same ↦
          (let found : slice_get ts k ≡ Some o.thread = subst (λ n. slice_get ts n ≡ Some o.thread) same o.is in
          let is_t : o.thread ≡ t = same_Some o.thread t (sym found ∙ at) in
          record { number = k; thread = x; is = placed ts k t x at; has = goes_on (subst (λ (y : Thread). flag y.underway ≡ true) is_t o.has) })
      | inr other ↦ record { number = o.number; thread = o.thread; is = other_stays ts k o.number x o.thread other o.is; has = o.has }
    ]

this_owns : (ts : List Thread) (k : ℕ) (t x : Thread) → slice_get ts k ≡ Some t → flag x.underway ≡ true → Owner (slice_set ts k x)
this_owns ts k t x at own = record { number = k; thread = x; is = placed ts k t x at; has = own }

-- the calls of a step

abbrev Flag : Hold → Progress → Type 0
Flag before p = flag (goes_on p before) ≡ true

flag_sleep : (before : Hold) (call : WordCall) → call.turned ≡ true → Flag before (sleep call)
flag_sleep before call own =
    ap (λ (b : Bool). flag (if b then None else Some record { at = sleep call; before = before })) (quiet_sleep call).1 ∙ own

flag_decided : (before : Hold) (word : ℕ) (call : WordCall) → call.turned ≡ true → call.blocks ≡ true → has_turn word ≡ true → Flag before (decide word call)
flag_decided before word call own blocks set =
    of_either (Flag before) (admits_word call.announced call.readers word call.want) _ _ own
    (subst (λ b. Flag before (if not b then refused now else if call.late then time_out now else rest)) (sym blocks)
    (of_either (Flag before) call.late (time_out now) rest
    (subst (λ b. Flag before (if b then withdraws else leaves)) (sym drops) own)
    (of_either (Flag before) (nat_lt call.pauses pauses_before) _ _ own
    (of_either (Flag before) (word_marked now == word) (sleep now) _ (flag_sleep before now own) own))))
  where
    now : WordCall
    now = record call { loaded = word }

    rest : Progress
    rest =
        if nat_lt call.pauses pauses_before then goes_to (record now { pauses = call.pauses + 1 }) stage.Pause (action.Spin (if nat_lt call.pauses 3 then call.pauses + 6 else 9)) else mark_or_sleep now

    withdraws : Progress
    withdraws = goes_to (record now { left = word_withdrawn now }) stage.Withdraw (action.Exchange word (word_withdrawn now))

    leaves : Progress
    leaves =
        if wakes_one call && (has_slept call && nat_lt word sleepers) then goes_to (record now { left = word + sleepers }) stage.Leave (action.Exchange word (word + sleepers)) else refused now

    drops : (call.announced || drops_turn now) ≡ true
    drops = or_right call.announced (drops_turn now) (and_from call.turned (has_turn word) own set)

pub after_small : (a : Bool) (limit core : ℕ) (wish : ExWant) → IsTrue (word_admits a limit core wish) → core < 2 ^ 35 → word_after core wish < 2 ^ 35
after_small a limit core want.Shared h small = let low = ltb-true core (2 ^ 33) (and_parts (nat_lt core (2 ^ 33)) (nat_lt (core % 2 ^ 32) limit) h).0 in omega arith
after_small a limit core want.Exclusive h small = omega arith
after_small a limit core want.Upgradable h small = let low = ltb-true core (2 ^ 32) (and_parts (nat_lt core (2 ^ 32)) (nat_lt (core % 2 ^ 32) limit) h).0 in omega arith
after_small a limit core want.Upgrade h small =
    elim (or_cases (core == 2 ^ 32 + 1) (core == 2 ^ 34 + 2 ^ 32 + 1) h) [
      | inl one ↦ (let is = eqb-true core (2 ^ 32 + 1) one in omega arith)
      | inr one ↦ (let is = eqb-true core (2 ^ 34 + 2 ^ 32 + 1) one in omega arith)
    ]
after_small a limit core want.Announce h small = let low = ltb-true core (2 ^ 34) h in omega arith

module _ (call : WordCall) (v : SleepView) (before : Hold) (word : ℕ) (small : word < 2 ^ 37) (core_small : core_of word < 2 ^ 35)
    (no_turn : IsTrue (wakes_one call) → has_turn word ≡ false)
    (within : (d : Down) → IsTrue (hold_has v.held (step_of_down d)) → amount d ≤ core_of word) where
  -- after a step that leaves T set, the call has set T; or T was set before, by another
  abbrev Owns : Stage → Progress → Type 0
  Owns st p = Flag before p ⊎ ((has_turn word ≡ true) × (turned_at st call.turned ≡ false))

  blocks_of : Awaits call v → call.turned ≡ true → call.blocks ≡ true
  blocks_of aw own = elim (cases_Bool call.blocks) [ inl yes_it ↦ yes_it | inr tries ↦ absurd (false≢true (sym (aw.0.tries tries).2 ∙ own)) ]

  decided : Awaits call v → has_turn word ≡ true → Flag before (decide word call) ⊎ ((has_turn word ≡ true) × (call.turned ≡ false))
  decided aw set =
      elim (cases_Bool call.turned) [
        | inl own ↦ inl (flag_decided before word call own (blocks_of aw own) set)
        | inr none ↦ inr (set, none)
      ]

  exchanged : (left : ℕ) (next : Progress) → Awaits call v
      → (word ≡ call.loaded → has_turn left ≡ true → Flag before next ⊎ ((has_turn word ≡ true) × (call.turned ≡ false)))
      → has_turn (if word == call.loaded then left else word) ≡ true
      → Flag before (if word == call.loaded then next else decide word call) ⊎ ((has_turn word ≡ true) × (call.turned ≡ false))
  exchanged left next aw wins = by (word == call.loaded) refl
    where
      by : (b : Bool) → (word == call.loaded) ≡ b → has_turn (if b then left else word) ≡ true
          → Flag before (if b then next else decide word call) ⊎ ((has_turn word ≡ true) × (call.turned ≡ false))
      by true e set = wins (eqb-true word call.loaded e) set
      by false e set = decided aw set

  -- the exchange that acquires
  tried : Awaits call v → admits_word call.announced call.readers word call.want ≡ true → has_turn (after_try call word) ≡ true
      → Flag before (won call) ⊎ ((has_turn word ≡ true) × (call.turned ≡ false))
  tried aw admits = by (takes_turn call word) refl
    where
      next : ℕ
      next = word_after (core_of word) call.want

      fits : next < 2 ^ 35
      fits =
          after_small call.announced call.readers (core_of word) call.want
          (and_parts (word_admits call.announced call.readers (core_of word) call.want) (not (has_turn word) || passes_turn call.announced call.want) admits).0 core_small

      by : (b : Bool) → takes_turn call word ≡ b → has_turn (if b then next else after_other call word) ≡ true
          → Flag before (won call) ⊎ ((has_turn word ≡ true) × (call.turned ≡ false))
      by true e set = let low : next < 2 ^ 35 = fits in absurd (false≢true (sym (low_is (next % 2 ^ 36) (2 ^ 35) (omega arith)) ∙ set))
      by false e set =
          let was : has_turn word ≡ true = sym (encoded_turn next (has_turn word) (has_sleepers word || (wakes_one call && has_slept call)) fits) ∙ set in
          inr (was, false_from_ne_true call.turned (λ own. true≢false (sym (and_from (has_turn word) (is_shared call.want) was (aw.0.reader own)) ∙ e)))

  has_marked : Awaits call v → word ≡ call.loaded → has_turn (word_marked call) ≡ true → Flag before (marked call) ⊎ ((has_turn word ≡ true) × (call.turned ≡ false))
  has_marked aw is set =
      elim (cases_Bool (call.turned || sets_turn call)) [
        | inl own ↦ inl (flag_sleep before (record call { announced = call.announced || sets_bar call; turned = call.turned || sets_turn call; loaded = call.left }) own)
        | inr none ↦
            (let two = or_parts call.turned (sets_turn call) none in
            inr (by (has_turn word) refl two.1, two.0))
      ]
    where
      by : (b : Bool) → has_turn word ≡ b → sets_turn call ≡ false → has_turn word ≡ true
      by true e unset = e
      by false e unset =
          let none : (has_turn call.loaded || sets_turn call) ≡ false = ap (λ b. b || sets_turn call) (ap has_turn (sym is) ∙ e) ∙ unset in
          absurd (false≢true (sym (bare (sets_bar call) refl) ∙ (sym (ap (λ b. has_turn (with_turn (core_of call.loaded + (if sets_bar call then 2 ^ 34 else 0)) b + sleepers)) none) ∙ set)))
        where
          bare : (b : Bool) → sets_bar call ≡ b → has_turn (core_of call.loaded + (if b then 2 ^ 34 else 0) + sleepers) ≡ false
          bare true sets =
              let one = and_parts call.announces (is_exclusive call.want && (not call.announced && (is_due call && nat_lt (call.loaded % sleepers) (2 ^ 34)))) sets in
              let two = and_parts (is_exclusive call.want) (not call.announced && (is_due call && nat_lt (call.loaded % sleepers) (2 ^ 34))) one.1 in
              let three = and_parts (not call.announced) (is_due call && nat_lt (call.loaded % sleepers) (2 ^ 34)) two.1 in
              let low = ltb-true (call.loaded % sleepers) (2 ^ 34) (and_parts (is_due call) (nat_lt (call.loaded % sleepers) (2 ^ 34)) three.1).1 in
              low_is ((core_of call.loaded + 2 ^ 34 + sleepers) % 2 ^ 36) (2 ^ 35) (omega arith)
          bare false sets = low_is ((core_of call.loaded + 0 + sleepers) % 2 ^ 36) (2 ^ 35) (omega arith)

  has_withdrawn : Awaits call v → (call.announced ≡ true) ⊎ ((call.turned ≡ true) × (has_turn call.loaded ≡ true)) → word ≡ call.loaded
      → has_turn (word_withdrawn call) ≡ true → Flag before (withdrawn call) ⊎ ((has_turn word ≡ true) × (call.turned ≡ false))
  has_withdrawn aw (inl own) is set =
      let unbarred : has_turn (word_unbarred call) ≡ true = ap (λ (b : Bool). has_turn (if b then word_unbarred call else call.loaded - turn)) (sym own) ∙ set in
      let same = ap core_of is in
      let less : core_of call.loaded - 2 ^ 34 < 2 ^ 35 = omega arith in
      inr (
        ap has_turn is ∙ (sym (encoded_turn (core_of call.loaded - 2 ^ 34) (has_turn call.loaded) (wakes_one call) less) ∙ unbarred),
        false_from_ne_true call.turned (λ turned. no_both call.want (aw.0.writer own) (aw.0.reader turned)),
      )
  has_withdrawn aw (inr turns) is set =
      let bare : call.announced ≡ false = false_from_ne_true call.announced (λ own. no_both call.want (aw.0.writer own) (aw.0.reader turns.0)) in
      let left : has_turn (call.loaded - turn) ≡ true = ap (λ (b : Bool). has_turn (if b then word_unbarred call else call.loaded - turn)) (sym bare) ∙ set in
      let gone : has_turn (word - turn) ≡ false
      = ap has_turn (sym (dropped word small (ap has_turn is ∙ turns.1))) ∙ encoded_turn (core_of word) false (has_sleepers word) core_small in
      absurd (false≢true (sym gone ∙ (ap (λ n. has_turn (n - turn)) is ∙ left)))

  released : (n : ℕ) (s : Bool) → has_turn (encoded (core_of word - n) (has_turn word) s) ≡ true → has_turn word ≡ true
  released n s set = let less : core_of word - n < 2 ^ 35 = omega arith in sym (encoded_turn (core_of word - n) (has_turn word) s less) ∙ set

  -- the action is this one, and its answer is the word
  looked : (st : Stage) (a x : Action) (found : ℕ) (f : ℕ → Progress) → a ≡ x → touches x ≡ true → (IsTrue (touches a) → found ≡ word)
      → (has_turn (made x word) ≡ true → Owns st (f word)) → has_turn (made a word) ≡ true → Owns st (f found)
  looked st a x found f is reads same kept set =
      subst (λ n. Owns st (f n)) (sym (same (ap touches is ∙ reads))) (kept (subst (λ y. has_turn (made y word) ≡ true) is set))

  by_stage : (st : Stage) (a : Action) (found : ℕ) → IsAt st call v a → is_step st ≡ true → (IsTrue (touches a) → found ≡ word)
      → has_turn (made a word) ≡ true → Owns st (next_at st found call)
  by_stage stage.Look a found is step reads = looked stage.Look a action.Load found (λ n. decide n call) is.1 refl reads (decided is.0)
  by_stage stage.Try a found is step reads =
      looked stage.Try a (action.Exchange call.loaded (after_try call call.loaded)) found (λ n. if n == call.loaded then won call else decide n call) is.2 refl reads
      (exchanged (after_try call call.loaded) (won call) is.0 (λ same set.
      tried is.0 (subst (λ n. admits_word call.announced call.readers n call.want ≡ true) (sym same) is.1) (subst (λ n. has_turn (after_try call n) ≡ true) (sym same) set)))
  by_stage stage.Pause a found is step reads = λ set.
      elim (cases_Bool call.turned) [ inl own ↦ inl own | inr none ↦ inr (subst (λ n. has_turn n ≡ true) (rest_leaves a word is.1) set, none) ]
  by_stage stage.Mark a found is step reads =
      looked stage.Mark a (action.Exchange call.loaded (word_marked call)) found (λ n. if n == call.loaded then marked call else decide n call) is.4 refl reads
      (exchanged (word_marked call) (marked call) is.0 (λ same set. has_marked is.0 same set))
  by_stage stage.Sleep a found is step reads = absurd (false≢true step)
  by_stage stage.Withdraw a found is step reads =
      looked stage.Withdraw a (action.Exchange call.loaded (word_withdrawn call)) found (λ n. if n == call.loaded then withdrawn call else decide n call) is.4 refl reads
      (exchanged (word_withdrawn call) (withdrawn call) is.0 (λ same set. has_withdrawn is.0 is.2 same set))
  by_stage stage.Leave a found is step reads =
      looked stage.Leave a (action.Exchange call.loaded (call.loaded + sleepers)) found (λ n. if n == call.loaded then refused call else decide n call) is.4 refl reads
      (exchanged (call.loaded + sleepers) (refused call) is.0 (λ same set.
      let alike : (call.loaded + sleepers) % 2 ^ 36 ≡ word % 2 ^ 36 = omega arith in
      absurd (false≢true (sym (no_turn is.5) ∙ (ap (λ n. not (nat_lt n turn)) (sym alike) ∙ set)))))
  by_stage stage.LookToRemove a found is step reads = λ set. inr (subst (λ x. has_turn (made x word) ≡ true) is.2 set, refl)
  by_stage stage.Subtract a found is step reads = λ set.
      inr (
        released (amount call.down) (has_sleepers word)
            (ap has_turn (lessened word (amount call.down) small (within call.down is.0)) ∙ subst (λ x. has_turn (made x word) ≡ true) is.2 set),
        refl,
      )
  by_stage stage.Release a found is step reads = λ set. inr (freed (word == call.loaded) refl (subst (λ x. has_turn (made x word) ≡ true) is.2 set), refl)
    where
      freed : (b : Bool) → (word == call.loaded) ≡ b → has_turn (if b then word_released call.readers call.loaded call.down else word) ≡ true → has_turn word ≡ true
      freed true e set =
          let same = eqb-true word call.loaded e in
          released (amount call.down) (release_of call.readers call.loaded call.down).0
          (ap (λ n. has_turn (encoded (core_of n - amount call.down) (has_turn n) (release_of call.readers call.loaded call.down).0)) same ∙ set)
      freed false e set = set
  by_stage stage.Wake a found is step reads = absurd (false≢true step)
  by_stage stage.WakeRefused a found is step reads = absurd (false≢true step)
  by_stage stage.WakeAcquired a found is step reads = absurd (false≢true step)
  by_stage stage.Acquired a found is step reads = absurd (false≢true step)
  by_stage stage.Refused a found is step reads = absurd (false≢true step)
  by_stage stage.Ended a found is step reads = absurd (false≢true step)

-- the acts

mapped_owner : (f : SleepView → SleepView) (ts : List Thread) → Owner ts → Owner (map (view_to f) ts)
mapped_owner f ts o = record { number = o.number; thread = view_to f o.thread; is = rw (slice_get-map (view_to f) ts o.number, o.is); has = o.has }

-- a thread that makes a wake-up has not set T
wakes_owned : (s : LockInUse) (k j : ℕ) (t : Thread) (u : Underway) (a : Action) → slice_get s.threads k ≡ Some t → flag t.underway ≡ false
    → Owner s.threads → Owner (wakes_by s k j t u a).threads
wakes_owned s k j t u a at none o = by a
  where
    pays : (ts : List Thread) (x y : Thread) → slice_get ts k ≡ Some x → flag x.underway ≡ false → Owner ts → Owner (slice_set ts k y)
    pays ts x y there off own = other_owns ts k x y there own (λ yes_it. absurd (false≢true (sym off ∙ yes_it)))

    nobody : (b : Bool) → Owner (if b then s else paid s k t u).threads
    nobody true = o
    nobody false = pays s.threads t _ at none o

    one : (w : Option Thread) → slice_get s.threads j ≡ w → Owner (wake_at s k j t u w).threads
    one None e = nobody (any_asleep s.threads)
    one (Some w) e = some (is_asleep w.view.sleep)
      where
        x : Thread
        x = view_to (λ v. with_sleep v Woken) w

        mid : Owner (slice_set s.threads j (view_to (λ v. with_sleep v Woken) w))
        mid = other_owns s.threads j w _ e o (λ own. own)

        there : (y : Thread) × (slice_get (slice_set s.threads j (view_to (λ v. with_sleep v Woken) w)) k ≡ Some y) × (flag y.underway ≡ false)
        there =
            elim (cases_eq k j) [
              | inl same ↦
                  (let is_t : w ≡ t = same_Some w t (sym e ∙ (ap (λ n. slice_get s.threads n) (sym same) ∙ at)) in (
                    view_to (λ v. with_sleep v Woken) w,
                    subst (λ n. slice_get (slice_set s.threads j (view_to (λ v. with_sleep v Woken) w)) n ≡ Some (view_to (λ v. with_sleep v Woken) w)) (sym same)
                        (placed s.threads j w (view_to (λ v. with_sleep v Woken) w) e),
                    ap (λ (y : Thread). flag y.underway) is_t ∙ none,
                  ))
              | inr other ↦ (t, other_stays s.threads j k (view_to (λ v. with_sleep v Woken) w) t other at, none)
            ]

        some : (b : Bool) → Owner (if b then paid (with_thread s j (view_to (λ v. with_sleep v Woken) w)) k t u else if any_asleep s.threads then s else paid s k t u).threads
        some true = pays (slice_set s.threads j (view_to (λ v. with_sleep v Woken) w)) there.0 _ there.1 there.2 mid
        some false = nobody (any_asleep s.threads)

    many : (f : SleepView → SleepView) (y : Thread) → Owner (slice_set (map (view_to f) s.threads) k y)
    many f y = pays (map (view_to f) s.threads) (view_to f t) y (rw (slice_get-map (view_to f) s.threads k, at)) none (mapped_owner f s.threads o)

    by : (a : Action) → Owner (wakes_by s k j t u a).threads
    by action.WakeAll = many wake_all _
    by action.WakeNext = many wake_next _
    by action.WakeTurn = many wake_turn _
    by action.WakeOne = one (slice_get s.threads j) refl
    by action.Load = one (slice_get s.threads j) refl
    by (action.Exchange x y) = one (slice_get s.threads j) refl
    by (action.Subtract d) = one (slice_get s.threads j) refl
    by (action.Sleep n c b) = one (slice_get s.threads j) refl
    by (action.Spin n) = one (slice_get s.threads j) refl
    by action.Yield = one (slice_get s.threads j) refl
    by (action.End b) = one (slice_get s.threads j) refl

-- no wake-up writes the word
wakes_leave : (s : LockInUse) (k j : ℕ) (t : Thread) (u : Underway) (a : Action) → (wakes_by s k j t u a).word ≡ s.word
wakes_leave s k j t u a = by a
  where
    nobody : (b : Bool) → (if b then s else paid s k t u).word ≡ s.word
    nobody true = refl
    nobody false = refl

    one : (w : Option Thread) → (wake_at s k j t u w).word ≡ s.word
    one None = nobody (any_asleep s.threads)
    one (Some w) = some (is_asleep w.view.sleep)
      where
        some : (b : Bool) → (if b then paid (with_thread s j (view_to (λ v. with_sleep v Woken) w)) k t u else if any_asleep s.threads then s else paid s k t u).word ≡ s.word
        some true = refl
        some false = nobody (any_asleep s.threads)

    by : (a : Action) → (wakes_by s k j t u a).word ≡ s.word
    by action.WakeAll = refl
    by action.WakeNext = refl
    by action.WakeTurn = refl
    by action.WakeOne = one (slice_get s.threads j)
    by action.Load = one (slice_get s.threads j)
    by (action.Exchange x y) = one (slice_get s.threads j)
    by (action.Subtract d) = one (slice_get s.threads j)
    by (action.Sleep n c b) = one (slice_get s.threads j)
    by (action.Spin n) = one (slice_get s.threads j)
    by action.Yield = one (slice_get s.threads j)
    by (action.End b) = one (slice_get s.threads j)

step_owned : (s : LockInUse) (k given j : ℕ) (t : Thread) (o : Option Underway) → slice_get s.threads k ≡ Some t → t.underway ≡ o
    → IsPlaced (limits_in s.readers) t.view o → RunKept s → TurnOwned s → TurnOwned (step_in s k given j t o)
step_owned s k given j t None at calls place run owned = owned
step_owned s k given j t (Some u) at calls place run owned = by u.at.0.stage refl place.0
  where
    call : WordCall
    call = u.at.0

    over : (b : Bool) → u.at.1 ≡ action.End b → TurnOwned (steps_by s k given t u)
    over b end = absurd (true≢false (sym (ap ends end) ∙ place.3))

    reads : (b : Bool) → IsTrue b → (if b then s.word else given) ≡ s.word
    reads true h = refl
    reads false h = absurd (false≢true h)

    on : is_step u.at.0.stage ≡ true → TurnOwned (steps_by s k given t u)
    on stepping set =
        let kept = run.keeps.kept in
        let rule = rule_of s.readers (core_of s.word) (views_of s.threads) kept.coded kept.legal in
        elim (by_stage u.at.0 t.view u.before s.word run.keeps.small (small_core (limits_in s.readers) (core_of s.word) (has_turn s.word) (has_sleepers s.word) (views_of s.threads) run.range kept)
        (λ one. kept.no_turn (subst (λ n. (n == 1) ≡ true) (ap (λ l. l.readers) place.2) one))
        (λ d has. amount_within s.readers (core_of s.word) (parties_of (views_of s.threads)) k (party_of t.view) d rule (party_at (views_of s.threads) k t.view (view_in s.threads k t at)) has)
        u.at.0.stage u.at.1 (answer u.at.1 s.word given) place.0 stepping (reads (touches u.at.1)) set) [
          | inl own ↦ this_owns s.threads k t _ at own
          | inr was ↦
              other_owns s.threads k t _ at (owned was.0) (λ own.
              absurd (true≢false (sym own ∙ (ap flag calls ∙ was.1))))
        ]

    -- a wake-up is made at a stage of no call that goes on
    waking : turned_at u.at.0.stage u.at.0.turned ≡ false → TurnOwned (wakes_by s k j t u u.at.1)
    waking none set = wakes_owned s k j t u u.at.1 at (ap flag calls ∙ none) (owned (ap has_turn (sym (wakes_leave s k j t u u.at.1)) ∙ set))

    sleeps_owned : u.at.0.stage ≡ stage.Sleep → (b : Bool)
        → TurnOwned (if b then with_thread s k (record t { view = with_sleep t.view (Asleep u.at.0.want) })
        else with_thread s k record { view = with_sleep t.view Woken; underway = goes_on (next_at stage.Sleep given u.at.0) u.before })
    sleeps_owned e true set = other_owns s.threads k t _ at (owned set) (λ own. own)
    sleeps_owned e false set =
        other_owns s.threads k t _ at (owned set) (λ own. ap (λ st. turned_at st u.at.0.turned) (sym e) ∙ (sym (ap flag calls) ∙ own))

    by : (st : Stage) → u.at.0.stage ≡ st → IsAt st u.at.0 t.view u.at.1 → TurnOwned (step_at st s k given j t u)
    by stage.Look e is = on (ap is_step e)
    by stage.Try e is = on (ap is_step e)
    by stage.Pause e is = on (ap is_step e)
    by stage.Mark e is = on (ap is_step e)
    by stage.Sleep e is = sleeps_owned e ((given == 0) && (finds u.at.1 s.word && not (is_asleep t.view.sleep)))
    by stage.Withdraw e is = on (ap is_step e)
    by stage.Leave e is = on (ap is_step e)
    by stage.LookToRemove e is = on (ap is_step e)
    by stage.Subtract e is = on (ap is_step e)
    by stage.Release e is = on (ap is_step e)
    by stage.Wake e is = waking (ap (λ st. turned_at st u.at.0.turned) e)
    by stage.WakeRefused e is = waking (ap (λ st. turned_at st u.at.0.turned) e)
    by stage.WakeAcquired e is = waking (ap (λ st. turned_at st u.at.0.turned) e)
    by stage.Acquired e is = over true is.1
    by stage.Refused e is = over false is.1
    by stage.Ended e is = over true is.1

idle_unturned : (o : Option Underway) → IsTrue (is_idle o) → flag o ≡ false
idle_unturned None h = refl
idle_unturned (Some u) h = absurd (false≢true h)

act_owned : (s : LockInUse) (a : Act) → RunKept s → TurnOwned s → TurnOwned (after_act s a)
act_owned s join run owned = λ set.
    let o = owned set in record { number = o.number; thread = o.thread; is = in_longer s.threads new_thread o.thread o.number o.is; has = o.has }
act_owned s (acquires k wish blocks announces) run owned = by (slice_get s.threads k) refl
  where
    begun_by : (t : Thread) → slice_get s.threads k ≡ Some t → (b : Bool) → may_acquire t wish ≡ b
        → TurnOwned (if b then with_thread s k (begins t (acquiring s.readers wish blocks announces)) else s)
    begun_by t at true e set =
        let idle = and_parts (is_idle t.underway) (is_awaited wish && (hold_has t.view.held (step_of_want wish) && not t.view.held.announced)) e in
        other_owns s.threads k t _ at (owned set) (λ own. absurd (false≢true (sym (idle_unturned t.underway idle.0) ∙ own)))
    begun_by t at false e set = owned set

    by : (o : Option Thread) → slice_get s.threads k ≡ o → TurnOwned (acquire_by s k wish blocks announces o)
    by None e = owned
    by (Some t) e = begun_by t e (may_acquire t wish) refl
act_owned s (releases k d) run owned = by (slice_get s.threads k) refl
  where
    begun_by : (t : Thread) → slice_get s.threads k ≡ Some t → (b : Bool) → may_release t d ≡ b → TurnOwned (if b then with_thread s k (begins t (taking s.readers d)) else s)
    begun_by t at true e set =
        let idle = and_parts (is_idle t.underway) (hold_has t.view.held (step_of_down d)) e in
        other_owns s.threads k t _ at (owned set) (λ own. absurd (false≢true (sym (idle_unturned t.underway idle.0) ∙ own)))
    begun_by t at false e set = owned set

    by : (o : Option Thread) → slice_get s.threads k ≡ o → TurnOwned (release_by s k d o)
    by None e = owned
    by (Some t) e = begun_by t e (may_release t d) refl
act_owned s (steps k given j) run owned = by (slice_get s.threads k) refl
  where
    by : (o : Option Thread) → slice_get s.threads k ≡ o → TurnOwned (step_by s k given j o)
    by None e = owned
    by (Some t) e = step_owned s k given j t t.underway e refl (run.each k t e) run owned

owned_after : (s : LockInUse) (acts : List Act) → RunKept s → TurnOwned s → TurnOwned (after_acts s acts)
owned_after s [] run owned = owned
owned_after s (a ∷ acts) run owned = owned_after (after_act s a) acts (act_kept s a run) (act_owned s a run owned)

pub acts_owned : (readers : ℕ) (acts : List Act) → IsLimit readers → TurnOwned (after_acts (new_lock readers) acts)
acts_owned readers acts range = owned_after (new_lock readers) acts (new_kept readers range) (λ never. absurd (false≢true never))

-- a call that has set T is that of a reader, and blocks
turns_at : (st : Stage) (call : WordCall) (v : SleepView) (a : Action) → IsAt st call v a → turned_at st call.turned ≡ true
    → (is_shared call.want ≡ true) × (call.blocks ≡ true)
turns_at st call v a is own = by st is own
  where
    waits : (slept : Bool) → Acquires call.want call.announced call.turned slept call.blocks (is_due call) v → call.turned ≡ true
        → (is_shared call.want ≡ true) × (call.blocks ≡ true)
    waits slept acq turned = (
      acq.reader turned,
      (elim (cases_Bool call.blocks) [ inl blocks ↦ blocks | inr tries ↦ absurd (false≢true (sym (acq.tries tries).2 ∙ turned)) ]),
    )

    by : (st : Stage) → IsAt st call v a → turned_at st call.turned ≡ true → (is_shared call.want ≡ true) × (call.blocks ≡ true)
    by stage.Look is own = waits (has_slept call) is.0.0 own
    by stage.Try is own = waits (has_slept call) is.0.0 own
    by stage.Pause is own = waits (has_slept call) is.0.0 own
    by stage.Mark is own = waits (has_slept call) is.0.0 own
    by stage.Sleep is own = waits true is.0 own
    by stage.Withdraw is own = waits (has_slept call) is.0.0 own
    by stage.Leave is own = waits (has_slept call) is.0.0 own
    by stage.LookToRemove is own = absurd (false≢true own)
    by stage.Subtract is own = absurd (false≢true own)
    by stage.Release is own = absurd (false≢true own)
    by stage.Wake is own = absurd (false≢true own)
    by stage.WakeRefused is own = absurd (false≢true own)
    by stage.WakeAcquired is own = absurd (false≢true own)
    by stage.Acquired is own = absurd (false≢true own)
    by stage.Refused is own = absurd (false≢true own)
    by stage.Ended is own = absurd (false≢true own)

someone_turns : (s : LockInUse) → RunKept s → Owner s.threads → SomeoneTurns s.threads
someone_turns s run o =
    record { number = o.number; thread = o.thread; is = o.is; owns = by o.thread.underway refl (run.each o.number o.thread o.is) o.has }
  where
    by : (u : Option Underway) → o.thread.underway ≡ u → IsPlaced (limits_in s.readers) o.thread.view u → flag u ≡ true → IsTurnOf o.thread
    by None e place own = absurd (false≢true own)
    by (Some u) e place own =
        let facts = turns_at u.at.0.stage u.at.0 o.thread.view u.at.1 place.0 own in
        record { underway = u; calls = e; has = own; reads = facts.0; blocks = facts.1 }

pub served : (s : LockInUse) → RunKept s → TurnOwned s → ThreadsAreServed s
served s run owned =
    record {
      range = run.range;
      small = run.keeps.small;
      patient = barred_was_due s run;
      entitled = run.keeps.kept.entitled;
      coded = run.keeps.kept.coded;
      legal = run.keeps.kept.legal;
      none_forgotten = run.keeps.kept.none_forgotten;
      at_rest = λ k v want at asleep. refused_at_rest (limits_in s.readers) s.word (views_of s.threads) k v want run.keeps at asleep;
      turn_owned = λ set. someone_turns s run (owned set);
      no_turn = λ one. run.keeps.kept.no_turn (eq-eqb s.readers 1 one);
      sleeps_in_call = sleeper_in_call s run;
      no_bar_left = λ k t is calls.
          let place : IsPlaced (limits_in s.readers) t.view None = subst (λ o. IsPlaced (limits_in s.readers) t.view o) calls (run.each k t is) in
          place.1;
      owed = λ k t u is calls.
          let place : IsPlaced (limits_in s.readers) t.view (Some u) = subst (λ o. IsPlaced (limits_in s.readers) t.view o) calls (run.each k t is) in
          owes_at u.at.0.stage u.at.0 t.view u.at.1 place.0;
    }

pub every_run_is_served : EveryRunIsServed
every_run_is_served readers acts range =
    served (after_acts (new_lock readers) acts) (acts_kept (new_lock readers) acts (new_kept readers range)) (acts_owned readers acts range)
