-- The number that a call found last is below 2^37.
use Rattle.std.proofs.Common.{◌≡◌, ℕ, ◌+◌, ◌-◌, ◌%◌, ◌^◌, ◌<◌, Bool, true, false, not, ◌&&◌, ◌||◌, ◌==◌, nat_lt, if◌then◌else◌, refl, sym, ap, subst, arith, ltb-true}
use Rattle.std.proofs.lemmas.Bool.{and_parts, false≢true}
use Rattle.lock_word.specs.Word.{word_admits, word_after, amount}
use Rattle.lock_one.specs.declared.action.Action.{Action}
use Rattle.lock_one.specs.declared.action.Action.TheVariants as action
use Rattle.lock_one.specs.declared.call.WordCall.{WordCall}
use Rattle.lock_one.specs.declared.stage.Stage.{Stage}
use Rattle.lock_one.specs.declared.stage.Stage.TheVariants as stage
use Rattle.lock_one.specs.declared.sleep_view.SleepView.{SleepView}
use Rattle.lock_one.specs.declared.sleep_view.Debt.{Debt}
use Rattle.lock_one.specs.declared.sleep_view.Debt.TheVariants as debt
use Rattle.lock_one.specs.Machine.{Progress, turn, core_of, has_turn, has_sleepers, with_turn, admits_word, drops_turn, takes_turn, after_other, won, sets_turn, word_unbarred, sleepers, wakes_one, has_slept, is_due, word_withdrawn, is_exclusive, sleep, sets_bar, word_marked, mark_or_sleep, marked, time_out, withdrawn, wait, after_try, decide, release_of, word_released, release_on, subtract, release_again, wakes, acquired, refused, goes_to, next_at}
use Rattle.lock_one.specs.Rule.{passes_turn}
use Rattle.lock_one.specs.Steps.{IsAt, is_step}
use Rattle.lock_one.proofs.RunTurns.{after_small}
use Rattle.lock_one.proofs.Words.{encoded_small}

abbrev loaded : Progress → ℕ
loaded p = p.0.loaded

waits : (call : WordCall) → loaded (mark_or_sleep call) ≡ call.loaded
waits call = by (word_marked call == call.loaded)
  where
    by : (b : Bool) → loaded (if b then sleep call else goes_to (record call { left = word_marked call }) stage.Mark (action.Exchange call.loaded (word_marked call))) ≡ call.loaded
    by true = refl
    by false = refl

times_out : (call : WordCall) → loaded (time_out call) ≡ call.loaded
times_out call = by (call.announced || drops_turn call) (wakes_one call && (has_slept call && nat_lt call.loaded sleepers))
  where
    by : (b c : Bool) → loaded (if b then goes_to (record call { left = word_withdrawn call }) stage.Withdraw (action.Exchange call.loaded (word_withdrawn call))
        else if c then goes_to (record call { left = call.loaded + sleepers }) stage.Leave (action.Exchange call.loaded (call.loaded + sleepers)) else refused call) ≡ call.loaded
    by true c = refl
    by false true = refl
    by false false = refl

rests : (call : WordCall) → loaded (wait call) ≡ call.loaded
rests call = by call.blocks call.late (nat_lt call.pauses 6)
  where
    by : (b c d : Bool) → loaded (if not b then refused call else if c then time_out call
        else if d then goes_to (record call { pauses = call.pauses + 1 }) stage.Pause (action.Spin (if nat_lt call.pauses 3 then call.pauses + 6 else 9)) else mark_or_sleep call) ≡ call.loaded
    by false c d = refl
    by true true d = times_out call
    by true false true = refl
    by true false false = waits call

decides : (word : ℕ) (call : WordCall) → loaded (decide word call) ≡ word
decides word call = by (admits_word call.announced call.readers word call.want)
  where
    by : (b : Bool) → loaded (if b then goes_to (record call { loaded = word; left = after_try call word }) stage.Try (action.Exchange word (after_try call word)) else wait (record call { loaded = word })) ≡ word
    by true = refl
    by false = rests (record call { loaded = word })

wakes_up : (d : Debt) (call : WordCall) → loaded (wakes d call) ≡ call.loaded
wakes_up debt.Nothing call = refl
wakes_up debt.One call = refl
wakes_up debt.All call = refl
wakes_up debt.Next call = refl
wakes_up debt.Turn call = refl

wins : (call : WordCall) → loaded (won call) ≡ call.loaded
wins call = by (takes_turn call call.loaded && has_sleepers call.loaded)
  where
    by : (b : Bool) → loaded (if b then goes_to call stage.WakeAcquired action.WakeAll else acquired call) ≡ call.loaded
    by true = refl
    by false = refl

withdraws : (call : WordCall) → loaded (withdrawn call) ≡ call.loaded
withdraws call = by (has_sleepers call.loaded && not (wakes_one call))
  where
    by : (b : Bool) → loaded (if b then goes_to (record call { announced = false; turned = false }) stage.WakeRefused action.WakeAll else refused (record call { announced = false; turned = false })) ≡ call.loaded
    by true = refl
    by false = refl

marked_small : (call : WordCall) → word_marked call < 2 ^ 37
marked_small call = with_bits (core_of call.loaded + (if sets_bar call then 2 ^ 34 else 0)) (has_turn call.loaded || sets_turn call) (fits (sets_bar call) refl)
  where
    fits : (b : Bool) → sets_bar call ≡ b → core_of call.loaded + (if b then 2 ^ 34 else 0) < 2 ^ 35
    fits true e =
        let first = and_parts call.announces (is_exclusive call.want && (not call.announced && (is_due call && nat_lt (call.loaded % sleepers) (2 ^ 34)))) e in
        let exclusive = and_parts (is_exclusive call.want) (not call.announced && (is_due call && nat_lt (call.loaded % sleepers) (2 ^ 34))) first.1 in
        let two = and_parts (not call.announced) (is_due call && nat_lt (call.loaded % sleepers) (2 ^ 34)) exclusive.1 in
        let three = and_parts (is_due call) (nat_lt (call.loaded % sleepers) (2 ^ 34)) two.1 in
        let low : call.loaded % sleepers < 2 ^ 34 = ltb-true (call.loaded % sleepers) (2 ^ 34) three.1 in
        omega arith
    fits false e = omega arith

    with_bits : (core : ℕ) (t : Bool) → core < 2 ^ 35 → with_turn core t + sleepers < 2 ^ 37
    with_bits core true low = omega arith
    with_bits core false low = omega arith

-- the loaded number stays below 2^37 if each number that the call finds is
module _ (found : ℕ) (call : WordCall) (small : found < 2 ^ 37) (was : call.loaded < 2 ^ 37) where
  decided : (b : Bool) (next : Progress) → loaded next ≡ call.loaded → loaded (if b then next else decide found call) < 2 ^ 37
  decided true next e = subst (λ n. n < 2 ^ 37) (sym e) was
  decided false next e = subst (λ n. n < 2 ^ 37) (sym (decides found call)) small

  again : (b : Bool) → loaded (if b then release_on found (record call { pauses = call.pauses + 1 }) else subtract call) < 2 ^ 37
  again true = small
  again false = was

  marking : (b : Bool) → call.left ≡ word_marked call → loaded (if b then marked call else decide found call) < 2 ^ 37
  marking true left = subst (λ n. n < 2 ^ 37) (sym left) (marked_small call)
  marking false left = subst (λ n. n < 2 ^ 37) (sym (decides found call)) small

  releasing : (b : Bool) → loaded (if b then wakes (release_of call.readers call.loaded call.down).1 call else release_again found call) < 2 ^ 37
  releasing true = subst (λ n. n < 2 ^ 37) (sym (wakes_up (release_of call.readers call.loaded call.down).1 call)) was
  releasing false = again (nat_lt call.pauses 8)

  looking : (b : Bool) → loaded (if b then release_on found call else subtract call) < 2 ^ 37
  looking true = small
  looking false = was

  pub stays_small : (st : Stage) → (st ≡ stage.Mark → call.left ≡ word_marked call) → loaded (next_at st found call) < 2 ^ 37
  stays_small stage.Look left = subst (λ n. n < 2 ^ 37) (sym (decides found call)) small
  stays_small stage.Try left = decided (found == call.loaded) (won call) (wins call)
  stays_small stage.Pause left = was
  stays_small stage.Mark left = marking (found == call.loaded) (left refl)
  stays_small stage.Sleep left = was
  stays_small stage.Withdraw left = decided (found == call.loaded) (withdrawn call) (withdraws call)
  stays_small stage.Leave left = decided (found == call.loaded) (refused call) refl
  stays_small stage.LookToRemove left = looking (has_sleepers found)
  stays_small stage.Subtract left = subst (λ n. n < 2 ^ 37) (sym (wakes_up (release_of call.readers found call.down).1 call)) was
  stays_small stage.Release left = releasing (found == call.loaded)
  stays_small stage.Wake left = was
  stays_small stage.WakeRefused left = was
  stays_small stage.WakeAcquired left = was
  stays_small stage.Acquired left = was
  stays_small stage.Refused left = was
  stays_small stage.Ended left = was

-- both numbers of an exchange are below 2^37
first_of : Action → ℕ
first_of (action.Exchange x y) = x
first_of other = 0

second_of : Action → ℕ
second_of (action.Exchange x y) = y
second_of other = 0

abbrev AreSmall : ℕ → ℕ → Type 0
AreSmall old new = (old < 2 ^ 37) × (new < 2 ^ 37)

are_small : (old new x y : ℕ) → action.Exchange old new ≡ action.Exchange x y → x < 2 ^ 37 → y < 2 ^ 37 → AreSmall old new
unfolding first_of second_of
are_small old new x y e a b = (subst (λ n. n < 2 ^ 37) (sym (ap first_of e)) a, subst (λ n. n < 2 ^ 37) (sym (ap second_of e)) b)

pub exchange_small : (st : Stage) (call : WordCall) (v : SleepView) (old new : ℕ) → is_step st ≡ true → call.loaded < 2 ^ 37
    → IsAt st call v (action.Exchange old new) → AreSmall old new
exchange_small stage.Look call v old new s low is = let e = is.1 in cc
exchange_small stage.Try call v old new s low is =
    are_small old new call.loaded (after_try call call.loaded) is.2 low
    (tried_small (takes_turn call call.loaded)
    (after_small call.announced call.readers (core_of call.loaded) call.want
    (and_parts (word_admits call.announced call.readers (core_of call.loaded) call.want) (not (has_turn call.loaded) || passes_turn call.announced call.want) is.1).0 (omega arith)))
  where
    tried_small : (b : Bool) → word_after (core_of call.loaded) call.want < 2 ^ 35
        → (if b then word_after (core_of call.loaded) call.want else after_other call call.loaded) < 2 ^ 37
    tried_small true fits = omega arith
    tried_small false fits = encoded_small (word_after (core_of call.loaded) call.want) (has_turn call.loaded) (has_sleepers call.loaded || (wakes_one call && has_slept call)) fits
exchange_small stage.Pause call v old new s low is = absurd is.1
exchange_small stage.Mark call v old new s low is = are_small old new call.loaded (word_marked call) is.4 low (marked_small call)
exchange_small stage.Sleep call v old new s low is = absurd (false≢true s)
exchange_small stage.Withdraw call v old new s low is =
    are_small old new call.loaded (word_withdrawn call) is.4 low (withdrawn_small call.announced)
  where
    withdrawn_small : (b : Bool) → (if b then word_unbarred call else call.loaded - turn) < 2 ^ 37
    withdrawn_small true = let less : core_of call.loaded - 2 ^ 34 < 2 ^ 35 = omega arith in encoded_small (core_of call.loaded - 2 ^ 34) (has_turn call.loaded) (wakes_one call) less
    withdrawn_small false = omega arith
exchange_small stage.Leave call v old new s low is =
    let below = is.3 in
    are_small old new call.loaded (call.loaded + sleepers) is.4 low (omega arith)
exchange_small stage.LookToRemove call v old new s low is = let e = is.2 in cc
exchange_small stage.Subtract call v old new s low is = let e = is.2 in cc
exchange_small stage.Release call v old new s low is =
    are_small old new call.loaded (word_released call.readers call.loaded call.down) is.2 low
    (let less : core_of call.loaded - amount call.down < 2 ^ 35 = omega arith in
    encoded_small (core_of call.loaded - amount call.down) (has_turn call.loaded) (release_of call.readers call.loaded call.down).0 less)
exchange_small stage.Wake call v old new s low is = absurd (false≢true s)
exchange_small stage.WakeRefused call v old new s low is = absurd (false≢true s)
exchange_small stage.WakeAcquired call v old new s low is = absurd (false≢true s)
exchange_small stage.Acquired call v old new s low is = absurd (false≢true s)
exchange_small stage.Refused call v old new s low is = absurd (false≢true s)
exchange_small stage.Ended call v old new s low is = absurd (false≢true s)
