-- A call is refused by a word or by its deadline.
use Rattle.std.proofs.Common.{◌≡◌, ◌⊎◌, ℕ, ◌+◌, Bool, true, false, not, ◌&&◌, ◌||◌, ◌==◌, nat_lt, if◌then◌else◌, inl, inr, refl, sym, ap, ◌∙◌, eqb-true}
use Rattle.std.proofs.lemmas.Bool.{true≢false}
use Rattle.lock_word.specs.declared.want.ExWant.TheVariants as want
use Rattle.lock_word.specs.declared.down.Down.{Down}
use Rattle.lock_one.specs.declared.action.Action.TheVariants as action
use Rattle.lock_one.specs.declared.call.WordCall.{WordCall}
use Rattle.lock_one.specs.declared.stage.Stage.{Stage}
use Rattle.lock_one.specs.declared.stage.Stage.TheVariants as stage
use Rattle.lock_one.specs.declared.sleep_view.Debt.{Debt}
use Rattle.lock_one.specs.declared.sleep_view.Debt.TheVariants as debt
use Rattle.lock_one.specs.Machine.{Progress, has_sleepers, sleepers, admits_word, drops_turn, takes_turn, won, wakes_one, has_slept, word_withdrawn, pauses_before, exchanges_before, after_try, word_marked, sleep, mark_or_sleep, marked, time_out, withdrawn, refused, acquired, wait, decide, goes_to, begun, removes_reader, alone, release_on, release_of, release_again, subtract, wakes, taking, next_at}
use Rattle.lock_one.specs.Answers.{IsLate, CauseAt, HasCause, RefusalsHaveCauses}
use Rattle.lock_one.proofs.Either.{of_either}

abbrev Clean : WordCall → Type 0
Clean call = call.blocks ≡ false → (call.announced ≡ false) × (call.turned ≡ false)

marks_or_sleeps : (call : WordCall) → call.blocks ≡ true → HasCause (mark_or_sleep call).0
marks_or_sleeps call blocks = by (word_marked call == call.loaded)
  where
    by : (b : Bool) → HasCause (if b then sleep call else goes_to (record call { left = word_marked call }) stage.Mark (action.Exchange call.loaded (word_marked call))).0
    by true = record { unannounced = λ never. absurd (true≢false (sym blocks ∙ never)); cause = tt }
    by false = record { unannounced = λ never. absurd (true≢false (sym blocks ∙ never)); cause = blocks }

times_out : (call : WordCall) → IsLate call → HasCause (time_out call).0
times_out call late = by (call.announced || drops_turn call)
  where
    never : Clean call
    never off = absurd (true≢false (sym late.0 ∙ off))

    leaves : (b : Bool) → HasCause (if b then goes_to (record call { left = call.loaded + sleepers }) stage.Leave (action.Exchange call.loaded (call.loaded + sleepers)) else refused call).0
    leaves true = record { unannounced = never; cause = late }
    leaves false = record { unannounced = never; cause = inr late }

    by : (b : Bool) → HasCause (if b then goes_to (record call { left = word_withdrawn call }) stage.Withdraw (action.Exchange call.loaded (word_withdrawn call))
        else if wakes_one call && (has_slept call && nat_lt call.loaded sleepers)
        then goes_to (record call { left = call.loaded + sleepers }) stage.Leave (action.Exchange call.loaded (call.loaded + sleepers))
        else refused call).0
    by true = record { unannounced = never; cause = late }
    by false = leaves (wakes_one call && (has_slept call && nat_lt call.loaded sleepers))

waits : (call : WordCall) → Clean call → admits_word call.announced call.readers call.loaded call.want ≡ false → HasCause (wait call).0
waits call clean refuses = by call.blocks refl
  where
    pauses : call.blocks ≡ true → (b : Bool) → HasCause (if b then goes_to (record call { pauses = call.pauses + 1 }) stage.Pause (action.Spin (if nat_lt call.pauses 3 then call.pauses + 6 else 9)) else mark_or_sleep call).0
    pauses blocks true = record { unannounced = clean; cause = tt }
    pauses blocks false = marks_or_sleeps call blocks

    late : call.blocks ≡ true → (b : Bool) → call.late ≡ b
        → HasCause (if b then time_out call else if nat_lt call.pauses pauses_before then goes_to (record call { pauses = call.pauses + 1 }) stage.Pause (action.Spin (if nat_lt call.pauses 3 then call.pauses + 6 else 9)) else mark_or_sleep call).0
    late blocks true passed = times_out call (blocks, passed)
    late blocks false passed = pauses blocks (nat_lt call.pauses pauses_before)

    by : (b : Bool) → call.blocks ≡ b
        → HasCause (if not b then refused call else if call.late then time_out call else if nat_lt call.pauses pauses_before then goes_to (record call { pauses = call.pauses + 1 }) stage.Pause (action.Spin (if nat_lt call.pauses 3 then call.pauses + 6 else 9)) else mark_or_sleep call).0
    by false never = record {
      unannounced = clean;
      cause = inl (never, ap (λ a. admits_word a call.readers call.loaded call.want) (sym (clean never).0) ∙ refuses);
    }
    by true blocks = late blocks call.late refl

decides : (word : ℕ) (call : WordCall) → Clean call → HasCause (decide word call).0
decides word call clean = by (admits_word call.announced call.readers word call.want) refl
  where
    by : (b : Bool) → admits_word call.announced call.readers word call.want ≡ b
        → HasCause (if b then goes_to (record call { loaded = word; left = after_try call word }) stage.Try (action.Exchange word (after_try call word)) else wait (record call { loaded = word })).0
    by true admits = record { unannounced = clean; cause = tt }
    by false refuses = waits (record call { loaded = word }) clean refuses

-- the end of an exchange that succeeded, or a decision on the word that it found
either : (b : Bool) (p : Progress) (word : ℕ) (call : WordCall) → Clean call → HasCause p.0 → HasCause (if b then p else decide word call).0
either true p word call clean known = known
either false p word call clean known = decides word call clean

has_marked : (call : WordCall) → call.blocks ≡ true → HasCause (marked call).0
has_marked call blocks = record { unannounced = λ never. absurd (true≢false (sym blocks ∙ never)); cause = tt }

has_withdrawn : (call : WordCall) → IsLate call → HasCause (withdrawn call).0
has_withdrawn call late = by (has_sleepers call.loaded && not (wakes_one call))
  where
    by : (b : Bool) → HasCause (if b then goes_to (record call { announced = false; turned = false }) stage.WakeRefused action.WakeAll else refused (record call { announced = false; turned = false })).0
    by true = record { unannounced = λ never. (refl, refl); cause = late }
    by false = record { unannounced = λ never. (refl, refl); cause = inr late }

owes : (d : Debt) (call : WordCall) → Clean call → HasCause (wakes d call).0
owes debt.Nothing call clean = record { unannounced = clean; cause = tt }
owes debt.One call clean = record { unannounced = clean; cause = tt }
owes debt.All call clean = record { unannounced = clean; cause = tt }
owes debt.Next call clean = record { unannounced = clean; cause = tt }
owes debt.Turn call clean = record { unannounced = clean; cause = tt }

releases_again : (b : Bool) (word : ℕ) (call : WordCall) → Clean call
    → HasCause (if b then release_on word (record call { pauses = call.pauses + 1 }) else subtract call).0
releases_again true word call clean = record { unannounced = clean; cause = tt }
releases_again false word call clean = record { unannounced = clean; cause = tt }

looks_to_remove : (b : Bool) (word : ℕ) (call : WordCall) → Clean call → HasCause (if b then release_on word call else subtract call).0
looks_to_remove true word call clean = record { unannounced = clean; cause = tt }
looks_to_remove false word call clean = record { unannounced = clean; cause = tt }

next : (st : Stage) (found : ℕ) (call : WordCall) → Clean call → CauseAt st call → HasCause (next_at st found call).0
next stage.Look found call clean known = decides found call clean
next stage.Try found call clean known = either (found == call.loaded) (won call) found call clean (has_won (takes_turn call call.loaded && has_sleepers call.loaded))
  where
    has_won : (b : Bool) → HasCause (if b then goes_to call stage.WakeAcquired action.WakeAll else acquired call).0
    has_won true = record { unannounced = clean; cause = tt }
    has_won false = record { unannounced = clean; cause = tt }
next stage.Pause found call clean known = record { unannounced = clean; cause = tt }
next stage.Mark found call clean known = either (found == call.loaded) (marked call) found call clean (has_marked call known)
next stage.Sleep found call clean known = record { unannounced = clean; cause = tt }
next stage.Withdraw found call clean known = either (found == call.loaded) (withdrawn call) found call clean (has_withdrawn call known)
next stage.Leave found call clean known = either (found == call.loaded) (refused call) found call clean record { unannounced = clean; cause = inr known }
next stage.LookToRemove found call clean known = looks_to_remove (has_sleepers found) found call clean
next stage.Subtract found call clean known = owes (release_of call.readers found call.down).1 call clean
next stage.Release found call clean known = by (found == call.loaded)
  where
    by : (b : Bool) → HasCause (if b then wakes (release_of call.readers call.loaded call.down).1 call else release_again found call).0
    by true = owes (release_of call.readers call.loaded call.down).1 call clean
    by false = releases_again (nat_lt call.pauses exchanges_before) found call clean
next stage.Wake found call clean known = record { unannounced = clean; cause = tt }
next stage.WakeRefused found call clean known = record { unannounced = clean; cause = inr known }
next stage.WakeAcquired found call clean known = record { unannounced = clean; cause = tt }
next stage.Acquired found call clean known = record { unannounced = clean; cause = tt }
next stage.Refused found call clean known = record { unannounced = clean; cause = tt }
next stage.Ended found call clean known = record { unannounced = clean; cause = tt }

begins_release : (readers : ℕ) (d : Down) → HasCause (taking readers d).0
begins_release readers d = by (removes_reader readers d)
  where
    by : (b : Bool) → HasCause (if b then goes_to (begun readers stage.LookToRemove want.Shared d false false) stage.LookToRemove action.Load
        else release_on (alone d) (begun readers stage.Release want.Shared d false false)).0
    by true = record { unannounced = λ never. (refl, refl); cause = tt }
    by false = record { unannounced = λ never. (refl, refl); cause = tt }

-- only the answer to a sleep makes a call late

abbrev IsLateAs : Bool → Progress → Type 0
IsLateAs late p = p.0.late ≡ late

late_after_time_out : (call : WordCall) → IsLateAs call.late (time_out call)
late_after_time_out call = of_either (IsLateAs call.late) (call.announced || drops_turn call) _ _ refl (of_either (IsLateAs call.late) (wakes_one call && (has_slept call && nat_lt call.loaded sleepers)) _ _ refl refl)

late_after_wait : (call : WordCall) → IsLateAs call.late (wait call)
late_after_wait call =
    of_either (IsLateAs call.late) (not call.blocks) _ _ refl
    (of_either (IsLateAs call.late) call.late _ _ (late_after_time_out call)
    (of_either (IsLateAs call.late) (nat_lt call.pauses pauses_before) _ _ refl (of_either (IsLateAs call.late) (word_marked call == call.loaded) _ _ refl refl)))

late_after_decision : (word : ℕ) (call : WordCall) → IsLateAs call.late (decide word call)
late_after_decision word call =
    of_either (IsLateAs call.late) (admits_word call.announced call.readers word call.want) _ _ refl (late_after_wait (record call { loaded = word }))

late_after_wake : (d : Debt) (call : WordCall) → IsLateAs call.late (wakes d call)
late_after_wake debt.Nothing call = refl
late_after_wake debt.One call = refl
late_after_wake debt.All call = refl
late_after_wake debt.Next call = refl
late_after_wake debt.Turn call = refl

late_next : (st : Stage) (found : ℕ) (call : WordCall) → (next_at st found call).0.late ≡ true → (call.late ≡ true) ⊎ ((st ≡ stage.Sleep) × (found ≡ 1))
late_next stage.Look found call e = inl (sym (late_after_decision found call) ∙ e)
late_next stage.Try found call e = inl (sym (of_either (IsLateAs call.late) (found == call.loaded) (won call) _ (of_either (IsLateAs call.late) (takes_turn call call.loaded && has_sleepers call.loaded) _ _ refl refl) (late_after_decision found call)) ∙ e)
late_next stage.Pause found call e = inl e
late_next stage.Mark found call e = inl (sym (of_either (IsLateAs call.late) (found == call.loaded) (marked call) _ refl (late_after_decision found call)) ∙ e)
late_next stage.Sleep found call e = inr (refl, eqb-true found 1 e)
late_next stage.Withdraw found call e =
    inl (sym (of_either (IsLateAs call.late) (found == call.loaded) (withdrawn call) _ (of_either (IsLateAs call.late) (has_sleepers call.loaded && not (wakes_one call)) _ _ refl refl) (late_after_decision found call)) ∙ e)
late_next stage.Leave found call e = inl (sym (of_either (IsLateAs call.late) (found == call.loaded) (refused call) _ refl (late_after_decision found call)) ∙ e)
late_next stage.LookToRemove found call e = inl (sym (of_either (IsLateAs call.late) (has_sleepers found) (release_on found call) (subtract call) refl refl) ∙ e)
late_next stage.Subtract found call e = inl (sym (late_after_wake (release_of call.readers found call.down).1 call) ∙ e)
late_next stage.Release found call e =
    inl (sym (of_either (IsLateAs call.late) (found == call.loaded) _ (release_again found call) (late_after_wake (release_of call.readers call.loaded call.down).1 call)
    (of_either (IsLateAs call.late) (nat_lt call.pauses exchanges_before) _ (subtract call) refl refl)) ∙ e)
late_next stage.Wake found call e = inl e
late_next stage.WakeRefused found call e = inl e
late_next stage.WakeAcquired found call e = inl e
late_next stage.Acquired found call e = inl e
late_next stage.Refused found call e = inl e
late_next stage.Ended found call e = inl e

pub refusals_have_causes : RefusalsHaveCauses
refusals_have_causes = record {
  acquires = λ readers wish blocks announces. record { unannounced = λ never. (refl, refl); cause = tt };
  releases = begins_release;
  goes_on = λ found call known. next call.stage found call known.unannounced known.cause;
  begins_in_time = λ readers wish blocks announces. refl;
  late = λ found call e. late_next call.stage found call e;
}
