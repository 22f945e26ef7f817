-- A call never changes whether it blocks, nor its lock.
use Rattle.std.proofs.Common.{◌≡◌, ℕ, ◌+◌, Bool, true, false, not, ◌&&◌, ◌||◌, ◌==◌, nat_lt, if◌then◌else◌, refl, ap, ◌∙◌}
use Rattle.lock_one.specs.declared.action.Action.TheVariants as action
use Rattle.lock_one.specs.declared.call.WordCall.{WordCall}
use Rattle.lock_one.specs.declared.stage.Stage.{Stage}
use Rattle.lock_one.specs.declared.stage.Stage.TheVariants as stage
use Rattle.lock_one.specs.declared.sleep_view.Debt.{Debt}
use Rattle.lock_one.specs.declared.sleep_view.Debt.TheVariants as debt
use Rattle.lock_one.specs.Machine.{Progress, acquiring, admits_word, drops_turn, takes_turn, won, has_sleepers, sleepers, wakes_one, has_slept, word_withdrawn, pauses_before, exchanges_before, after_try, word_marked, sleep, mark_or_sleep, marked, time_out, withdrawn, refused, acquired, wait, decide, goes_to, release_on, release_of, release_again, subtract, wakes, next_at, next_of}
use Rattle.lock_one_word.specs.declared.word_lock.steps.looked.Looked.{Looked}
use Rattle.lock_one_word.specs.Drives.{Pending, at, looked_at}

abbrev fixed : WordCall → Bool × ℕ
fixed call = (call.blocks, call.readers)

-- both branches keep it
either : (b : Bool) (p q : Progress) (call : WordCall) → fixed p.0 ≡ fixed call → fixed q.0 ≡ fixed call → fixed (if b then p else q).0 ≡ fixed call
either true p q call here there = here
either false p q call here there = there

marks : (call : WordCall) → fixed (mark_or_sleep call).0 ≡ fixed call
marks call =
    either (word_marked call == call.loaded) (sleep call)
    (goes_to (record call { left = word_marked call }) stage.Mark (action.Exchange call.loaded (word_marked call))) call refl refl

times_out : (call : WordCall) → fixed (time_out call).0 ≡ fixed call
times_out call =
    either (call.announced || drops_turn call)
    (goes_to (record call { left = word_withdrawn call }) stage.Withdraw (action.Exchange call.loaded (word_withdrawn call)))
    (if wakes_one call && (has_slept call && nat_lt call.loaded sleepers)
    then goes_to (record call { left = call.loaded + sleepers }) stage.Leave (action.Exchange call.loaded (call.loaded + sleepers))
    else refused call)
    call refl
    (either (wakes_one call && (has_slept call && nat_lt call.loaded sleepers))
    (goes_to (record call { left = call.loaded + sleepers }) stage.Leave (action.Exchange call.loaded (call.loaded + sleepers))) (refused call) call refl refl)

abbrev pauses : WordCall → Progress
pauses call = goes_to (record call { pauses = call.pauses + 1 }) stage.Pause (action.Spin (if nat_lt call.pauses 3 then call.pauses + 6 else 9))

waits : (call : WordCall) → fixed (wait call).0 ≡ fixed call
waits call =
    either (not call.blocks) (refused call) (if call.late then time_out call else if nat_lt call.pauses pauses_before then pauses call else mark_or_sleep call) call refl
    (either call.late (time_out call) (if nat_lt call.pauses pauses_before then pauses call else mark_or_sleep call) call (times_out call)
    (either (nat_lt call.pauses pauses_before) (pauses call) (mark_or_sleep call) call refl (marks call)))

decides : (word : ℕ) (call : WordCall) → fixed (decide word call).0 ≡ fixed call
decides word call =
    either (admits_word call.announced call.readers word call.want)
    (goes_to (record call { loaded = word; left = after_try call word }) stage.Try (action.Exchange word (after_try call word)))
    (wait (record call { loaded = word })) call refl (waits (record call { loaded = word }))

owes : (d : Debt) (call : WordCall) → fixed (wakes d call).0 ≡ fixed call
owes debt.Nothing call = refl
owes debt.One call = refl
owes debt.All call = refl
owes debt.Next call = refl
owes debt.Turn call = refl

releases : (word : ℕ) (call : WordCall) → fixed (release_again word call).0 ≡ fixed call
releases word call =
    either (nat_lt call.pauses exchanges_before) (release_on word (record call { pauses = call.pauses + 1 })) (subtract call) call refl refl

next : (st : Stage) (found : ℕ) (call : WordCall) → fixed (next_at st found call).0 ≡ fixed call
next stage.Look found call = decides found call
next stage.Try found call =
    either (found == call.loaded) (won call) (decide found call) call
    (either (takes_turn call call.loaded && has_sleepers call.loaded) (goes_to call stage.WakeAcquired action.WakeAll) (acquired call) call refl refl) (decides found call)
next stage.Pause found call = refl
next stage.Mark found call = either (found == call.loaded) (marked call) (decide found call) call refl (decides found call)
next stage.Sleep found call = refl
next stage.Withdraw found call =
    either (found == call.loaded) (withdrawn call) (decide found call) call
    (either (has_sleepers call.loaded && not (wakes_one call)) (goes_to (record call { announced = false; turned = false }) stage.WakeRefused action.WakeAll) (refused (record call { announced = false; turned = false })) call refl refl)
    (decides found call)
next stage.Leave found call = either (found == call.loaded) (refused call) (decide found call) call refl (decides found call)
next stage.LookToRemove found call = either (has_sleepers found) (release_on found call) (subtract call) call refl refl
next stage.Subtract found call = owes (release_of call.readers found call.down).1 call
next stage.Release found call =
    either (found == call.loaded) (wakes (release_of call.readers call.loaded call.down).1 call) (release_again found call) call
    (owes (release_of call.readers call.loaded call.down).1 call) (releases found call)
next stage.Wake found call = refl
next stage.WakeRefused found call = refl
next stage.WakeAcquired found call = refl
next stage.Acquired found call = refl
next stage.Refused found call = refl
next stage.Ended found call = refl

pub still_blocks : (found : ℕ) (call : WordCall) → (next_of found call).0.blocks ≡ call.blocks
still_blocks found call = ap (λ (x : Bool × ℕ). x.0) (next call.stage found call)

pub keeps_blocks : (found : ℕ) (p q : Pending) → at q ≡ next_of found p.call → q.call.blocks ≡ p.call.blocks
keeps_blocks found p q turns = ap (λ (x : Progress). x.0.blocks) turns ∙ still_blocks found p.call

pub looked_blocks : (l : Looked) → (looked_at l).0.blocks ≡ l.blocks
looked_blocks l = still_blocks l.word (acquiring l.readers l.want l.blocks true).0

pub looked_readers : (l : Looked) → (looked_at l).0.readers ≡ l.readers
looked_readers l = ap (λ (x : Bool × ℕ). x.1) (next stage.Look l.word (acquiring l.readers l.want l.blocks true).0)
