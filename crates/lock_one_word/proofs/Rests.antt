-- What a party holds after a pause, a sleep or a wake-up, at the first action of a call, and at its end.
use Rattle.std.proofs.Common.{◌≡◌, ℕ, ◌^◌, ◌<◌, arith, Bool, true, false, if◌then◌else◌, IsTrue, refl, sym, ap, subst, ◌∙◌}
use Rattle.std.proofs.lemmas.Bool.{false≢true, true≢false}
use Rattle.lock_modes.specs.declared.hold.Hold.{Hold}
use Rattle.lock_modes.specs.Holds.{hold_has, hold_after}
use Rattle.lock_word.specs.declared.want.ExWant.{ExWant}
use Rattle.lock_word.specs.declared.want.ExWant.TheVariants as want
use Rattle.lock_word.specs.declared.down.Down.{Down}
use Rattle.lock_word.specs.declared.down.Down.TheVariants as down
use Rattle.lock_word.specs.Unblocking.{is_awaited}
use Rattle.lock_word.specs.Word.{step_of_want, step_of_down}
use Rattle.lock_one.specs.declared.action.Action.{Action}
use Rattle.lock_one.specs.declared.action.Action.TheVariants as action
use Rattle.lock_one.specs.declared.call.WordCall.{WordCall}
use Rattle.lock_one.specs.declared.stage.Stage.{Stage}
use Rattle.lock_one.specs.declared.stage.Stage.TheVariants as stage
use Rattle.lock_one.specs.declared.sleep_view.SleepView.{SleepView}
use Rattle.lock_one.specs.declared.sleep_view.SleepState.TheVariants.{Awake}
use Rattle.lock_one.specs.declared.sleep_view.Debt.TheVariants as debt
use Rattle.lock_one.specs.Machine.{Progress, is_due, acquiring, taking, removes_reader, begun, goes_to, release_on, alone, next_at, next_of}
use Rattle.lock_one.specs.Answers.{releases_at}
use Rattle.lock_one.specs.Runs.{debt_at}
use Rattle.lock_one.specs.Steps.{ends, Acquires, IsAt, IsWake, hold_at}
use Rattle.lock_one.proofs.Actions.{on_word}
use Rattle.lock_one.proofs.Answers.{answers_match_holds}
use Rattle.lock_one.proofs.RunViews.{quiet_sleep, same_view}
use Rattle.lock_one.proofs.Sleeps.{after_sleep}
use Rattle.lock_one_word.specs.declared.rule.OneView.{OneView}
use Rattle.lock_one_word.specs.Drives.{Pending, at, GoesOn}
use Rattle.lock_one_word.specs.Seats.{Self, placed, Task, to_acquire, to_release, IsGoing}
use Rattle.lock_one_word.proofs.Tasks.{keeps_task, is_on}

abbrev IsOn : Progress → Hold → Hold → Type 0
IsOn next before held = IsAt next.0.stage next.0 (placed held next.1) next.1 × (held ≡ hold_at next.0.stage next.0 before)

-- a pause, a sleep or a wake-up leaves what the party holds
after : (st : Stage) (call : WordCall) (held before : Hold) (a : Action) (found : ℕ) → IsAt st call (placed held a) a → held ≡ hold_at st call before
    → on_word a ≡ false → ends a ≡ false → IsOn (next_at st found call) before held
after stage.Look call held before a found is h off on = absurd (true≢false (sym (ap on_word is.1) ∙ off))
after stage.Try call held before a found is h off on = absurd (true≢false (sym (ap on_word is.2) ∙ off))
after stage.Pause call held before a found is h off on = by a is
  where
    by : (a : Action) → IsAt stage.Pause call (placed held a) a → IsOn (next_at stage.Pause found call) before held
    by action.Load is = absurd is.1
    by (action.Exchange x y) is = absurd is.1
    by (action.Subtract d) is = absurd is.1
    by (action.Sleep n c b) is = absurd is.1
    by action.WakeOne is = absurd is.1
    by action.WakeAll is = absurd is.1
    by action.WakeNext is = absurd is.1
    by action.WakeTurn is = absurd is.1
    by (action.Spin n) is = ((is.0, refl), h)
    by action.Yield is = absurd is.1
    by (action.End b) is = absurd is.1
after stage.Mark call held before a found is h off on = absurd (true≢false (sym (ap on_word is.4) ∙ off))
after stage.Sleep call held before a found is h off on =
    let owes_none : debt_at a ≡ debt.Nothing = ap debt_at is.5 ∙ (quiet_sleep call).0 in
    let same : placed held a ≡ placed held action.Load = same_view (placed held a) held Awake debt.Nothing refl refl owes_none in
    let acq : Acquires call.want call.announced call.turned true call.blocks (is_due call) (placed held action.Load)
    = subst (λ (v : SleepView). Acquires call.want call.announced call.turned true call.blocks (is_due call) v) same is.0 in
    (((after_sleep call found (placed held action.Load) Awake acq is.2, refl), refl), h)
after stage.Withdraw call held before a found is h off on = absurd (true≢false (sym (ap on_word is.4) ∙ off))
after stage.Leave call held before a found is h off on = absurd (true≢false (sym (ap on_word is.4) ∙ off))
after stage.LookToRemove call held before a found is h off on = absurd (true≢false (sym (ap on_word is.2) ∙ off))
after stage.Subtract call held before a found is h off on = absurd (true≢false (sym (ap on_word is.2) ∙ off))
after stage.Release call held before a found is h off on = absurd (true≢false (sym (ap on_word is.2) ∙ off))
after stage.Wake call held before a found is h off on = (((refl, refl), refl), h)
after stage.WakeRefused call held before a found is h off on = (((refl, refl), refl), h)
after stage.WakeAcquired call held before a found is h off on = (((refl, refl), refl, is.3), h)
after stage.Acquired call held before a found is h off on = absurd (true≢false (sym (ap ends is.1) ∙ on))
after stage.Refused call held before a found is h off on = absurd (true≢false (sym (ap ends is.1) ∙ on))
after stage.Ended call held before a found is h off on = absurd (true≢false (sym (ap ends is.1) ∙ on))

not_over : (st : Stage) (call : WordCall) (v : SleepView) (a : Action) → IsAt st call v a → ends a ≡ false → is_on st ≡ true
not_over stage.Look call v a is on = refl
not_over stage.Try call v a is on = refl
not_over stage.Pause call v a is on = refl
not_over stage.Mark call v a is on = refl
not_over stage.Sleep call v a is on = refl
not_over stage.Withdraw call v a is on = refl
not_over stage.Leave call v a is on = refl
not_over stage.LookToRemove call v a is on = refl
not_over stage.Subtract call v a is on = refl
not_over stage.Release call v a is on = refl
not_over stage.Wake call v a is on = refl
not_over stage.WakeRefused call v a is on = refl
not_over stage.WakeAcquired call v a is on = refl
not_over stage.Acquired call v a is on = absurd (true≢false (sym (ap ends is.1) ∙ on))
not_over stage.Refused call v a is on = absurd (true≢false (sym (ap ends is.1) ∙ on))
not_over stage.Ended call v a is on = absurd (true≢false (sym (ap ends is.1) ∙ on))

-- a call goes on after an action that is no step on the word
pub rests : (call : WordCall) (a : Action) (before : Hold) (task : Task) (v : OneView) (found : ℕ) → on_word a ≡ false → ends a ≡ false
    → IsGoing (call, a) before task v → IsGoing (next_of found call) before task v
rests call a before task v found off on going =
    let is = after call.stage call v.held before a found going.at going.held off on in
    record {
      lock = same_readers call.stage off going.at ∙ going.lock;
      at = is.0;
      held = is.1;
      loaded = same_loaded call.stage off going.at;
      tasked = keeps_task found call (not_over call.stage call (placed v.held a) a going.at on) ∙ going.tasked;
    }
  where
    same_readers : (st : Stage) → on_word a ≡ false → IsAt st call (placed v.held a) a → (next_at st found call).0.readers ≡ call.readers
    same_readers stage.Look off is = absurd (true≢false (sym (ap on_word is.1) ∙ off))
    same_readers stage.Try off is = absurd (true≢false (sym (ap on_word is.2) ∙ off))
    same_readers stage.Pause off is = refl
    same_readers stage.Mark off is = absurd (true≢false (sym (ap on_word is.4) ∙ off))
    same_readers stage.Sleep off is = refl
    same_readers stage.Withdraw off is = absurd (true≢false (sym (ap on_word is.4) ∙ off))
    same_readers stage.Leave off is = absurd (true≢false (sym (ap on_word is.4) ∙ off))
    same_readers stage.LookToRemove off is = absurd (true≢false (sym (ap on_word is.2) ∙ off))
    same_readers stage.Subtract off is = absurd (true≢false (sym (ap on_word is.2) ∙ off))
    same_readers stage.Release off is = absurd (true≢false (sym (ap on_word is.2) ∙ off))
    same_readers stage.Wake off is = refl
    same_readers stage.WakeRefused off is = refl
    same_readers stage.WakeAcquired off is = refl
    same_readers stage.Acquired off is = refl
    same_readers stage.Refused off is = refl
    same_readers stage.Ended off is = refl

    same_loaded : (st : Stage) → on_word a ≡ false → IsAt st call (placed v.held a) a → (next_at st found call).0.loaded < 2 ^ 37
    same_loaded stage.Look off is = absurd (true≢false (sym (ap on_word is.1) ∙ off))
    same_loaded stage.Try off is = absurd (true≢false (sym (ap on_word is.2) ∙ off))
    same_loaded stage.Pause off is = going.loaded
    same_loaded stage.Mark off is = absurd (true≢false (sym (ap on_word is.4) ∙ off))
    same_loaded stage.Sleep off is = going.loaded
    same_loaded stage.Withdraw off is = absurd (true≢false (sym (ap on_word is.4) ∙ off))
    same_loaded stage.Leave off is = absurd (true≢false (sym (ap on_word is.4) ∙ off))
    same_loaded stage.LookToRemove off is = absurd (true≢false (sym (ap on_word is.2) ∙ off))
    same_loaded stage.Subtract off is = absurd (true≢false (sym (ap on_word is.2) ∙ off))
    same_loaded stage.Release off is = absurd (true≢false (sym (ap on_word is.2) ∙ off))
    same_loaded stage.Wake off is = going.loaded
    same_loaded stage.WakeRefused off is = going.loaded
    same_loaded stage.WakeAcquired off is = going.loaded
    same_loaded stage.Acquired off is = going.loaded
    same_loaded stage.Refused off is = going.loaded
    same_loaded stage.Ended off is = going.loaded

-- a call at its first action

pub acquiring_first : (readers : ℕ) (wish : ExWant) (blocks announces : Bool) (v : OneView) → readers ≡ v.readers → IsTrue (is_awaited wish)
    → IsTrue (hold_has v.held (step_of_want wish)) → v.held.announced ≡ false
    → IsGoing (acquiring readers wish blocks announces) v.held (to_acquire wish) v
acquiring_first readers wish blocks announces v lock awaited has clean =
    record {
      lock = lock;
      at = (
        (
          record {
            awaited = awaited;
            has = has;
            bar = sym clean;
            owes_none = refl;
            woken = λ w. absurd (false≢true w);
            tries = λ b. (refl, refl, refl);
            patient = λ a. absurd (false≢true a);
            writer = λ a. absurd (false≢true a);
            reader = λ a. absurd (false≢true a);
          },
          refl,
        ),
        refl,
      );
      held = ap (λ (x : Bool). let own : Hold = record { bag = v.held.bag; announced = x } in own) clean;
      loaded = omega arith;
      tasked = refl;
    }

alone_small : (d : Down) → alone d < 2 ^ 37
alone_small down.Shared = omega arith
alone_small down.Exclusive = omega arith
alone_small down.Upgradable = omega arith
alone_small down.ToShared = omega arith
alone_small down.ToUpgradable = omega arith
alone_small down.UpgradableToShared = omega arith
alone_small down.Withdraw = omega arith

pub releasing_first : (readers : ℕ) (d : Down) (v : OneView) → readers ≡ v.readers → IsTrue (hold_has v.held (step_of_down d))
    → IsGoing (taking readers d) v.held (to_release d) v
releasing_first readers d v lock has = by (removes_reader readers d)
  where
    by : (b : Bool) → IsGoing (if b then goes_to (begun readers stage.LookToRemove want.Shared d false false) stage.LookToRemove action.Load
        else release_on (alone d) (begun readers stage.Release want.Shared d false false)) v.held (to_release d) v
    by true = record { lock = lock; at = (has, (refl, refl), refl); held = refl; loaded = omega arith; tasked = refl }
    by false = record { lock = lock; at = (has, (refl, refl), refl); held = refl; loaded = alone_small d; tasked = refl }

-- what a party holds at the end of its call

pub refused_end : (call : WordCall) (before : Hold) (task : Task) (v : OneView) → before.announced ≡ false → IsGoing (call, action.End false) before task v → v.held ≡ before
refused_end call before task v clean going = answers_match_holds.refused_holds_as_before call (placed v.held (action.End false)) before clean going.at going.held

same_after : (before : Hold) (wish : ExWant) (a : Bool) → (hold_after (record before { announced = a }) (step_of_want wish)).bag ≡ (hold_after before (step_of_want wish)).bag
same_after before want.Shared a = refl
same_after before want.Exclusive a = refl
same_after before want.Upgradable a = refl
same_after before want.Upgrade a = refl
same_after before want.Announce a = refl

stays_clean : (before : Hold) (wish : ExWant) → before.announced ≡ false → IsTrue (is_awaited wish) → (hold_after before (step_of_want wish)).announced ≡ false
stays_clean before want.Shared clean o = clean
stays_clean before want.Exclusive clean o = refl
stays_clean before want.Upgradable clean o = clean
stays_clean before want.Upgrade clean o = clean
stays_clean before want.Announce clean o = absurd (false≢true o)

pub acquired_end : (call : WordCall) (before : Hold) (wish : ExWant) (v : OneView) → before.announced ≡ false → IsTrue (is_awaited wish)
    → IsGoing (call, action.End true) before (to_acquire wish) v → v.held ≡ hold_after before (step_of_want wish)
acquired_end call before wish v clean awaited going = by call.stage refl going.at going.held
  where
    is_want : call.want ≡ wish
    is_want = ap (λ (t : Task). t.0) going.tasked

    free : releases_at call.stage ≡ false
    free = ap (λ (t : Task). t.2) going.tasked

    both : (bag_is : v.held.bag ≡ (hold_after before (step_of_want wish)).bag) → v.held.announced ≡ (hold_after before (step_of_want wish)).announced → v.held ≡ hold_after before (step_of_want wish)
    both b a = λ i. record { bag = b i; announced = a i }

    by : (st : Stage) → call.stage ≡ st → IsAt st call (placed v.held (action.End true)) (action.End true) → v.held ≡ hold_at st call before → v.held ≡ hold_after before (step_of_want wish)
    by stage.Acquired e is h =
        both (ap (λ (x : Hold). x.bag) h ∙ (same_after before call.want call.announced ∙ ap (λ w. (hold_after before (step_of_want w)).bag) is_want))
        (is.2 ∙ sym (stays_clean before wish clean awaited))
    by stage.Ended e is h = absurd (true≢false (sym (ap releases_at e) ∙ free))
    by stage.Refused e is h = let x = is.1 in cc
    by stage.Look e is h = let x = is.1 in cc
    by stage.Try e is h = let x = is.2 in cc
    by stage.Pause e is h = absurd is.1
    by stage.Mark e is h = let x = is.4 in cc
    by stage.Sleep e is h = absurd (true≢false (ap ends is.5 ∙ (quiet_sleep call).1))
    by stage.Withdraw e is h = let x = is.4 in cc
    by stage.Leave e is h = let x = is.4 in cc
    by stage.LookToRemove e is h = absurd (true≢false (sym (ap releases_at e) ∙ free))
    by stage.Subtract e is h = absurd (true≢false (sym (ap releases_at e) ∙ free))
    by stage.Release e is h = absurd (true≢false (sym (ap releases_at e) ∙ free))
    by stage.Wake e is h = absurd (true≢false (sym (ap releases_at e) ∙ free))
    by stage.WakeRefused e is h = let x = is.2 in cc
    by stage.WakeAcquired e is h = let x = is.2 in cc

pub released_end : (call : WordCall) (before : Hold) (d : Down) (b : Bool) (v : OneView) → IsGoing (call, action.End b) before (to_release d) v
    → v.held ≡ hold_after before (step_of_down d)
released_end call before d b v going = by call.stage refl going.at going.held
  where
    is_down : call.down ≡ d
    is_down = ap (λ (t : Task). t.1) going.tasked

    busy : releases_at call.stage ≡ true
    busy = ap (λ (t : Task). t.2) going.tasked

    by : (st : Stage) → call.stage ≡ st → IsAt st call (placed v.held (action.End b)) (action.End b) → v.held ≡ hold_at st call before → v.held ≡ hold_after before (step_of_down d)
    by stage.Ended e is h = h ∙ ap (λ x. hold_after before (step_of_down x)) is_down
    by stage.Acquired e is h = absurd (true≢false (sym busy ∙ ap releases_at e))
    by stage.Refused e is h = absurd (true≢false (sym busy ∙ ap releases_at e))
    by stage.Look e is h = absurd (true≢false (sym busy ∙ ap releases_at e))
    by stage.Try e is h = absurd (true≢false (sym busy ∙ ap releases_at e))
    by stage.Pause e is h = absurd (true≢false (sym busy ∙ ap releases_at e))
    by stage.Mark e is h = absurd (true≢false (sym busy ∙ ap releases_at e))
    by stage.Sleep e is h = absurd (true≢false (sym busy ∙ ap releases_at e))
    by stage.Withdraw e is h = absurd (true≢false (sym busy ∙ ap releases_at e))
    by stage.Leave e is h = absurd (true≢false (sym busy ∙ ap releases_at e))
    by stage.WakeRefused e is h = absurd (true≢false (sym busy ∙ ap releases_at e))
    by stage.WakeAcquired e is h = absurd (true≢false (sym busy ∙ ap releases_at e))
    by stage.LookToRemove e is h = let x = is.2 in cc
    by stage.Subtract e is h = let x = is.2 in cc
    by stage.Release e is h = let x = is.2 in cc
    by stage.Wake e is h = over v.held is.1
      where
        over : (x : Hold) → IsWake (debt_at (action.End b)) (action.End b) → v.held ≡ hold_after before (step_of_down d)
        over x w = absurd w

-- a call goes on after an action that is no step on the word
pub rests_on : (p q : Pending) (me : Self) (found : ℕ) (a : Action) → p.action ≡ a → on_word a ≡ false → ends a ≡ false → at q ≡ next_of found p.call
    → GoesOn p me q me
rests_on p q me found a is off on turns = (
  (found, turns),
  λ before task going. subst (λ x. IsGoing x before task me.0) (sym turns)
      (rests p.call p.action before task me.0 found (ap on_word is ∙ off) (ap ends is ∙ on) going),
)
