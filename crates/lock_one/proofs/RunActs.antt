-- The calls that begin, the steps on the word and the sleeps keep it.
use Rattle.std.proofs.Common.{◌≡◌, ℕ, not, Bool, true, false, ◌&&◌, ◌==◌, ◌^◌, nat_lt, if◌then◌else◌, inl, inr, slice_get, slice_set, Option, Some, None, IsTrue, refl, sym, ap, subst, ◌∙◌, eqb-true}
use Rattle.std.proofs.lemmas.Bool.{false≢true, and_parts}
use Rattle.lock_modes.specs.declared.hold.Hold.{Hold}
use Rattle.lock_modes.specs.Limits.{IsLimit}
use Rattle.lock_modes.specs.Holds.{hold_has, hold_after}
use Rattle.lock_word.specs.declared.want.ExWant.{ExWant}
use Rattle.lock_word.specs.declared.want.ExWant.TheVariants as want
use Rattle.lock_word.specs.declared.down.Down.{Down}
use Rattle.lock_word.specs.declared.down.Down.TheVariants as down
use Rattle.lock_word.specs.Word.{step_of_want, step_of_down}
use Rattle.lock_word.specs.Unblocking.{is_awaited}
use Rattle.lock_word.proofs.Rules.{slice_set_same}
use Rattle.lock_one.specs.declared.action.Action.{Action}
use Rattle.lock_one.specs.declared.action.Action.TheVariants as action
use Rattle.lock_one.specs.declared.call.WordCall.{WordCall}
use Rattle.lock_one.specs.declared.stage.Stage.{Stage}
use Rattle.lock_one.specs.declared.stage.Stage.TheVariants as stage
use Rattle.lock_one.specs.declared.sleep_view.WordLimits.{WordLimits}
use Rattle.lock_one.specs.declared.sleep_view.SleepView.{SleepView}
use Rattle.lock_one.specs.declared.sleep_view.SleepState.TheVariants.{Asleep, Woken}
use Rattle.lock_one.specs.declared.sleep_view.Debt.{Debt}
use Rattle.lock_one.specs.declared.sleep_view.Debt.TheVariants as debt
use Rattle.lock_one.specs.declared.action.Sleeper.{Sleeper}
use Rattle.lock_one.specs.Rule.{is_asleep, is_woken, with_sleep}
use Rattle.lock_one.specs.Machine.{Progress, has_slept, class_of, is_brief, acquiring, taking, release_on, alone, removes_reader, goes_to, begun, next_at, next_of}
use Rattle.lock_one.specs.Steps.{made, touches, ends, limits_of, hold_at, AtRest, IsPause, IsWake, IsAt, is_step, Keeps}
use Rattle.lock_one.specs.Runs.{Underway, Thread, LockInUse, views_of, limits_in, is_idle, may_acquire, may_release, begins, view_after, goes_on, thread_after, with_thread, answer, steps_by, finds, sleeps_by, acquire_by, release_by}
use Rattle.lock_one.proofs.Steps.{steps_keep_the_rule}
use Rattle.lock_one.proofs.Sleeps.{sleeps_keep_the_rule}
use Rattle.lock_one.proofs.RunViews.{IsPlaced, RunKept, view_in, one_changed, keeps_woken, quiet_sleep, settled}

-- the acts

unchanged_views : (s : LockInUse) (k : ℕ) (t u : Thread) → slice_get s.threads k ≡ Some t → u.view ≡ t.view → RunKept s
    → Keeps (limits_in s.readers) s.word (slice_set (views_of s.threads) k u.view)
unchanged_views s k t u at same run =
    subst (λ vs. Keeps (limits_in s.readers) s.word vs)
    (sym (ap (λ v. slice_set (views_of s.threads) k v) same ∙ slice_set_same (views_of s.threads) k t.view (view_in s.threads k t at))) run.keeps

rests_if_idle : (limits : WordLimits) (v : SleepView) (u : Option Underway) → IsTrue (is_idle u) → IsPlaced limits v u → AtRest v × (v.held.announced ≡ false)
rests_if_idle limits v None h place = place
rests_if_idle limits v (Some u) h place = absurd (false≢true h)

not_yes : (a : Bool) → IsTrue (not a) → a ≡ false
not_yes true h = absurd (false≢true h)
not_yes false h = refl

pub acquire_kept : (s : LockInUse) (k : ℕ) (wish : ExWant) (blocks announces : Bool) (o : Option Thread) → slice_get s.threads k ≡ o → RunKept s
    → RunKept (acquire_by s k wish blocks announces o)
acquire_kept s k wish blocks announces None at run = run
acquire_kept s k wish blocks announces (Some t) at run = by (may_acquire t wish) refl
  where
    by : (b : Bool) → may_acquire t wish ≡ b → RunKept (if b then with_thread s k (begins t (acquiring s.readers wish blocks announces)) else s)
    by false e = run
    by true e =
        let one = and_parts (is_idle t.underway) (is_awaited wish && (hold_has t.view.held (step_of_want wish) && not t.view.held.announced)) e in
        let two = and_parts (is_awaited wish) (hold_has t.view.held (step_of_want wish) && not t.view.held.announced) one.1 in
        let three = and_parts (hold_has t.view.held (step_of_want wish)) (not t.view.held.announced) two.1 in
        let rests = rests_if_idle (limits_in s.readers) t.view t.underway one.0 (run.each k t at) in
        let no_bar = not_yes t.view.held.announced three.1 in
        one_changed s s.word k (begins t (acquiring s.readers wish blocks announces)) run
        (unchanged_views s k t (begins t (acquiring s.readers wish blocks announces)) at refl run) (
          (
            (
              record {
                awaited = two.0;
                has = three.0;
                bar = sym no_bar;
                owes_none = rests.0.1;
                woken = λ w. absurd (false≢true (sym (ap is_woken rests.0.0) ∙ w));
                tries = λ b. (refl, refl, refl);
                patient = λ a. absurd (false≢true a);
                writer = λ a. absurd (false≢true a);
                reader = λ a. absurd (false≢true a);
              },
              ap is_asleep rests.0.0,
            ),
            refl,
          ),
          ap (λ (x : Bool). let own : Hold = record { bag = t.view.held.bag; announced = x } in own) no_bar,
          refl,
          refl,
          no_bar,
        )

pub release_kept : (s : LockInUse) (k : ℕ) (down : Down) (o : Option Thread) → slice_get s.threads k ≡ o → RunKept s → RunKept (release_by s k down o)
release_kept s k down None at run = run
release_kept s k down (Some t) at run = by (may_release t down) refl
  where
    by : (b : Bool) → may_release t down ≡ b → RunKept (if b then with_thread s k (begins t (taking s.readers down)) else s)
    by false e = run
    by true e =
        let one = and_parts (is_idle t.underway) (hold_has t.view.held (step_of_down down)) e in
        let rests = rests_if_idle (limits_in s.readers) t.view t.underway one.0 (run.each k t at) in
        one_changed s s.word k (begins t (taking s.readers down)) run (unchanged_views s k t (begins t (taking s.readers down)) at refl run)
        (placed_first one.1 rests (removes_reader s.readers down) refl)
      where
        looks : Progress
        looks = goes_to (begun s.readers stage.LookToRemove want.Shared down false false) stage.LookToRemove action.Load

        exchanges : Progress
        exchanges = release_on (alone down) (begun s.readers stage.Release want.Shared down false false)

        placed_first : IsTrue (hold_has t.view.held (step_of_down down)) → AtRest t.view × (t.view.held.announced ≡ false) → (b : Bool) → removes_reader s.readers down ≡ b
            → IsPlaced (limits_in s.readers) t.view (Some record { at = if b then looks else exchanges; before = t.view.held })
        placed_first has rests true e = ((has, rests.0, refl), refl, refl, refl, rests.1)
        placed_first has rests false e = ((has, rests.0, refl), refl, refl, refl, rests.1)

-- a release sets no bar
pub bare_after : (before : Hold) → before.announced ≡ false → (down : Down) → (hold_after before (step_of_down down)).announced ≡ false
bare_after before clean down.Shared = clean
bare_after before clean down.Exclusive = clean
bare_after before clean down.Upgradable = clean
bare_after before clean down.ToShared = clean
bare_after before clean down.ToUpgradable = clean
bare_after before clean down.UpgradableToShared = clean
bare_after before clean down.Withdraw = refl

-- the call has ended, or goes on
pub goes_or_rests : (limits : WordLimits) (next : Progress) (before : Hold) (v : SleepView) → IsAt next.0.stage next.0 v next.1
    → v.held ≡ hold_at next.0.stage next.0 before → limits_of next.0 ≡ limits → before.announced ≡ false → IsPlaced limits v (goes_on next before)
goes_or_rests limits next before v is held lock clean = by (ends next.1) refl
  where
    at_end : (st : Stage) (a : Action) → IsAt st next.0 v a → ends a ≡ true → AtRest v
    at_end stage.Look a is e = absurd (false≢true (sym (ap ends is.1) ∙ e))
    at_end stage.Try a is e = absurd (false≢true (sym (ap ends is.2) ∙ e))
    at_end stage.Pause a is e = absurd (rest_goes a is.1 e)
      where
        rest_goes : (a : Action) → IsPause a → ends a ≡ true → ⊥
        rest_goes action.Load h e = absurd h
        rest_goes (action.Exchange x y) h e = absurd h
        rest_goes (action.Sleep n c b) h e = absurd h
        rest_goes (action.Subtract d) h e = absurd h
        rest_goes action.WakeOne h e = absurd h
        rest_goes action.WakeAll h e = absurd h
        rest_goes action.WakeNext h e = absurd h
        rest_goes action.WakeTurn h e = absurd h
        rest_goes (action.Spin n) h e = false≢true e
        rest_goes action.Yield h e = absurd h
        rest_goes (action.End b) h e = absurd h
    at_end stage.Mark a is e = absurd (false≢true (sym (ap ends is.4) ∙ e))
    at_end stage.Sleep a is e = absurd (false≢true (sym (ap ends is.5 ∙ (quiet_sleep next.0).1) ∙ e))
    at_end stage.Withdraw a is e = absurd (false≢true (sym (ap ends is.4) ∙ e))
    at_end stage.Leave a is e = absurd (false≢true (sym (ap ends is.4) ∙ e))
    at_end stage.Release a is e = absurd (false≢true (sym (ap ends is.2) ∙ e))
    at_end stage.LookToRemove a is e = absurd (false≢true (sym (ap ends is.2) ∙ e))
    at_end stage.Subtract a is e = absurd (false≢true (sym (ap ends is.2) ∙ e))
    at_end stage.Wake a is e = absurd (wake_goes v.debt is.1)
      where
        wake_goes : (d : Debt) → IsWake d a → ⊥
        wake_goes debt.Nothing h = h
        wake_goes debt.One h = false≢true (sym (ap ends h) ∙ e)
        wake_goes debt.All h = false≢true (sym (ap ends h) ∙ e)
        wake_goes debt.Next h = false≢true (sym (ap ends h) ∙ e)
        wake_goes debt.Turn h = false≢true (sym (ap ends h) ∙ e)
    at_end stage.WakeRefused a is e = absurd (false≢true (sym (ap ends is.2) ∙ e))
    at_end stage.WakeAcquired a is e = absurd (false≢true (sym (ap ends is.2) ∙ e))
    at_end stage.Acquired a is e = is.0
    at_end stage.Refused a is e = is.0
    at_end stage.Ended a is e = is.0

    bar_end : (st : Stage) (a : Action) → IsAt st next.0 v a → v.held ≡ hold_at st next.0 before → ends a ≡ true → v.held.announced ≡ false
    bar_end stage.Look a is h e = absurd (false≢true (sym (ap ends is.1) ∙ e))
    bar_end stage.Try a is h e = absurd (false≢true (sym (ap ends is.2) ∙ e))
    bar_end stage.Pause a is h e = absurd (quiet_goes a is.1 e)
      where
        quiet_goes : (a : Action) → IsPause a → ends a ≡ true → ⊥
        quiet_goes action.Load h e = absurd h
        quiet_goes (action.Exchange x y) h e = absurd h
        quiet_goes (action.Sleep n c b) h e = absurd h
        quiet_goes (action.Subtract d) h e = absurd h
        quiet_goes action.WakeOne h e = absurd h
        quiet_goes action.WakeAll h e = absurd h
        quiet_goes action.WakeNext h e = absurd h
        quiet_goes action.WakeTurn h e = absurd h
        quiet_goes (action.Spin n) h e = false≢true e
        quiet_goes action.Yield h e = absurd h
        quiet_goes (action.End b) h e = absurd h
    bar_end stage.Mark a is h e = absurd (false≢true (sym (ap ends is.4) ∙ e))
    bar_end stage.Sleep a is h e = absurd (false≢true (sym (ap ends is.5 ∙ (quiet_sleep next.0).1) ∙ e))
    bar_end stage.Withdraw a is h e = absurd (false≢true (sym (ap ends is.4) ∙ e))
    bar_end stage.Leave a is h e = absurd (false≢true (sym (ap ends is.4) ∙ e))
    bar_end stage.Release a is h e = absurd (false≢true (sym (ap ends is.2) ∙ e))
    bar_end stage.LookToRemove a is h e = absurd (false≢true (sym (ap ends is.2) ∙ e))
    bar_end stage.Subtract a is h e = absurd (false≢true (sym (ap ends is.2) ∙ e))
    bar_end stage.Wake a is h e = ap (λ (x : Hold). x.announced) h ∙ bare_after before clean next.0.down
    bar_end stage.WakeRefused a is h e = ap (λ (x : Hold). x.announced) h
    bar_end stage.WakeAcquired a is h e = is.3
    bar_end stage.Acquired a is h e = is.2
    bar_end stage.Refused a is h e = ap (λ (x : Hold). x.announced) h
    bar_end stage.Ended a is h e = ap (λ (x : Hold). x.announced) h ∙ bare_after before clean next.0.down

    by : (b : Bool) → ends next.1 ≡ b → IsPlaced limits v (if b then None else Some record { at = next; before = before })
    by true e = (at_end next.0.stage next.1 is e, bar_end next.0.stage next.1 is held e)
    by false e = (is, held, lock, e, clean)

-- a step on the word
pub step_kept : (s : LockInUse) (k given : ℕ) (t : Thread) (u : Underway) → slice_get s.threads k ≡ Some t → IsPlaced (limits_in s.readers) t.view (Some u)
    → is_step u.at.0.stage ≡ true → is_asleep t.view.sleep ≡ false → (IsTrue (is_woken t.view.sleep) → has_slept u.at.0 ≡ true) → RunKept s
    → RunKept (steps_by s k given t u)
step_kept s k given t u at place stepping awake woken run =
    let call = u.at.0 in
    let a = u.at.1 in
    let found = answer a s.word given in
    let next = next_of found call in
    let views = views_of s.threads in
    let here = view_in s.threads k t at in
    let lock = place.2 in
    let range : IsLimit call.readers = subst (λ (l : WordLimits). IsLimit l.readers) (sym lock) run.range in
    let keeps : Keeps (limits_of call) s.word views = subst (λ l. Keeps l s.word views) (sym lock) run.keeps in
    let kept = steps_keep_the_rule s.word views k t.view call a found u.before range keeps here place.0 place.1 stepping (reads (touches a)) in
    let same_limits : limits_of next.0 ≡ limits_of call = ap (λ (p : WordLimits × ℕ). p.0) kept.same_lock in
    let same_slept : has_slept next.0 ≡ has_slept call = ap (λ (p : WordLimits × ℕ). not (p.1 == 0)) kept.same_lock in
    let to = settled next.0.stage next.0 kept.you next.1 t.view.sleep (hold_at next.0.stage next.0 u.before) kept.at kept.held kept.same_or_awake awake
    (λ w. same_slept ∙ woken w) in
    let w = view_after next t.view.sleep u.before in
    let later : Keeps (limits_of call) (made a s.word) (slice_set views k w)
    = elim to.either [
      | inl e ↦ subst (λ (v : SleepView). Keeps (limits_of call) (made a s.word) (slice_set views k v)) (sym e) kept.keeps
      | inr e ↦ subst (λ (v : SleepView). Keeps (limits_of call) (made a s.word) (slice_set views k v)) (sym e)
          (keeps_woken (limits_of call) (made a s.word) views k t.view kept.you range here kept.keeps)
    ] in
    one_changed s (made a s.word) k (thread_after next t.view.sleep u.before) run (subst (λ l. Keeps l (made a s.word) (slice_set views k w)) lock later)
    (goes_or_rests (limits_in s.readers) next u.before w to.at refl (same_limits ∙ lock) place.4)
  where
    reads : (b : Bool) → IsTrue b → (if b then s.word else given) ≡ s.word
    reads true h = refl
    reads false h = absurd (false≢true h)

pub awake_at : (st : Stage) (call : WordCall) (v : SleepView) (a : Action) → IsAt st call v a → is_step st ≡ true
    → (is_asleep v.sleep ≡ false) × (IsTrue (is_woken v.sleep) → has_slept call ≡ true)
awake_at stage.Look call v a is h = (is.0.1, is.0.0.woken)
awake_at stage.Try call v a is h = (is.0.1, is.0.0.woken)
awake_at stage.Pause call v a is h = (is.0.1, is.0.0.woken)
awake_at stage.Mark call v a is h = (is.0.1, is.0.0.woken)
awake_at stage.Sleep call v a is h = absurd (false≢true h)
awake_at stage.Withdraw call v a is h = (is.0.1, is.0.0.woken)
awake_at stage.Leave call v a is h = (is.0.1, is.0.0.woken)
awake_at stage.Release call v a is h = (ap is_asleep is.1.0, λ w. absurd (false≢true (sym (ap is_woken is.1.0) ∙ w)))
awake_at stage.LookToRemove call v a is h = (ap is_asleep is.1.0, λ w. absurd (false≢true (sym (ap is_woken is.1.0) ∙ w)))
awake_at stage.Subtract call v a is h = (ap is_asleep is.1.0, λ w. absurd (false≢true (sym (ap is_woken is.1.0) ∙ w)))
awake_at stage.Wake call v a is h = absurd (false≢true h)
awake_at stage.WakeRefused call v a is h = absurd (false≢true h)
awake_at stage.WakeAcquired call v a is h = absurd (false≢true h)
awake_at stage.Acquired call v a is h = absurd (false≢true h)
awake_at stage.Refused call v a is h = absurd (false≢true h)
awake_at stage.Ended call v a is h = absurd (false≢true h)

-- a sleep finds the loaded word
found_loaded : (few : Bool) (class : Sleeper) (brief : Bool) (n word : ℕ) → finds (if few then action.Sleep n class brief else action.Yield) word ≡ true → word ≡ n
found_loaded true class brief n word e = eqb-true word n e
found_loaded false class brief n word e = absurd (false≢true e)

-- a sleep
pub sleep_kept : (s : LockInUse) (k given : ℕ) (t : Thread) (u : Underway) → slice_get s.threads k ≡ Some t → IsAt stage.Sleep u.at.0 t.view u.at.1
    → t.view.held ≡ hold_at stage.Sleep u.at.0 u.before → limits_of u.at.0 ≡ limits_in s.readers → u.before.announced ≡ false → u.at.0.stage ≡ stage.Sleep → t.underway ≡ Some u → RunKept s
    → RunKept (sleeps_by s k given t u)
sleep_kept s k given t u at is held lock clean sleeps calls run =
    by ((given == 0) && (finds u.at.1 s.word && not (is_asleep t.view.sleep))) refl
  where
    call : WordCall
    call = u.at.0

    range : IsLimit u.at.0.readers
    range = subst (λ (l : WordLimits). IsLimit l.readers) (sym lock) run.range

    keeps : Keeps (limits_of u.at.0) s.word (views_of s.threads)
    keeps = subst (λ l. Keeps l s.word (views_of s.threads)) (sym lock) run.keeps

    by : (b : Bool) → ((given == 0) && (finds u.at.1 s.word && not (is_asleep t.view.sleep))) ≡ b
        → RunKept (if b then with_thread s k (record t { view = with_sleep t.view (Asleep u.at.0.want) })
        else with_thread s k record { view = with_sleep t.view Woken; underway = goes_on (next_at stage.Sleep given u.at.0) u.before })
    by true e =
        let one = and_parts (given == 0) (finds u.at.1 s.word && not (is_asleep t.view.sleep)) e in
        let two = and_parts (finds u.at.1 s.word) (not (is_asleep t.view.sleep)) one.1 in
        let word : s.word ≡ u.at.0.loaded
        = found_loaded (nat_lt call.readers (2 ^ 27)) (class_of call.announced call.want) (is_brief call) call.loaded s.word (subst (λ a. finds a s.word ≡ true) is.5 two.0) in
        let asleep = sleeps_keep_the_rule.falls_asleep (views_of s.threads) k t.view u.at.0 u.at.1 range
        (subst (λ n. Keeps (limits_of u.at.0) n (views_of s.threads)) word keeps) (view_in s.threads k t at) is in
        let v = with_sleep t.view (Asleep u.at.0.want) in
        one_changed s s.word k (record t { view = v }) run
        (subst (λ l. Keeps l s.word (slice_set (views_of s.threads) k v)) lock
        (subst (λ n. Keeps (limits_of u.at.0) n (slice_set (views_of s.threads) k v)) (sym word) asleep.0))
        (subst (λ o. IsPlaced (limits_in s.readers) v o) (sym calls) (
          subst (λ st. IsAt st u.at.0 v u.at.1) (sym sleeps) asleep.1,
          held ∙ ap (λ st. hold_at st u.at.0 u.before) (sym sleeps),
          lock,
          ap ends is.5 ∙ (quiet_sleep call).1,
          clean,
        ))
    by false e =
        let woken = sleeps_keep_the_rule.sleep_ends s.word (views_of s.threads) k t.view u.at.0 u.at.1 given range keeps (view_in s.threads k t at) is in
        let v = with_sleep t.view Woken in
        one_changed s s.word k record { view = v; underway = goes_on (next_at stage.Sleep given u.at.0) u.before } run
        (subst (λ l. Keeps l s.word (slice_set (views_of s.threads) k v)) lock woken.0)
        (goes_or_rests (limits_in s.readers) (next_at stage.Sleep given u.at.0) u.before v woken.1 held lock clean)
