-- What a run keeps of its threads and their views.
use Rattle.std.proofs.Common.{◌≡◌, ℕ, zero, suc, Bool, true, false, ◌^◌, nat_lt, if◌then◌else◌, ◌⊎◌, inl, inr, List, [], ◌∷◌, slice_get, slice_set, Option, Some, None, IsTrue, refl, sym, ap, subst, ◌∙◌}
use Rattle.std.proofs.lemmas.Bool.{false≢true, true≢false}
use Rattle.std.proofs.lemmas.List.{map-set}
use Rattle.std.proofs.lemmas.Option.{slice_get-map}
use Rattle.lock_modes.specs.declared.hold.Hold.{Hold}
use Rattle.lock_modes.specs.Limits.{IsLimit}
use Rattle.lock_word.specs.declared.want.ExWant.{ExWant}
use Rattle.lock_word.proofs.Rules.{changed_or_not}
use Rattle.lock_word.proofs.Lists.{placed}
use Rattle.lock_one.specs.declared.action.Action.{Action}
use Rattle.lock_one.specs.declared.action.Action.TheVariants as action
use Rattle.lock_one.specs.declared.call.WordCall.{WordCall}
use Rattle.lock_one.specs.declared.stage.Stage.{Stage}
use Rattle.lock_one.specs.declared.stage.Stage.TheVariants as stage
use Rattle.lock_one.specs.declared.sleep_view.WordLimits.{WordLimits}
use Rattle.lock_one.specs.declared.sleep_view.SleepView.{SleepView}
use Rattle.lock_one.specs.declared.sleep_view.SleepState.{SleepState}
use Rattle.lock_one.specs.declared.sleep_view.SleepState.TheVariants.{Awake, Asleep, Woken}
use Rattle.lock_one.specs.declared.sleep_view.Debt.{Debt}
use Rattle.lock_one.specs.declared.sleep_view.Debt.TheVariants as debt
use Rattle.lock_one.specs.Rule.{is_asleep, is_woken, KeepsSleepers, with_sleep}
use Rattle.lock_one.specs.Machine.{core_of, has_turn, has_sleepers, has_slept, is_due, class_of, is_brief, sleep_of}
use Rattle.lock_one.specs.Steps.{ends, limits_of, hold_at, Acquires, AtRest, IsPause, IsWake, IsAt, Keeps}
use Rattle.lock_one.specs.Runs.{Underway, Thread, LockInUse, views_of, limits_in, sleep_at, debt_at}
use Rattle.lock_one.proofs.EachStep.{each_step}

-- a thread is where its call is, or at rest
abbrev pub IsPlaced : WordLimits → SleepView → Option Underway → Type 0
IsPlaced limits v None = AtRest v × (v.held.announced ≡ false)
IsPlaced limits v (Some u) =
    IsAt u.at.0.stage u.at.0 v u.at.1 × (v.held ≡ hold_at u.at.0.stage u.at.0 u.before) × (limits_of u.at.0 ≡ limits) × (ends u.at.1 ≡ false)
    × (u.before.announced ≡ false)

pub record RunKept (s : LockInUse) : Type 0 where
  pub range : IsLimit s.readers
  pub keeps : Keeps (limits_in s.readers) s.word (views_of s.threads)
  pub each : (k : ℕ) (t : Thread) → slice_get s.threads k ≡ Some t → IsPlaced (limits_in s.readers) t.view t.underway

pub views_set : (ts : List Thread) (k : ℕ) (t : Thread) → views_of (slice_set ts k t) ≡ slice_set (views_of ts) k t.view
views_set ts k t = map-set (λ (t : Thread). t.view) ts k t

pub view_in : (ts : List Thread) (k : ℕ) (t : Thread) → slice_get ts k ≡ Some t → slice_get (views_of ts) k ≡ Some t.view
view_in ts k t h = rw (slice_get-map (λ (t : Thread). t.view) ts k, h)

-- one thread has changed
pub one_changed : (s : LockInUse) (word : ℕ) (k : ℕ) (t : Thread) → RunKept s → Keeps (limits_in s.readers) word (slice_set (views_of s.threads) k t.view)
    → IsPlaced (limits_in s.readers) t.view t.underway
    → RunKept record { readers = s.readers; word = word; threads = slice_set s.threads k t }
one_changed s word k t run keeps place =
    record {
      range = run.range;
      keeps = subst (λ vs. Keeps (limits_in s.readers) word vs) (sym (views_set s.threads k t)) keeps;
      each = λ j u is.
          elim (changed_or_not s.threads k j t u is) [
            | inl e ↦ subst (λ (x : Thread). IsPlaced (limits_in s.readers) x.view x.underway) (sym e.1) place
            | inr e ↦ run.each j u e.1
          ];
    }

-- views

pub same_view : (v : SleepView) (h : Hold) (p : SleepState) (d : Debt) → v.held ≡ h → v.sleep ≡ p → v.debt ≡ d → v ≡ record { held = h; sleep = p; debt = d }
same_view v h p d a b c =
    ap (λ (x : Hold). let w : SleepView = record { held = x; sleep = v.sleep; debt = v.debt } in w) a
    ∙ (ap (λ (x : SleepState). let w : SleepView = record { held = h; sleep = x; debt = v.debt } in w) b
    ∙ ap (λ (x : Debt). let w : SleepView = record { held = h; sleep = p; debt = x } in w) c)

pub set_twice : {A : Type 0} (xs : List A) (k : ℕ) (y z : A) → slice_set (slice_set xs k y) k z ≡ slice_set xs k z
set_twice [] k y z = refl
set_twice (x ∷ xs) zero y z = refl
set_twice (x ∷ xs) (suc k) y z = ap (λ ys. x ∷ ys) (set_twice xs k y z)

pub asleep_for : (p : SleepState) → is_asleep p ≡ true → (x : ExWant) × (p ≡ Asleep x)
asleep_for Awake h = absurd (false≢true h)
asleep_for (Asleep x) h = (x, refl)
asleep_for Woken h = absurd (false≢true h)

-- a view may be lifted from awake to woken
pub keeps_woken : (limits : WordLimits) (word : ℕ) (views : List SleepView) (k : ℕ) (me you : SleepView) → IsLimit limits.readers
    → slice_get views k ≡ Some me → Keeps limits word (slice_set views k you) → Keeps limits word (slice_set views k (with_sleep you Woken))
keeps_woken limits word views k me you range at keeps =
    let step = (each_step limits (core_of word) (has_turn word) (has_sleepers word) (slice_set views k you) k you range keeps.kept (placed views k me you at)).wakes in
    record { small = keeps.small; kept = subst (λ vs. KeepsSleepers limits (core_of word) (has_turn word) (has_sleepers word) vs) (set_twice views k you (with_sleep you Woken)) step }

-- the party after a step: that of the law, or that one woken
pub record Settled (you w : SleepView) (stage_ : Stage) (call : WordCall) (a : Action) : Type 0 where
  pub either : (w ≡ you) ⊎ (w ≡ with_sleep you Woken)
  pub at : IsAt stage_ call w a

as_woken : (wish : ExWant) (an turned slept bl due : Bool) (v : SleepView) (p : SleepState) → Acquires wish an turned slept bl due v → (IsTrue (is_woken p) → slept ≡ true)
    → Acquires wish an turned slept bl due (with_sleep v p)
as_woken wish an turned slept bl due v p acq woken =
    record {
      awaited = acq.awaited;
      has = acq.has;
      bar = acq.bar;
      owes_none = acq.owes_none;
      woken = woken;
      tries = acq.tries;
      patient = acq.patient;
      writer = acq.writer;
      reader = acq.reader;
    }

-- at these stages a call waits to acquire, awake
abbrev waits_at : Stage → Bool
waits_at stage.Look = true
waits_at stage.Try = true
waits_at stage.Pause = true
waits_at stage.Mark = true
waits_at stage.Withdraw = true
waits_at stage.Leave = true
waits_at other = false

-- what a party that waits at a stage may be instead: one with another sleep
other_sleep : (st : Stage) (call : WordCall) (v : SleepView) (p : SleepState) (a : Action) → IsAt st call v a → waits_at st ≡ true → is_asleep p ≡ false
    → (IsTrue (is_woken p) → has_slept call ≡ true) → IsAt st call (with_sleep v p) a
other_sleep stage.Look call v p a is w awake woken = ((as_woken call.want call.announced call.turned (has_slept call) call.blocks (is_due call) v p is.0.0 woken, awake), is.1)
other_sleep stage.Try call v p a is w awake woken = ((as_woken call.want call.announced call.turned (has_slept call) call.blocks (is_due call) v p is.0.0 woken, awake), is.1, is.2)
other_sleep stage.Pause call v p a is w awake woken = ((as_woken call.want call.announced call.turned (has_slept call) call.blocks (is_due call) v p is.0.0 woken, awake), is.1)
other_sleep stage.Mark call v p a is w awake woken = ((as_woken call.want call.announced call.turned (has_slept call) call.blocks (is_due call) v p is.0.0 woken, awake), is.1, is.2, is.3, is.4)
other_sleep stage.Sleep call v p a is w awake woken = absurd (false≢true w)
other_sleep stage.Withdraw call v p a is w awake woken = ((as_woken call.want call.announced call.turned (has_slept call) call.blocks (is_due call) v p is.0.0 woken, awake), is.1, is.2, is.3, is.4)
other_sleep stage.Leave call v p a is w awake woken = ((as_woken call.want call.announced call.turned (has_slept call) call.blocks (is_due call) v p is.0.0 woken, awake), is.1, is.2, is.3, is.4, is.5)
other_sleep stage.Release call v p a is w awake woken = absurd (false≢true w)
other_sleep stage.LookToRemove call v p a is w awake woken = absurd (false≢true w)
other_sleep stage.Subtract call v p a is w awake woken = absurd (false≢true w)
other_sleep stage.Wake call v p a is w awake woken = absurd (false≢true w)
other_sleep stage.WakeRefused call v p a is w awake woken = absurd (false≢true w)
other_sleep stage.WakeAcquired call v p a is w awake woken = absurd (false≢true w)
other_sleep stage.Acquired call v p a is w awake woken = absurd (false≢true w)
other_sleep stage.Refused call v p a is w awake woken = absurd (false≢true w)
other_sleep stage.Ended call v p a is w awake woken = absurd (false≢true w)

sleeping_other : (call : WordCall) (v : SleepView) (p : SleepState) (a : Action) → IsAt stage.Sleep call v a → (IsTrue (is_asleep p) → p ≡ Asleep call.want)
    → IsAt stage.Sleep call (with_sleep v p) a
sleeping_other call v p a is own =
    (as_woken call.want call.announced call.turned true call.blocks (is_due call) v p is.0 (λ w. refl), is.1, is.2, is.3, own, is.5, is.6, is.7)

-- a sleep owes nothing, and is no end
pub quiet_sleep : (call : WordCall) → (debt_at (sleep_of call) ≡ debt.Nothing) × (ends (sleep_of call) ≡ false)
quiet_sleep call = by (nat_lt call.readers (2 ^ 27))
  where
    by : (b : Bool) → (debt_at (if b then action.Sleep call.loaded (class_of call.announced call.want) (is_brief call) else action.Yield) ≡ debt.Nothing)
        × (ends (if b then action.Sleep call.loaded (class_of call.announced call.want) (is_brief call) else action.Yield) ≡ false)
    by true = (refl, refl)
    by false = (refl, refl)

pub owes_at : (st : Stage) (call : WordCall) (v : SleepView) (a : Action) → IsAt st call v a → v.debt ≡ debt_at a
owes_at stage.Look call v a is = is.0.0.owes_none ∙ sym (ap debt_at is.1)
owes_at stage.Try call v a is = is.0.0.owes_none ∙ sym (ap debt_at is.2)
owes_at stage.Pause call v a is = is.0.0.owes_none ∙ by a is.1
  where
    by : (a : Action) → IsPause a → debt.Nothing ≡ debt_at a
    by action.Load h = absurd h
    by (action.Exchange x y) h = absurd h
    by (action.Sleep n c b) h = absurd h
    by (action.Subtract d) h = absurd h
    by action.WakeOne h = absurd h
    by action.WakeAll h = absurd h
    by action.WakeNext h = absurd h
    by action.WakeTurn h = absurd h
    by (action.Spin n) h = refl
    by action.Yield h = absurd h
    by (action.End b) h = absurd h
owes_at stage.Mark call v a is = is.0.0.owes_none ∙ sym (ap debt_at is.4)
owes_at stage.Sleep call v a is = is.0.owes_none ∙ sym (ap debt_at is.5 ∙ (quiet_sleep call).0)
owes_at stage.Withdraw call v a is = is.0.0.owes_none ∙ sym (ap debt_at is.4)
owes_at stage.Leave call v a is = is.0.0.owes_none ∙ sym (ap debt_at is.4)
owes_at stage.Release call v a is = is.1.1 ∙ sym (ap debt_at is.2)
owes_at stage.LookToRemove call v a is = is.1.1 ∙ sym (ap debt_at is.2)
owes_at stage.Subtract call v a is = is.1.1 ∙ sym (ap debt_at is.2)
owes_at stage.Wake call v a is = by v.debt is.1
  where
    by : (d : Debt) → IsWake d a → d ≡ debt_at a
    by debt.Nothing h = absurd h
    by debt.One h = sym (ap debt_at h)
    by debt.All h = sym (ap debt_at h)
    by debt.Next h = sym (ap debt_at h)
    by debt.Turn h = sym (ap debt_at h)
owes_at stage.WakeRefused call v a is = is.1 ∙ sym (ap debt_at is.2)
owes_at stage.WakeAcquired call v a is = is.1 ∙ sym (ap debt_at is.2)
owes_at stage.Acquired call v a is = is.0.1 ∙ sym (ap debt_at is.1)
owes_at stage.Refused call v a is = is.0.1 ∙ sym (ap debt_at is.1)
owes_at stage.Ended call v a is = is.0.1 ∙ sym (ap debt_at is.1)

-- the view of the run is that of the law, or that one woken
pub settled : (st : Stage) (call : WordCall) (you : SleepView) (a : Action) (state : SleepState) (h : Hold) → IsAt st call you a → you.held ≡ h
    → (you.sleep ≡ state) ⊎ (you.sleep ≡ Awake) → is_asleep state ≡ false → (IsTrue (is_woken state) → has_slept call ≡ true)
    → Settled you record { held = h; sleep = sleep_at st state; debt = debt_at a } st call a
settled st call you a state h is held same_or_awake awake woken = by st is
  where
    owed : (st : Stage) → IsAt st call you a → you.debt ≡ debt_at a
    owed st is = owes_at st call you a is

    done : (st : Stage) (is : IsAt st call you a) → you.sleep ≡ sleep_at st state → Settled you record { held = h; sleep = sleep_at st state; debt = debt_at a } st call a
    done st is p =
        let e = same_view you h (sleep_at st state) (debt_at a) held p (owed st is) in
        record { either = inl (sym e); at = subst (λ (v : SleepView). IsAt st call v a) e is }

    as_state : (st : Stage) (is : IsAt st call you a) → IsAt st call (with_sleep you state) a
        → Settled you record { held = h; sleep = state; debt = debt_at a } st call a
    as_state st is at =
        let e = same_view (with_sleep you state) h state (debt_at a) held refl (owed st is) in
        record {
          either =
              elim same_or_awake [
                | inl p ↦ inl (sym (same_view you h state (debt_at a) held p (owed st is)))
                | inr awake_you ↦ lifted state awake e awake_you
              ];
          at = subst (λ (v : SleepView). IsAt st call v a) e at;
        }
      where
        lifted : (p : SleepState) → is_asleep p ≡ false → with_sleep you p ≡ record { held = h; sleep = p; debt = debt_at a } → you.sleep ≡ Awake
            → (record { held = h; sleep = p; debt = debt_at a } ≡ you) ⊎ (record { held = h; sleep = p; debt = debt_at a } ≡ with_sleep you Woken)
        lifted Awake aw e y = inl (sym (same_view you h Awake (debt_at a) held y (owed st is)))
        lifted (Asleep x) aw e y = absurd (true≢false aw)
        lifted Woken aw e y = inr (sym e)

    waiting : (st : Stage) (is : IsAt st call you a) → waits_at st ≡ true → Settled you record { held = h; sleep = state; debt = debt_at a } st call a
    waiting st is w = as_state st is (other_sleep st call you state a is w awake woken)

    by : (st : Stage) → IsAt st call you a → Settled you record { held = h; sleep = sleep_at st state; debt = debt_at a } st call a
    by stage.Look is = waiting stage.Look is refl
    by stage.Try is = waiting stage.Try is refl
    by stage.Pause is = waiting stage.Pause is refl
    by stage.Mark is = waiting stage.Mark is refl
    by stage.Sleep is = as_state stage.Sleep is (sleeping_other call you state a is (λ asleep. absurd (true≢false (sym asleep ∙ awake))))
    by stage.Withdraw is = waiting stage.Withdraw is refl
    by stage.Leave is = waiting stage.Leave is refl
    by stage.Release is = done stage.Release is is.1.0
    by stage.LookToRemove is = done stage.LookToRemove is is.1.0
    by stage.Subtract is = done stage.Subtract is is.1.0
    by stage.Wake is = done stage.Wake is is.0
    by stage.WakeRefused is = done stage.WakeRefused is is.0
    by stage.WakeAcquired is = done stage.WakeAcquired is is.0
    by stage.Acquired is = done stage.Acquired is is.0.0
    by stage.Refused is = done stage.Refused is is.0.0
    by stage.Ended is = done stage.Ended is is.0.0
