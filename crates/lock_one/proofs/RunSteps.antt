-- What an act of a run does: one thread makes a step on the word, or no word changes and no thread's holds.
use Rattle.std.proofs.Common.{◌≡◌, ◌⊎◌, ℕ, Bool, true, false, not, ◌&&◌, ◌==◌, if◌then◌else◌, inl, inr, List, map, slice_get, slice_set, Option, Some, None, refl, sym, ap, subst, ◌∙◌}
use Rattle.std.proofs.lemmas.Bool.{true≢false}
use Rattle.std.proofs.lemmas.Option.{same_Some, slice_get-map}
use Rattle.lock_modes.specs.declared.hold.Hold.{Hold}
use Rattle.lock_word.proofs.Rules.{changed_or_not, slice_set_same}
use Rattle.lock_word.proofs.Lists.{in_longer}
use Rattle.lock_one.specs.declared.action.Action.{Action}
use Rattle.lock_one.specs.declared.action.Action.TheVariants as action
use Rattle.lock_one.specs.declared.stage.Stage.{Stage}
use Rattle.lock_one.specs.declared.stage.Stage.TheVariants as stage
use Rattle.lock_one.specs.declared.sleep_view.SleepView.{SleepView}
use Rattle.lock_one.specs.declared.sleep_view.SleepState.TheVariants.{Asleep, Woken}
use Rattle.lock_one.specs.Rule.{holds_of, is_asleep, with_sleep, wake_all, wake_next, wake_turn}
use Rattle.lock_one.specs.Machine.{acquiring, taking, next_at, next_of}
use Rattle.lock_one.specs.Steps.{made, ends, hold_at, IsAt, is_step}
use Rattle.lock_one.specs.Runs.{Underway, Thread, LockInUse, views_of, new_thread, Act, join, acquires, releases, steps, begins, may_acquire, may_release, thread_after, with_thread, view_to, any_asleep, answer, finds, goes_on, limits_in, steps_by, sleeps_by, paid, wake_at, wakes_by, step_at, step_in, step_by, acquire_by, release_by, after_act}
use Rattle.lock_one.proofs.EachStep.{holds_of-set, mapped_holds}
use Rattle.lock_one.proofs.RunViews.{IsPlaced, RunKept, views_set, view_in}
use Rattle.lock_one.proofs.RunWakes.{views_map}

-- what all threads hold after an act

abbrev pub held_in : List Thread → List Hold
held_in threads = holds_of (views_of threads)

pub held_at : (ts : List Thread) (k : ℕ) (t : Thread) → slice_get ts k ≡ Some t → slice_get (held_in ts) k ≡ Some t.view.held
held_at ts k t at = rw (slice_get-map (λ (v : SleepView). v.held) (views_of ts) k, view_in ts k t at)

set_same : (ts : List Thread) (k : ℕ) (x : Thread) → slice_get (held_in ts) k ≡ Some x.view.held → held_in (slice_set ts k x) ≡ held_in ts
set_same ts k x at =
    ap (λ vs. holds_of vs) (views_set ts k x) ∙ (holds_of-set (views_of ts) k x.view ∙ slice_set_same (held_in ts) k x.view.held at)

-- the thread holds the same
pub same_at : (ts us : List Thread) → held_in us ≡ held_in ts → (j : ℕ) (before after : Thread) → slice_get ts j ≡ Some before → slice_get us j ≡ Some after
    → after.view.held ≡ before.view.held
same_at ts us same j before after at later =
    same_Some after.view.held before.view.held (sym (held_at us j after later) ∙ (ap (λ hs. slice_get hs j) same ∙ held_at ts j before at))

pub woken_many : (f : SleepView → SleepView) → ((v : SleepView) → (f v).held ≡ v.held) → (ts : List Thread) → held_in (map (view_to f) ts) ≡ held_in ts
woken_many f same ts = ap (λ vs. holds_of vs) (views_map f ts) ∙ mapped_holds f (views_of ts) same

-- no word has changed, and no thread's holds
abbrev pub Quiet : LockInUse → LockInUse → Type 0
Quiet s after = (after.word ≡ s.word) × (held_in after.threads ≡ held_in s.threads)

-- the wake-ups
wakes_quietly : (s : LockInUse) (k j : ℕ) (t : Thread) (u : Underway) (a : Action) → slice_get s.threads k ≡ Some t → Quiet s (wakes_by s k j t u a)
wakes_quietly s k j t u a at = by a
  where
    pays : (ts : List Thread) (x : Thread) → held_in ts ≡ held_in s.threads → x.view.held ≡ t.view.held → held_in (slice_set ts k x) ≡ held_in s.threads
    pays ts x same own =
        set_same ts k x (ap (λ hs. slice_get hs k) same ∙ (held_at s.threads k t at ∙ ap (λ h. Some h) (sym own))) ∙ same

    none : (b : Bool) → Quiet s (if b then s else paid s k t u)
    none true = (refl, refl)
    none false = (refl, pays s.threads _ refl refl)

    one : (o : Option Thread) → slice_get s.threads j ≡ o → Quiet s (wake_at s k j t u o)
    one None e = none (any_asleep s.threads)
    one (Some w) e = some (is_asleep w.view.sleep)
      where
        some : (b : Bool) → Quiet s (if b then paid (with_thread s j (view_to (λ v. with_sleep v Woken) w)) k t u else if any_asleep s.threads then s else paid s k t u)
        some true = (refl, pays (slice_set s.threads j (view_to (λ v. with_sleep v Woken) w)) _ (set_same s.threads j (view_to (λ v. with_sleep v Woken) w) (held_at s.threads j w e)) refl)
        some false = none (any_asleep s.threads)

    by : (a : Action) → Quiet s (wakes_by s k j t u a)
    by action.WakeAll = (refl, pays (map (view_to wake_all) s.threads) _ (woken_many wake_all (λ v. refl) s.threads) refl)
    by action.WakeNext = (refl, pays (map (view_to wake_next) s.threads) _ (woken_many wake_next (λ v. refl) s.threads) refl)
    by action.WakeTurn = (refl, pays (map (view_to wake_turn) s.threads) _ (woken_many wake_turn (λ v. refl) s.threads) refl)
    by action.WakeOne = one (slice_get s.threads j) refl
    by action.Load = one (slice_get s.threads j) refl
    by (action.Exchange x y) = one (slice_get s.threads j) refl
    by (action.Subtract d) = one (slice_get s.threads j) refl
    by (action.Sleep n c b) = one (slice_get s.threads j) refl
    by (action.Spin n) = one (slice_get s.threads j) refl
    by action.Yield = one (slice_get s.threads j) refl
    by (action.End b) = one (slice_get s.threads j) refl

sleeps_quietly : (s : LockInUse) (k given : ℕ) (t : Thread) (u : Underway) → slice_get s.threads k ≡ Some t → Quiet s (sleeps_by s k given t u)
sleeps_quietly s k given t u at = by ((given == 0) && (finds u.at.1 s.word && not (is_asleep t.view.sleep)))
  where
    by : (b : Bool) → Quiet s (if b then with_thread s k (record t { view = with_sleep t.view (Asleep u.at.0.want) })
        else with_thread s k record { view = with_sleep t.view Woken; underway = goes_on (next_at stage.Sleep given u.at.0) u.before })
    by true = (refl, set_same s.threads k _ (held_at s.threads k t at))
    by false = (refl, set_same s.threads k _ (held_at s.threads k t at))

-- the act is a step on the word by a thread
pub record MadeBy (s after : LockInUse) (a : Act) : Type 0 where
  pub number : ℕ
  pub given : ℕ
  pub other : ℕ
  pub act : a ≡ steps number given other
  pub own : Thread
  pub underway : Underway
  pub at : slice_get s.threads number ≡ Some own
  pub calls : own.underway ≡ Some underway
  pub stepping : is_step underway.at.0.stage ≡ true
  pub is : after ≡ steps_by s number given own underway

-- the thread after its step
abbrev pub thread_made : (s after : LockInUse) (a : Act) → MadeBy s after a → Thread
thread_made s after a made =
    thread_after (next_of (answer made.underway.at.1 s.word made.given) made.underway.at.0) made.own.view.sleep made.underway.before

step_makes : (s : LockInUse) (k given j : ℕ) (t : Thread) (o : Option Underway) → slice_get s.threads k ≡ Some t → t.underway ≡ o
    → IsPlaced (limits_in s.readers) t.view o → Quiet s (step_in s k given j t o) ⊎ MadeBy s (step_in s k given j t o) (steps k given j)
step_makes s k given j t None at calls place = inl (refl, refl)
step_makes s k given j t (Some u) at calls place = at_stage u.at.0.stage refl place.0
  where
    has_ended : (b : Bool) → u.at.1 ≡ action.End b → Quiet s (steps_by s k given t u) ⊎ MadeBy s (steps_by s k given t u) (steps k given j)
    has_ended b end = absurd (true≢false (sym (ap ends end) ∙ place.3))

    makes_step : is_step u.at.0.stage ≡ true → Quiet s (steps_by s k given t u) ⊎ MadeBy s (steps_by s k given t u) (steps k given j)
    makes_step stepping = inr record { number = k; given = given; other = j; act = refl; own = t; underway = u; at = at; calls = calls; stepping = stepping; is = refl }

    at_stage : (st : Stage) → u.at.0.stage ≡ st → IsAt st u.at.0 t.view u.at.1 → Quiet s (step_at st s k given j t u) ⊎ MadeBy s (step_at st s k given j t u) (steps k given j)
    at_stage stage.Look e is = makes_step (ap is_step e)
    at_stage stage.Try e is = makes_step (ap is_step e)
    at_stage stage.Pause e is = makes_step (ap is_step e)
    at_stage stage.Mark e is = makes_step (ap is_step e)
    at_stage stage.Sleep e is = inl (sleeps_quietly s k given t u at)
    at_stage stage.Withdraw e is = makes_step (ap is_step e)
    at_stage stage.Leave e is = makes_step (ap is_step e)
    at_stage stage.LookToRemove e is = makes_step (ap is_step e)
    at_stage stage.Subtract e is = makes_step (ap is_step e)
    at_stage stage.Release e is = makes_step (ap is_step e)
    at_stage stage.Wake e is = inl (wakes_quietly s k j t u u.at.1 at)
    at_stage stage.WakeRefused e is = inl (wakes_quietly s k j t u u.at.1 at)
    at_stage stage.WakeAcquired e is = inl (wakes_quietly s k j t u u.at.1 at)
    at_stage stage.Acquired e is = has_ended true is.1
    at_stage stage.Refused e is = has_ended false is.1
    at_stage stage.Ended e is = has_ended true is.1

-- what a step of a thread does
pub act_makes : (s : LockInUse) (k given i : ℕ) → RunKept s → Quiet s (after_act s (steps k given i)) ⊎ MadeBy s (after_act s (steps k given i)) (steps k given i)
act_makes s k given i run = by (slice_get s.threads k) refl
  where
    by : (o : Option Thread) → slice_get s.threads k ≡ o → Quiet s (step_by s k given i o) ⊎ MadeBy s (step_by s k given i o) (steps k given i)
    by None e = inl (refl, refl)
    by (Some t) e = step_makes s k given i t t.underway e refl (run.each k t e)

-- the threads hold what they held, and the word is the same
abbrev pub Unmoved : LockInUse → LockInUse → Type 0
Unmoved s after =
    (after.word ≡ s.word)
    × ((j : ℕ) (t later : Thread) → slice_get s.threads j ≡ Some t → slice_get after.threads j ≡ Some later → later.view.held ≡ t.view.held)

unmoved : (s after : LockInUse) → Quiet s after → Unmoved s after
unmoved s after quiet = (quiet.0, λ j t later at is. same_at s.threads after.threads quiet.1 j t later at is)

-- what an act does
pub act_moves : (s : LockInUse) (a : Act) → RunKept s → Unmoved s (after_act s a) ⊎ MadeBy s (after_act s a) a
act_moves s join run =
    inl (refl, λ j t later at is. ap (λ (x : Thread). x.view.held) (same_Some later t (sym is ∙ in_longer s.threads new_thread t j at)))
act_moves s (acquires k want blocks announces) run = inl (unmoved s (after_act s (acquires k want blocks announces)) (by (slice_get s.threads k) refl))
  where
    begun_by : (t : Thread) → slice_get s.threads k ≡ Some t → (b : Bool) → Quiet s (if b then with_thread s k (begins t (acquiring s.readers want blocks announces)) else s)
    begun_by t at true = (refl, set_same s.threads k _ (held_at s.threads k t at))
    begun_by t at false = (refl, refl)

    by : (o : Option Thread) → slice_get s.threads k ≡ o → Quiet s (acquire_by s k want blocks announces o)
    by None e = (refl, refl)
    by (Some t) e = begun_by t e (may_acquire t want)
act_moves s (releases k d) run = inl (unmoved s (after_act s (releases k d)) (by (slice_get s.threads k) refl))
  where
    begun_by : (t : Thread) → slice_get s.threads k ≡ Some t → (b : Bool) → Quiet s (if b then with_thread s k (begins t (taking s.readers d)) else s)
    begun_by t at true = (refl, set_same s.threads k _ (held_at s.threads k t at))
    begun_by t at false = (refl, refl)

    by : (o : Option Thread) → slice_get s.threads k ≡ o → Quiet s (release_by s k d o)
    by None e = (refl, refl)
    by (Some t) e = begun_by t e (may_release t d)
act_moves s (steps k given i) run =
    elim (act_makes s k given i run) [
      | inl quiet ↦ inl (unmoved s (after_act s (steps k given i)) quiet)
      | inr made ↦ inr made
    ]

-- a thread after an act holds what it held, or it has made a step
pub record Stepped (s : LockInUse) (before after : Thread) : Type 0 where
  pub underway : Underway
  pub given : ℕ
  pub calls : before.underway ≡ Some underway
  pub stepping : is_step underway.at.0.stage ≡ true
  pub held : after.view.held ≡ hold_at (next_of (answer underway.at.1 s.word given) underway.at.0).0.stage (next_of (answer underway.at.1 s.word given) underway.at.0).0 underway.before

-- of a thread after a step of one: it is that one, or the same as before
pub of_made : (s after : LockInUse) (a : Act) (made : MadeBy s after a) (j : ℕ) (t later : Thread) → slice_get s.threads j ≡ Some t → slice_get after.threads j ≡ Some later
    → ((t ≡ made.own) × (later ≡ thread_made s after a made)) ⊎ (later ≡ t)
of_made s after a made j t later at is =
    elim (changed_or_not s.threads made.number j (thread_made s after a made) later (subst (λ (x : LockInUse). slice_get x.threads j ≡ Some later) made.is is)) [
      | inl e ↦ inl (same_Some t made.own (sym at ∙ (ap (λ n. slice_get s.threads n) e.0 ∙ made.at)), e.1)
      | inr e ↦ inr (same_Some later t (sym e.1 ∙ at))
    ]

pub act_holds : (s : LockInUse) (a : Act) → RunKept s → (j : ℕ) (before after : Thread) → slice_get s.threads j ≡ Some before → slice_get (after_act s a).threads j ≡ Some after
    → (after.view.held ≡ before.view.held) ⊎ Stepped s before after
act_holds s a run j before after at later =
    elim (act_moves s a run) [
      | inl same ↦ inl (same.1 j before after at later)
      | inr made ↦
          elim (of_made s (after_act s a) a made j before after at later) [
            | inr same ↦ inl (ap (λ (x : Thread). x.view.held) same)
            | inl is ↦ inr record {
              underway = made.underway;
              given = made.given;
              calls = ap (λ (x : Thread). x.underway) is.0 ∙ made.calls;
              stepping = made.stepping;
              held = ap (λ (x : Thread). x.view.held) is.1;
            }
          ]
    ]
