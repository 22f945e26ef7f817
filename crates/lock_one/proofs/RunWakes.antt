-- The wake-ups of a run keep it.
use Rattle.std.proofs.Common.{◌≡◌, ℕ, zero, suc, Bool, true, false, if◌then◌else◌, ◌⊎◌, inl, inr, List, [], ◌∷◌, map, slice_get, slice_set, Option, Some, None, refl, sym, ap, subst, ◌∙◌}
use Rattle.std.proofs.lemmas.Bool.{true≢false, or_parts}
use Rattle.std.proofs.lemmas.Option.{same_Some}
use Rattle.lock_modes.specs.Limits.{IsLimit}
use Rattle.lock_word.specs.declared.want.ExWant.{ExWant}
use Rattle.lock_word.proofs.Rules.{changed_or_not}
use Rattle.lock_one.specs.declared.action.Action.{Action}
use Rattle.lock_one.specs.declared.action.Action.TheVariants as action
use Rattle.lock_one.specs.declared.call.WordCall.{WordCall}
use Rattle.lock_one.specs.declared.stage.Stage.{Stage}
use Rattle.lock_one.specs.declared.stage.Stage.TheVariants as stage
use Rattle.lock_one.specs.declared.sleep_view.WordLimits.{WordLimits}
use Rattle.lock_one.specs.declared.sleep_view.SleepView.{SleepView}
use Rattle.lock_one.specs.declared.sleep_view.SleepState.{SleepState}
use Rattle.lock_one.specs.declared.sleep_view.SleepState.TheVariants.{Awake, Asleep, Woken}
use Rattle.lock_one.specs.declared.sleep_view.Debt.{Debt}
use Rattle.lock_one.specs.declared.sleep_view.Debt.TheVariants as debt
use Rattle.lock_one.specs.Rule.{is_asleep, is_next, is_in_turn, woken_of, with_sleep, with_debt, wake_all, wake_of, wake_next, wake_turn}
use Rattle.lock_one.specs.Machine.{core_of, has_turn, has_sleepers, next_at, next_of}
use Rattle.lock_one.specs.Steps.{limits_of, hold_at, IsWake, IsAt, Keeps}
use Rattle.lock_one.specs.Runs.{Underway, Thread, LockInUse, views_of, limits_in, goes_on, with_thread, view_to, any_asleep, paid, wake_at, wakes_by}
use Rattle.lock_one.proofs.EachStep.{each_step}
use Rattle.lock_one.proofs.Sleeps.{sleeps_keep_the_rule}
use Rattle.lock_one.proofs.RunViews.{IsPlaced, RunKept, views_set, view_in, one_changed, same_view, asleep_for}
use Rattle.lock_one.proofs.RunActs.{goes_or_rests}

-- wake-ups of many

-- what a wake-up does to a view: nothing, or it wakes a sleeper
abbrev IsWaking : (SleepView → SleepView) → Type 0
IsWaking f = (v : SleepView) → (f v ≡ v) ⊎ ((is_asleep v.sleep ≡ true) × (f v ≡ with_sleep v Woken))

waking_all : IsWaking wake_all
waking_all v = by v.sleep refl
  where
    by : (p : SleepState) → v.sleep ≡ p → (wake_all v ≡ v) ⊎ ((is_asleep v.sleep ≡ true) × (wake_all v ≡ with_sleep v Woken))
    by Awake e = inl (rw e refl)
    by (Asleep x) e = inr (ap is_asleep e, rw e refl)
    by Woken e = inl (rw e refl)

waking_of : (test : SleepView → ExWant → Bool) → IsWaking (wake_of test)
waking_of test v = by v.sleep refl
  where
    which : (b : Bool) (x : ExWant) → v.sleep ≡ Asleep x
        → (with_sleep v (if b then Woken else Asleep x) ≡ v) ⊎ ((is_asleep v.sleep ≡ true) × (with_sleep v (if b then Woken else Asleep x) ≡ with_sleep v Woken))
    which true x e = inr (ap is_asleep e, refl)
    which false x e = inl (sym (same_view v v.held (Asleep x) v.debt refl e refl))

    by : (p : SleepState) → v.sleep ≡ p → (wake_of test v ≡ v) ⊎ ((is_asleep v.sleep ≡ true) × (wake_of test v ≡ with_sleep v Woken))
    by Awake e = inl (rw e refl)
    by (Asleep x) e =
        subst (λ p. (with_sleep v (woken_of test v p) ≡ v) ⊎ ((is_asleep v.sleep ≡ true) × (with_sleep v (woken_of test v p) ≡ with_sleep v Woken))) (sym e)
        (which (test v x) x e)
    by Woken e = inl (rw e refl)

-- a sleeper is at its sleep
woken_place : (st : Stage) (call : WordCall) (v : SleepView) (a : Action) → IsAt st call v a → is_asleep v.sleep ≡ true → IsAt st call (with_sleep v Woken) a
woken_place stage.Look call v a is h = absurd (true≢false (sym h ∙ is.0.1))
woken_place stage.Try call v a is h = absurd (true≢false (sym h ∙ is.0.1))
woken_place stage.Pause call v a is h = absurd (true≢false (sym h ∙ is.0.1))
woken_place stage.Mark call v a is h = absurd (true≢false (sym h ∙ is.0.1))
woken_place stage.Sleep call v a is h = sleeps_keep_the_rule.woken call v a is
woken_place stage.Withdraw call v a is h = absurd (true≢false (sym h ∙ is.0.1))
woken_place stage.Leave call v a is h = absurd (true≢false (sym h ∙ is.0.1))
woken_place stage.Release call v a is h = absurd (true≢false (sym h ∙ ap is_asleep is.1.0))
woken_place stage.LookToRemove call v a is h = absurd (true≢false (sym h ∙ ap is_asleep is.1.0))
woken_place stage.Subtract call v a is h = absurd (true≢false (sym h ∙ ap is_asleep is.1.0))
woken_place stage.Wake call v a is h = absurd (true≢false (sym h ∙ ap is_asleep is.0))
woken_place stage.WakeRefused call v a is h = absurd (true≢false (sym h ∙ ap is_asleep is.0))
woken_place stage.WakeAcquired call v a is h = absurd (true≢false (sym h ∙ ap is_asleep is.0))
woken_place stage.Acquired call v a is h = absurd (true≢false (sym h ∙ ap is_asleep is.0.0))
woken_place stage.Refused call v a is h = absurd (true≢false (sym h ∙ ap is_asleep is.0.0))
woken_place stage.Ended call v a is h = absurd (true≢false (sym h ∙ ap is_asleep is.0.0))

still_placed : (limits : WordLimits) (v : SleepView) (u : Option Underway) → IsPlaced limits v u → is_asleep v.sleep ≡ true → IsPlaced limits (with_sleep v Woken) u
still_placed limits v None place h = absurd (true≢false (sym h ∙ ap is_asleep place.0.0))
still_placed limits v (Some u) place h = (woken_place u.at.0.stage u.at.0 v u.at.1 place.0 h, place.1, place.2, place.3, place.4)

placed_after : (f : SleepView → SleepView) → IsWaking f → (limits : WordLimits) (v : SleepView) (u : Option Underway) → IsPlaced limits v u → IsPlaced limits (f v) u
placed_after f waking limits v u place =
    elim (waking v) [
      | inl same ↦ subst (λ w. IsPlaced limits w u) (sym same) place
      | inr woken ↦ subst (λ w. IsPlaced limits w u) (sym woken.1) (still_placed limits v u place woken.0)
    ]

pub views_map : (f : SleepView → SleepView) (ts : List Thread) → views_of (map (view_to f) ts) ≡ map f (views_of ts)
views_map f [] = refl
views_map f (t ∷ ts) = ap (λ vs. f t.view ∷ vs) (views_map f ts)

of_mapped_threads : (f : SleepView → SleepView) (ts : List Thread) (j : ℕ) (w : Thread) → slice_get (map (view_to f) ts) j ≡ Some w
    → (t : Thread) × (slice_get ts j ≡ Some t) × (w ≡ view_to f t)
of_mapped_threads f [] j w h = cc
of_mapped_threads f (t ∷ ts) zero w h = (t, refl, same_Some w (view_to f t) (sym h))
of_mapped_threads f (t ∷ ts) (suc j) w h = of_mapped_threads f ts j w h

-- the thread has made its wake-up of many
many_woken : (f : SleepView → SleepView) → IsWaking f → (s : LockInUse) (k : ℕ) (t : Thread) (u : Underway) → RunKept s
    → Keeps (limits_in s.readers) s.word (slice_set (map f (views_of s.threads)) k (with_debt (f t.view) debt.Nothing))
    → IsPlaced (limits_in s.readers) (with_debt (f t.view) debt.Nothing) (goes_on (next_of 0 u.at.0) u.before)
    → RunKept (paid (record s { threads = map (view_to f) s.threads }) k (view_to f t) u)
many_woken f waking s k t u run keeps place =
    let mine : Thread = record { view = with_debt (f t.view) debt.Nothing; underway = goes_on (next_of 0 u.at.0) u.before } in
    record {
      range = run.range;
      keeps =
          subst (λ vs. Keeps (limits_in s.readers) s.word vs)
          (sym (views_set (map (view_to f) s.threads) k mine ∙ ap (λ vs. slice_set vs k mine.view) (views_map f s.threads))) keeps;
      each = λ j w is.
          elim (changed_or_not (map (view_to f) s.threads) k j mine w is) [
            | inl e ↦ subst (λ (x : Thread). IsPlaced (limits_in s.readers) x.view x.underway) (sym e.1) place
            | inr e ↦
                (let from = of_mapped_threads f s.threads j w e.1 in
                subst (λ (x : Thread). IsPlaced (limits_in s.readers) x.view x.underway) (sym from.2)
                (placed_after f waking (limits_in s.readers) from.0.view from.0.underway (run.each j from.0 from.1)))
          ];
    }

-- wake-ups of one

nobody_asleep : (ts : List Thread) → any_asleep ts ≡ false → (j : ℕ) (v : SleepView) → slice_get (views_of ts) j ≡ Some v → is_asleep v.sleep ≡ false
nobody_asleep [] h j v is = cc
nobody_asleep (t ∷ ts) h zero v is = subst (λ (w : SleepView). is_asleep w.sleep ≡ false) (same_Some t.view v is) (or_parts (is_asleep t.view.sleep) (any_asleep ts) h).0
nobody_asleep (t ∷ ts) h (suc j) v is = nobody_asleep ts (or_parts (is_asleep t.view.sleep) (any_asleep ts) h).1 j v is

one_woken : (s : LockInUse) (k j : ℕ) (t : Thread) (u : Underway) (o : Option Thread) → slice_get s.threads k ≡ Some t → slice_get s.threads j ≡ o
    → IsAt stage.Wake u.at.0 t.view action.WakeOne → t.view.held ≡ hold_at stage.Wake u.at.0 u.before → limits_of u.at.0 ≡ limits_in s.readers → u.before.announced ≡ false
    → u.at.0.stage ≡ stage.Wake → RunKept s → RunKept (wake_at s k j t u o)
one_woken s k j t u o at at_j is held lock clean wakes run = by o at_j
  where
    range : IsLimit u.at.0.readers
    range = subst (λ (l : WordLimits). IsLimit l.readers) (sym lock) run.range

    keeps : Keeps (limits_of u.at.0) s.word (views_of s.threads)
    keeps = subst (λ l. Keeps l s.word (views_of s.threads)) (sym lock) run.keeps

    next : next_of 0 u.at.0 ≡ next_at stage.Wake 0 u.at.0
    next = ap (λ st. next_at st 0 u.at.0) wakes

    place : IsAt stage.Ended (next_at stage.Wake 0 u.at.0).0 (with_debt t.view debt.Nothing) (next_at stage.Wake 0 u.at.0).1
        → IsPlaced (limits_in s.readers) (with_debt t.view debt.Nothing) (goes_on (next_of 0 u.at.0) u.before)
    place ended =
        subst (λ n. IsPlaced (limits_in s.readers) (with_debt t.view debt.Nothing) (goes_on n u.before)) (sym next)
        (goes_or_rests (limits_in s.readers) (next_at stage.Wake 0 u.at.0) u.before (with_debt t.view debt.Nothing) ended held lock clean)

    none : (b : Bool) → any_asleep s.threads ≡ b → RunKept (if b then s else paid s k t u)
    none true e = run
    none false e =
        let done = sleeps_keep_the_rule.wakes_nobody s.word (views_of s.threads) k t.view u.at.0 range keeps (view_in s.threads k t at) is (nobody_asleep s.threads e) in
        one_changed s s.word k record { view = with_debt t.view debt.Nothing; underway = goes_on (next_of 0 u.at.0) u.before } run
        (subst (λ l. Keeps l s.word (slice_set (views_of s.threads) k (with_debt t.view debt.Nothing))) lock done.0) (place done.1)

    some : (w : Thread) → slice_get s.threads j ≡ Some w → is_asleep w.view.sleep ≡ true
        → RunKept (paid (with_thread s j (view_to (λ v. with_sleep v Woken) w)) k t u)
    some w is_w asleep =
        let for = asleep_for w.view.sleep asleep in
        let done = sleeps_keep_the_rule.wakes_one s.word (views_of s.threads) k j t.view w.view u.at.0 for.0 range keeps (view_in s.threads k t at) is
        (view_in s.threads j w is_w) for.1 in
        let x = view_to (λ v. with_sleep v Woken) w in
        let step = (each_step (limits_of u.at.0) (core_of s.word) (has_turn s.word) (has_sleepers s.word) (views_of s.threads) j w.view range keeps.kept (view_in s.threads j w is_w)).wakes in
        let mid = one_changed s s.word j x run
        (subst (λ l. Keeps l s.word (slice_set (views_of s.threads) j x.view)) lock record { small = keeps.small; kept = step })
        (still_placed (limits_in s.readers) w.view w.underway (run.each j w is_w) asleep) in
        one_changed (with_thread s j x) s.word k record { view = with_debt t.view debt.Nothing; underway = goes_on (next_of 0 u.at.0) u.before } mid
        (subst (λ vs. Keeps (limits_in s.readers) s.word (slice_set vs k (with_debt t.view debt.Nothing))) (sym (views_set s.threads j x))
        (subst (λ l. Keeps l s.word (slice_set (slice_set (views_of s.threads) j x.view) k (with_debt t.view debt.Nothing))) lock done.0))
        (place done.1)

    here : (w : Thread) → slice_get s.threads j ≡ Some w → (b : Bool) → is_asleep w.view.sleep ≡ b
        → RunKept (if b then paid (with_thread s j (view_to (λ v. with_sleep v Woken) w)) k t u else if any_asleep s.threads then s else paid s k t u)
    here w is_w true e = some w is_w e
    here w is_w false e = none (any_asleep s.threads) refl

    by : (o : Option Thread) → slice_get s.threads j ≡ o → RunKept (wake_at s k j t u o)
    by None e = none (any_asleep s.threads) refl
    by (Some w) e = here w e (is_asleep w.view.sleep) refl

-- the wake-up of a call
pub wake_kept : (s : LockInUse) (k j : ℕ) (t : Thread) (u : Underway) (a : Action) → slice_get s.threads k ≡ Some t
    → IsAt stage.Wake u.at.0 t.view a → t.view.held ≡ hold_at stage.Wake u.at.0 u.before → limits_of u.at.0 ≡ limits_in s.readers → u.before.announced ≡ false
    → u.at.0.stage ≡ stage.Wake → RunKept s → RunKept (wakes_by s k j t u a)
wake_kept s k j t u a at is held lock clean wakes run = by a is
  where
    range : IsLimit u.at.0.readers
    range = subst (λ (l : WordLimits). IsLimit l.readers) (sym lock) run.range

    keeps : Keeps (limits_of u.at.0) s.word (views_of s.threads)
    keeps = subst (λ l. Keeps l s.word (views_of s.threads)) (sym lock) run.keeps

    place : (v : SleepView) → v.held ≡ t.view.held → IsAt stage.Ended (next_at stage.Wake 0 u.at.0).0 v (next_at stage.Wake 0 u.at.0).1
        → IsPlaced (limits_in s.readers) v (goes_on (next_of 0 u.at.0) u.before)
    place v same ended =
        subst (λ n. IsPlaced (limits_in s.readers) v (goes_on n u.before)) (sym (ap (λ st. next_at st 0 u.at.0) wakes))
        (goes_or_rests (limits_in s.readers) (next_at stage.Wake 0 u.at.0) u.before v ended (same ∙ held) lock clean)

    never : (a : Action) (d : Debt) → IsWake d a → (a ≡ action.WakeOne → ⊥) → (a ≡ action.WakeAll → ⊥) → (a ≡ action.WakeNext → ⊥) → (a ≡ action.WakeTurn → ⊥) → ⊥
    never a debt.Nothing h x y z w = h
    never a debt.One h x y z w = x h
    never a debt.All h x y z w = y h
    never a debt.Next h x y z w = z h
    never a debt.Turn h x y z w = w h

    by : (a : Action) → IsAt stage.Wake u.at.0 t.view a → RunKept (wakes_by s k j t u a)
    by action.Load is = absurd (never action.Load t.view.debt is.1 (λ e. cc) (λ e. cc) (λ e. cc) (λ e. cc))
    by (action.Exchange x y) is = absurd (never (action.Exchange x y) t.view.debt is.1 (λ e. cc) (λ e. cc) (λ e. cc) (λ e. cc))
    by (action.Sleep n c b) is = absurd (never (action.Sleep n c b) t.view.debt is.1 (λ e. cc) (λ e. cc) (λ e. cc) (λ e. cc))
    by (action.Subtract d) is = absurd (never (action.Subtract d) t.view.debt is.1 (λ e. cc) (λ e. cc) (λ e. cc) (λ e. cc))
    by action.WakeOne is = one_woken s k j t u (slice_get s.threads j) at refl is held lock clean wakes run
    by action.WakeAll is =
        let done = sleeps_keep_the_rule.wakes_all s.word (views_of s.threads) k t.view u.at.0 range keeps (view_in s.threads k t at) is in
        many_woken wake_all waking_all s k t u run
        (subst (λ l. Keeps l s.word (slice_set (map wake_all (views_of s.threads)) k (with_debt (wake_all t.view) debt.Nothing))) lock done.0)
        (place (with_debt (wake_all t.view) debt.Nothing) refl done.1)
    by action.WakeNext is =
        let done = sleeps_keep_the_rule.wakes_next s.word (views_of s.threads) k t.view u.at.0 range keeps (view_in s.threads k t at) is in
        many_woken wake_next (waking_of is_next) s k t u run
        (subst (λ l. Keeps l s.word (slice_set (map wake_next (views_of s.threads)) k (with_debt (wake_next t.view) debt.Nothing))) lock done.0)
        (place (with_debt (wake_next t.view) debt.Nothing) refl done.1)
    by action.WakeTurn is =
        let done = sleeps_keep_the_rule.wakes_turn s.word (views_of s.threads) k t.view u.at.0 range keeps (view_in s.threads k t at) is in
        many_woken wake_turn (waking_of is_in_turn) s k t u run
        (subst (λ l. Keeps l s.word (slice_set (map wake_turn (views_of s.threads)) k (with_debt (wake_turn t.view) debt.Nothing))) lock done.0)
        (place (with_debt (wake_turn t.view) debt.Nothing) refl done.1)
    by (action.Spin n) is = absurd (never (action.Spin n) t.view.debt is.1 (λ e. cc) (λ e. cc) (λ e. cc) (λ e. cc))
    by action.Yield is = absurd (never action.Yield t.view.debt is.1 (λ e. cc) (λ e. cc) (λ e. cc) (λ e. cc))
    by (action.End b) is = absurd (never (action.End b) t.view.debt is.1 (λ e. cc) (λ e. cc) (λ e. cc) (λ e. cc))

pub refused_kept : (s : LockInUse) (k j : ℕ) (t : Thread) (u : Underway) → slice_get s.threads k ≡ Some t
    → IsAt stage.WakeRefused u.at.0 t.view u.at.1 → t.view.held ≡ hold_at stage.WakeRefused u.at.0 u.before → limits_of u.at.0 ≡ limits_in s.readers → u.before.announced ≡ false
    → u.at.0.stage ≡ stage.WakeRefused → RunKept s → RunKept (wakes_by s k j t u u.at.1)
refused_kept s k j t u at is held lock clean wakes run =
    let range : IsLimit u.at.0.readers = subst (λ (l : WordLimits). IsLimit l.readers) (sym lock) run.range in
    let keeps : Keeps (limits_of u.at.0) s.word (views_of s.threads) = subst (λ l. Keeps l s.word (views_of s.threads)) (sym lock) run.keeps in
    let v = with_debt (wake_all t.view) debt.Nothing in
    let done = sleeps_keep_the_rule.wakes_all_refused s.word (views_of s.threads) k t.view u.at.0 range keeps (view_in s.threads k t at) (is.0, is.1, refl) in
    subst (λ a. RunKept (wakes_by s k j t u a)) (sym is.2)
    (many_woken wake_all waking_all s k t u run
    (subst (λ l. Keeps l s.word (slice_set (map wake_all (views_of s.threads)) k v)) lock done.0)
    (subst (λ n. IsPlaced (limits_in s.readers) v (goes_on n u.before)) (sym (ap (λ st. next_at st 0 u.at.0) wakes))
    (goes_or_rests (limits_in s.readers) (next_at stage.WakeRefused 0 u.at.0) u.before v done.1 held lock clean)))

pub acquired_kept : (s : LockInUse) (k j : ℕ) (t : Thread) (u : Underway) → slice_get s.threads k ≡ Some t
    → IsAt stage.WakeAcquired u.at.0 t.view u.at.1 → t.view.held ≡ hold_at stage.WakeAcquired u.at.0 u.before → limits_of u.at.0 ≡ limits_in s.readers → u.before.announced ≡ false
    → u.at.0.stage ≡ stage.WakeAcquired → RunKept s → RunKept (wakes_by s k j t u u.at.1)
acquired_kept s k j t u at is held lock clean wakes run =
    let range : IsLimit u.at.0.readers = subst (λ (l : WordLimits). IsLimit l.readers) (sym lock) run.range in
    let keeps : Keeps (limits_of u.at.0) s.word (views_of s.threads) = subst (λ l. Keeps l s.word (views_of s.threads)) (sym lock) run.keeps in
    let v = with_debt (wake_all t.view) debt.Nothing in
    let done = sleeps_keep_the_rule.wakes_all_acquired s.word (views_of s.threads) k t.view u.at.0 range keeps (view_in s.threads k t at) (is.0, is.1, refl, is.3) in
    subst (λ a. RunKept (wakes_by s k j t u a)) (sym is.2)
    (many_woken wake_all waking_all s k t u run
    (subst (λ l. Keeps l s.word (slice_set (map wake_all (views_of s.threads)) k v)) lock done.0)
    (subst (λ n. IsPlaced (limits_in s.readers) v (goes_on n u.before)) (sym (ap (λ st. next_at st 0 u.at.0) wakes))
    (goes_or_rests (limits_in s.readers) (next_at stage.WakeAcquired 0 u.at.0) u.before v done.1 held lock clean)))
