-- A call with a bar is next.
use Rattle.std.proofs.Common.{◌≡◌, ◌≢◌, ◌⊎◌, ℕ, suc, ◌+◌, ◌-◌, ◌%◌, ◌^◌, ◌<◌, ◌≤◌, Bool, true, false, not, ◌&&◌, ◌||◌, ◌==◌, nat_lt, if◌then◌else◌, inl, inr, List, slice_get, slice_set, Some, IsTrue, refl, sym, ap, subst, ◌∙◌, arith, eqb-true, eq-eqb, ltb-true}
use Rattle.std.proofs.lemmas.Bool.{false≢true, true≢false, cases_Bool, and_parts, or_cases, or_left, false_from_ne_true}
use Rattle.std.proofs.lemmas.Option.{same_Some}
use Rattle.lock_modes.specs.declared.hold.Hold.{Hold}
use Rattle.lock_modes.specs.Limits.{IsLimit}
use Rattle.lock_modes.specs.Modes.{tokens}
use Rattle.lock_modes.specs.Holds.{hold_has, hold_after}
use Rattle.lock_word.specs.declared.want.ExWant.{ExWant}
use Rattle.lock_word.specs.declared.want.ExWant.TheVariants as want
use Rattle.lock_word.specs.declared.down.Down.{Down}
use Rattle.lock_word.specs.declared.down.Down.TheVariants as down
use Rattle.lock_word.specs.Word.{word_admits, step_of_want, step_of_down}
use Rattle.lock_word.specs.Unblocking.{is_awaited}
use Rattle.lock_word.proofs.Rules.{keeps_take}
use Rattle.lock_word.proofs.Bars.{announced_shows}
use Rattle.lock_word.proofs.Lists.{other_stays}
use Rattle.lock_word.specs.Rule.{KeepsRule}
use Rattle.lock_word.specs.Turns as turns
use Rattle.lock_one.specs.declared.action.Action.{Action}
use Rattle.lock_one.specs.declared.action.Action.TheVariants as action
use Rattle.lock_one.specs.declared.call.WordCall.{WordCall}
use Rattle.lock_one.specs.declared.stage.Stage.{Stage}
use Rattle.lock_one.specs.declared.stage.Stage.TheVariants as stage
use Rattle.lock_one.specs.declared.sleep_view.SleepView.{SleepView}
use Rattle.lock_one.specs.declared.sleep_view.Debt.{Debt}
use Rattle.lock_one.specs.declared.sleep_view.Debt.TheVariants as debt
use Rattle.lock_one.specs.declared.action.Sleeper.{Sleeper}
use Rattle.lock_one.specs.Rule.{is_asleep, is_shared, passes_turn}
use Rattle.lock_one.specs.Machine.{Progress, is_exclusive, core_of, has_turn, admits_word, drops_turn, takes_turn, won, has_sleepers, wakes_one, has_slept, is_due, is_brief, pauses_before, exchanges_before, word_marked, mark_or_sleep, marked, time_out, withdrawn, decide, goes_to, release_on, release_of, release_again, look_to_remove, subtract, wakes, refused, acquired, sleepers, next_at}
use Rattle.lock_one.specs.Steps.{made, touches, hold_at, Awaits, IsAt, is_step}
use Rattle.lock_one.specs.Runs.{Underway, Thread, LockInUse, views_of, new_lock, Act, answer, limits_in, after_act}
use Rattle.lock_one.specs.Bars.{in_use, IsLateCall, BarredCallsAreNext}
use Rattle.lock_one.proofs.Either.{of_either}
use Rattle.lock_one.proofs.EachStep.{parties_of, party_of, party_at, rule_of}
use Rattle.lock_one.proofs.RunViews.{IsPlaced, RunKept, view_in}
use Rattle.lock_one.proofs.RunSteps.{Stepped, act_holds}
use Rattle.lock_one.proofs.Runs.{acts_kept, new_kept, sleeper_in_call, barred_was_due}

-- what a step of a call leaves of its party's holds

-- the call holds what it held
abbrev pub Still : Hold → Progress → Type 0
Still before p = (hold_at p.0.stage p.0 before).bag ≡ before.bag

pub still_decided : (before : Hold) (word : ℕ) (call : WordCall) → Still before (decide word call)
still_decided before word call =
    let now : WordCall = record call { loaded = word } in
    of_either (Still before) (admits_word call.announced call.readers word call.want) _ _ refl
    (of_either (Still before) (not call.blocks) _ _ refl
    (of_either (Still before) call.late _ _
    (of_either (Still before) (call.announced || drops_turn now) _ _ refl (of_either (Still before) (wakes_one call && (has_slept call && nat_lt word sleepers)) _ _ refl refl))
    (of_either (Still before) (nat_lt call.pauses pauses_before) _ _ refl (of_either (Still before) (word_marked now == word) _ _ refl refl))))

pub fewer : (own : Hold) (d : Down) → IsTrue (hold_has own (step_of_down d)) → tokens (hold_after own (step_of_down d)).bag ≤ tokens own.bag
fewer own down.Shared has = omega arith
fewer own down.Exclusive has = omega arith
fewer own down.Upgradable has = omega arith
fewer own down.ToShared has = let some = ltb-true 0 own.bag.exclusive has in omega arith
fewer own down.ToUpgradable has = let some = ltb-true 0 own.bag.exclusive has in omega arith
fewer own down.UpgradableToShared has = let some = ltb-true 0 own.bag.upgradable has in omega arith
fewer own down.Withdraw has = omega arith

pub same_tokens : (x y : Hold) → x.bag ≡ y.bag → tokens x.bag ≤ tokens y.bag
same_tokens x y e = subst (λ b. tokens b ≤ tokens y.bag) (sym e) (omega arith)

-- at most one party has set the bar
only_one : (limit core : ℕ) (views : List SleepView) (k j : ℕ) (own other : SleepView) → IsLimit limit → KeepsRule limit core (parties_of views)
    → core < 2 ^ 35 → slice_get views k ≡ Some own → own.held.announced ≡ true → j ≢ k → slice_get views j ≡ Some other → other.held.announced ≡ false
only_one limit core views k j own other range rule small at bar apart at_j =
    false_from_ne_true other.held.announced (λ second.
    let ps = parties_of views in
    let bare = turns.after_win (party_of own) (step_of_down down.Withdraw) in
    let less = keeps_take limit core ps k (party_of own) down.Withdraw range rule (party_at views k own at) bar in
    let high = announced_shows limit (core - 2 ^ 34) (slice_set ps k bare) (suc j) less
    (party_of other, other_stays ps k j bare (party_of other) apart (party_at views j other at_j), second) in
    omega arith)

-- under the bar of another, a call acquires by an upgrade alone
pub upgrades : (own : Hold) (limit core : ℕ) (wish : ExWant) → 2 ^ 34 ≤ core → IsTrue (is_awaited wish) → IsTrue (hold_has own (step_of_want wish))
    → word_admits false limit core wish ≡ true → tokens (hold_after own (step_of_want wish)).bag ≤ tokens own.bag
upgrades own limit core want.Shared high awaited has admits =
    let low = ltb-true core (2 ^ 33) (and_parts (nat_lt core (2 ^ 33)) (nat_lt (core % 2 ^ 32) limit) admits).0 in
    absurd (omega arith)
upgrades own limit core want.Exclusive high awaited has admits =
    elim (or_cases (core == 0) (false && (core == 2 ^ 34)) admits) [
      | inl zero ↦ (let none = eqb-true core 0 zero in absurd (omega arith))
      | inr never ↦ absurd (false≢true never)
    ]
upgrades own limit core want.Upgradable high awaited has admits =
    let low = ltb-true core (2 ^ 32) (and_parts (nat_lt core (2 ^ 32)) (nat_lt (core % 2 ^ 32) limit) admits).0 in
    absurd (omega arith)
upgrades own limit core want.Upgrade high awaited has admits = let some = ltb-true 0 own.bag.upgradable has in omega arith
upgrades own limit core want.Announce high awaited has admits = absurd (false≢true awaited)

-- a step of a party without a bar, on a word with one
passes_none : (st : Stage) (call : WordCall) (v : SleepView) (a : Action) (word found : ℕ) (before : Hold) → IsAt st call v a → v.held ≡ hold_at st call before
    → is_step st ≡ true → (IsTrue (touches a) → found ≡ word) → 2 ^ 34 ≤ core_of word → v.held.announced ≡ false
    → tokens (hold_at (next_at st found call).0.stage (next_at st found call).0 before).bag ≤ tokens v.held.bag
passes_none st call v a word found before is held step reads high bare = by st is held step
  where
    still : (p : Progress) → v.held.bag ≡ before.bag → Still before p → tokens (hold_at p.0.stage p.0 before).bag ≤ tokens v.held.bag
    still p own kept = same_tokens (hold_at p.0.stage p.0 before) v.held (kept ∙ sym own)

    bag : (h : Hold) → v.held ≡ h → v.held.bag ≡ h.bag
    bag h e = ap (λ (x : Hold). x.bag) e

    -- the exchange that acquires
    has_won : IsAt stage.Try call v a → v.held ≡ record before { announced = call.announced } → (b : Bool) → (found == call.loaded) ≡ b
        → (let p : Progress = if b then won call else decide found call in tokens (hold_at p.0.stage p.0 before).bag ≤ tokens v.held.bag)
    has_won is held false e = still (decide found call) (bag (record before { announced = call.announced }) held) (still_decided before found call)
    has_won is held true e =
        let same : word ≡ call.loaded = sym (reads (ap touches is.2)) ∙ eqb-true found call.loaded e in
        let admits : word_admits false call.readers (core_of call.loaded) call.want ≡ true
        = subst (λ x. word_admits x call.readers (core_of call.loaded) call.want ≡ true) (is.0.0.bar ∙ bare)
        (and_parts (word_admits call.announced call.readers (core_of call.loaded) call.want) (not (has_turn call.loaded) || passes_turn call.announced call.want) is.1).0 in
        ends_as (takes_turn call call.loaded && has_sleepers call.loaded)
        (subst (λ h. tokens (hold_after h (step_of_want call.want)).bag ≤ tokens v.held.bag) held
        (upgrades v.held call.readers (core_of call.loaded) call.want (subst (λ n. 2 ^ 34 ≤ core_of n) same high) is.0.0.awaited is.0.0.has admits))
      where
        ends_as : (b : Bool) → tokens (hold_after (record before { announced = call.announced }) (step_of_want call.want)).bag ≤ tokens v.held.bag
            → (let p : Progress = if b then goes_to call stage.WakeAcquired action.WakeAll else acquired call in tokens (hold_at p.0.stage p.0 before).bag ≤ tokens v.held.bag)
        ends_as true few = few
        ends_as false few = few

    released : IsTrue (hold_has v.held (step_of_down call.down)) → v.held ≡ before → (d : Debt)
        → (let p = wakes d call in tokens (hold_at p.0.stage p.0 before).bag ≤ tokens v.held.bag)
    released has held debt.Nothing = subst (λ h. tokens (hold_after h (step_of_down call.down)).bag ≤ tokens v.held.bag) held (fewer v.held call.down has)
    released has held debt.One = subst (λ h. tokens (hold_after h (step_of_down call.down)).bag ≤ tokens v.held.bag) held (fewer v.held call.down has)
    released has held debt.All = subst (λ h. tokens (hold_after h (step_of_down call.down)).bag ≤ tokens v.held.bag) held (fewer v.held call.down has)
    released has held debt.Next = subst (λ h. tokens (hold_after h (step_of_down call.down)).bag ≤ tokens v.held.bag) held (fewer v.held call.down has)
    released has held debt.Turn = subst (λ h. tokens (hold_after h (step_of_down call.down)).bag ≤ tokens v.held.bag) held (fewer v.held call.down has)

    freed : IsTrue (hold_has v.held (step_of_down call.down)) → v.held ≡ before → (b : Bool)
        → (let p : Progress = if b then wakes (release_of call.readers call.loaded call.down).1 call else release_again found call in
        tokens (hold_at p.0.stage p.0 before).bag ≤ tokens v.held.bag)
    freed has held true = released has held (release_of call.readers call.loaded call.down).1
    freed has held false = still (release_again found call) (bag before held) (of_either (Still before) (nat_lt call.pauses exchanges_before) _ _ refl refl)

    by : (st : Stage) → IsAt st call v a → v.held ≡ hold_at st call before → is_step st ≡ true
        → tokens (hold_at (next_at st found call).0.stage (next_at st found call).0 before).bag ≤ tokens v.held.bag
    by stage.Look is held step = still (decide found call) (bag (record before { announced = call.announced }) held) (still_decided before found call)
    by stage.Try is held step = has_won is held (found == call.loaded) refl
    by stage.Pause is held step = still (goes_to call stage.Look action.Load) (bag (record before { announced = call.announced }) held) refl
    by stage.Mark is held step =
        still (next_at stage.Mark found call) (bag (record before { announced = call.announced }) held)
        (of_either (Still before) (found == call.loaded) (marked call) _ refl (still_decided before found call))
    by stage.Sleep is held step = absurd (false≢true step)
    by stage.Withdraw is held step =
        still (next_at stage.Withdraw found call) (bag (record before { announced = call.announced }) held)
        (of_either (Still before) (found == call.loaded) (withdrawn call) _ (of_either (Still before) (has_sleepers call.loaded && not (wakes_one call)) _ _ refl refl)
        (still_decided before found call))
    by stage.Leave is held step =
        still (next_at stage.Leave found call) (bag (record before { announced = call.announced }) held)
        (of_either (Still before) (found == call.loaded) (refused call) _ refl (still_decided before found call))
    by stage.LookToRemove is held step =
        still (look_to_remove found call) (bag before held) (of_either (Still before) (has_sleepers found) (release_on found call) (subtract call) refl refl)
    by stage.Subtract is held step = released is.0 held (release_of call.readers found call.down).1
    by stage.Release is held step = freed is.0 held (found == call.loaded)
    by stage.Wake is held step = absurd (false≢true step)
    by stage.WakeRefused is held step = absurd (false≢true step)
    by stage.WakeAcquired is held step = absurd (false≢true step)
    by stage.Acquired is held step = absurd (false≢true step)
    by stage.Refused is held step = absurd (false≢true step)
    by stage.Ended is held step = absurd (false≢true step)

-- what becomes of the bar of a call

abbrev Barred : Hold → Progress → Type 0
Barred before p = (hold_at p.0.stage p.0 before).announced ≡ true

-- a call in time keeps it
barred_decided : (before : Hold) (word : ℕ) (call : WordCall) → call.announced ≡ true → call.blocks ≡ true → (b : Bool) → call.late ≡ b
    → Barred before (decide word call) ⊎ (call.late ≡ true)
barred_decided before word call own blocks true late = inr late
barred_decided before word call own blocks false late =
    let now : WordCall = record call { loaded = word } in
    inl (of_either (Barred before) (admits_word call.announced call.readers word call.want) _ _ own
    (subst (λ b. Barred before (if not b then refused now else if call.late then time_out now else rest)) (sym blocks)
    (subst (λ b. Barred before (if b then time_out now else rest)) (sym late)
    (of_either (Barred before) (nat_lt call.pauses pauses_before) _ _ own (of_either (Barred before) (word_marked now == word) _ _ own own)))))
  where
    rest : Progress
    rest =
        let now : WordCall = record call { loaded = word } in
        if nat_lt call.pauses pauses_before then goes_to (record now { pauses = call.pauses + 1 }) stage.Pause (action.Spin (if nat_lt call.pauses 3 then call.pauses + 6 else 9)) else mark_or_sleep now

-- the bar of a party after a step of its own: it stays, or the party acquires, or its deadline has passed
abbrev Outcome : WordCall → Hold → Hold → Progress → Type 0
Outcome call own before p =
    Barred before p ⊎ ((hold_at p.0.stage p.0 before ≡ hold_after own (step_of_want want.Exclusive)) ⊎ (call.late ≡ true))

steps_barred : (st : Stage) (call : WordCall) (v : SleepView) (a : Action) (found : ℕ) (before : Hold) → IsAt st call v a → v.held ≡ hold_at st call before
    → is_step st ≡ true → before.announced ≡ false → v.held.announced ≡ true → Outcome call v.held before (next_at st found call)
steps_barred st call v a found before is held step clean bar = by st is held step
  where
    decided : Awaits call v → Outcome call v.held before (decide found call)
    decided aw =
        let own = aw.0.bar ∙ bar in
        let blocks : call.blocks ≡ true = elim (cases_Bool call.blocks) [
          | inl yes_it ↦ yes_it
          | inr never ↦ absurd (false≢true (sym (aw.0.tries never).1 ∙ own))
        ] in
        elim (barred_decided before found call own blocks call.late refl) [ inl stays ↦ inl stays | inr late ↦ inr (inr late) ]

    -- an exchange, or a decision on the word that it found
    or_decided : Awaits call v → (b : Bool) (p : Progress) → Outcome call v.held before p → Outcome call v.held before (if b then p else decide found call)
    or_decided aw true p o = o
    or_decided aw false p o = decided aw

    has_won : Awaits call v → v.held ≡ record before { announced = call.announced } → (b : Bool)
        → Outcome call v.held before (if b then goes_to call stage.WakeAcquired action.WakeAll else acquired call)
    has_won aw e true = wins call.want (aw.0.writer (aw.0.bar ∙ bar))
      where
        wins : (w : ExWant) → is_exclusive w ≡ true → Outcome call v.held before (goes_to (record call { want = w }) stage.WakeAcquired action.WakeAll)
        wins want.Shared x = absurd (false≢true x)
        wins want.Exclusive x = inr (inl (ap (λ h. hold_after h (step_of_want want.Exclusive)) (sym e)))
        wins want.Upgradable x = absurd (false≢true x)
        wins want.Upgrade x = absurd (false≢true x)
        wins want.Announce x = absurd (false≢true x)
    has_won aw e false = wins call.want (aw.0.writer (aw.0.bar ∙ bar))
      where
        wins : (w : ExWant) → is_exclusive w ≡ true → Outcome call v.held before (acquired (record call { want = w }))
        wins want.Shared x = absurd (false≢true x)
        wins want.Exclusive x = inr (inl (ap (λ h. hold_after h (step_of_want want.Exclusive)) (sym e)))
        wins want.Upgradable x = absurd (false≢true x)
        wins want.Upgrade x = absurd (false≢true x)
        wins want.Announce x = absurd (false≢true x)

    none : v.held ≡ before → ⊥
    none e = false≢true (sym clean ∙ (ap (λ (h : Hold). h.announced) (sym e) ∙ bar))

    by : (st : Stage) → IsAt st call v a → v.held ≡ hold_at st call before → is_step st ≡ true → Outcome call v.held before (next_at st found call)
    by stage.Look is held step = decided is.0
    by stage.Try is held step = or_decided is.0 (found == call.loaded) (won call) (has_won is.0 held (takes_turn call call.loaded && has_sleepers call.loaded))
    by stage.Pause is held step = inl (is.0.0.bar ∙ bar)
    by stage.Mark is held step =
        or_decided is.0 (found == call.loaded) (marked call) (inl (or_left call.announced _ (is.0.0.bar ∙ bar)))
    by stage.Sleep is held step = absurd (false≢true step)
    by stage.Withdraw is held step = or_decided is.0 (found == call.loaded) (withdrawn call) (inr (inr is.3))
    by stage.Leave is held step = absurd (false≢true (sym is.2 ∙ (is.0.0.bar ∙ bar)))
    by stage.LookToRemove is held step = absurd (none held)
    by stage.Subtract is held step = absurd (none held)
    by stage.Release is held step = absurd (none held)
    by stage.Wake is held step = absurd (false≢true step)
    by stage.WakeRefused is held step = absurd (false≢true step)
    by stage.WakeAcquired is held step = absurd (false≢true step)
    by stage.Acquired is held step = absurd (false≢true step)
    by stage.Refused is held step = absurd (false≢true step)
    by stage.Ended is held step = absurd (false≢true step)

-- the law of one act

pub read_here : (a : Action) (word given : ℕ) → IsTrue (touches a) → answer a word given ≡ word
read_here a word given reads = ap (λ b. if b then word else given) reads

passed_by_none : (s : LockInUse) (a : Act) (k j : ℕ) (own before after : Thread) → RunKept s → slice_get s.threads k ≡ Some own
    → own.view.held.announced ≡ true → j ≢ k → slice_get s.threads j ≡ Some before → slice_get (after_act s a).threads j ≡ Some after
    → tokens after.view.held.bag ≤ tokens before.view.held.bag
passed_by_none s a k j own before after run at bar apart at_j later =
    elim (act_holds s a run j before after at_j later) [
      | inl same ↦ same_tokens after.view.held before.view.held (ap (λ (h : Hold). h.bag) same)
      | inr made ↦ stepped made
    ]
  where
    stepped : Stepped s before after → tokens after.view.held.bag ≤ tokens before.view.held.bag
    stepped made =
        let u = made.underway in
        let views = views_of s.threads in
        let core = core_of s.word in
        let kept = run.keeps.kept in
        let rule = rule_of s.readers core views kept.coded kept.legal in
        let small : core < 2 ^ 35 = omega arith in
        let place : IsPlaced (limits_in s.readers) before.view (Some u) = subst (λ o. IsPlaced (limits_in s.readers) before.view o) made.calls (run.each j before at_j) in
        let high : 2 ^ 34 ≤ core = announced_shows s.readers core (parties_of views) (suc k) rule (party_of own.view, party_at views k own.view (view_in s.threads k own at), bar) in
        let bare = only_one s.readers core views k j own.view before.view run.range rule small (view_in s.threads k own at) bar apart (view_in s.threads j before at_j) in
        subst (λ (h : Hold). tokens h.bag ≤ tokens before.view.held.bag) (sym made.held)
        (passes_none u.at.0.stage u.at.0 before.view u.at.1 s.word (answer u.at.1 s.word made.given) u.before place.0 place.1 made.stepping
        (read_here u.at.1 s.word made.given) high bare)

keeps_its_bar : (s : LockInUse) (a : Act) (k : ℕ) (own after : Thread) → RunKept s → slice_get s.threads k ≡ Some own
    → own.view.held.announced ≡ true → slice_get (after_act s a).threads k ≡ Some after
    → (after.view.held.announced ≡ true) ⊎ ((after.view.held ≡ hold_after own.view.held (step_of_want want.Exclusive)) ⊎ IsLateCall own)
keeps_its_bar s a k own after run at bar later =
    elim (act_holds s a run k own after at later) [
      | inl same ↦ inl (ap (λ (h : Hold). h.announced) same ∙ bar)
      | inr made ↦ stepped made
    ]
  where
    stepped : Stepped s own after → (after.view.held.announced ≡ true) ⊎ ((after.view.held ≡ hold_after own.view.held (step_of_want want.Exclusive)) ⊎ IsLateCall own)
    stepped made =
        let u = made.underway in
        let place : IsPlaced (limits_in s.readers) own.view (Some u) = subst (λ o. IsPlaced (limits_in s.readers) own.view o) made.calls (run.each k own at) in
        elim (steps_barred u.at.0.stage u.at.0 own.view u.at.1 (answer u.at.1 s.word made.given) u.before place.0 place.1 made.stepping place.4 bar) [
          | inl stays ↦ inl (ap (λ (h : Hold). h.announced) made.held ∙ stays)
          | inr other ↦
              inr (elim other [
                | inl won ↦ inl (made.held ∙ won)
                | inr late ↦ inr record { underway = u; calls = made.calls; late = late }
              ])
        ]

-- the sleeps of a call

abbrev Counts : ℕ → Progress → Type 0
Counts n p = p.0.sleeps ≡ n

counts_decided : (word : ℕ) (call : WordCall) → Counts call.sleeps (decide word call)
counts_decided word call =
    let n = call.sleeps in
    let now : WordCall = record call { loaded = word } in
    of_either (Counts n) (admits_word call.announced call.readers word call.want) _ _ refl
    (of_either (Counts n) (not call.blocks) _ _ refl
    (of_either (Counts n) call.late _ _
    (of_either (Counts n) (call.announced || drops_turn now) _ _ refl (of_either (Counts n) (wakes_one call && (has_slept call && nat_lt word sleepers)) _ _ refl refl))
    (of_either (Counts n) (nat_lt call.pauses pauses_before) _ _ refl (of_either (Counts n) (word_marked now == word) _ _ refl refl))))

counts_woken : (d : Debt) (call : WordCall) → Counts call.sleeps (wakes d call)
counts_woken debt.Nothing call = refl
counts_woken debt.One call = refl
counts_woken debt.All call = refl
counts_woken debt.Next call = refl
counts_woken debt.Turn call = refl

counts_next : (st : Stage) (found : ℕ) (call : WordCall) → (st ≡ stage.Sleep → ⊥) → Counts call.sleeps (next_at st found call)
counts_next stage.Look found call other = counts_decided found call
counts_next stage.Try found call other = of_either (Counts call.sleeps) (found == call.loaded) (won call) _
    (of_either (Counts call.sleeps) (takes_turn call call.loaded && has_sleepers call.loaded) _ _ refl refl) (counts_decided found call)
counts_next stage.Pause found call other = refl
counts_next stage.Mark found call other = of_either (Counts call.sleeps) (found == call.loaded) (marked call) _ refl (counts_decided found call)
counts_next stage.Sleep found call other = absurd (other refl)
counts_next stage.Withdraw found call other =
    of_either (Counts call.sleeps) (found == call.loaded) (withdrawn call) _
    (of_either (Counts call.sleeps) (has_sleepers call.loaded && not (wakes_one call)) _ _ refl refl) (counts_decided found call)
counts_next stage.Leave found call other = of_either (Counts call.sleeps) (found == call.loaded) (refused call) _ refl (counts_decided found call)
counts_next stage.LookToRemove found call other = of_either (Counts call.sleeps) (has_sleepers found) (release_on found call) (subtract call) refl refl
counts_next stage.Subtract found call other = counts_woken (release_of call.readers found call.down).1 call
counts_next stage.Release found call other =
    of_either (Counts call.sleeps) (found == call.loaded) _ (release_again found call) (counts_woken (release_of call.readers call.loaded call.down).1 call)
    (of_either (Counts call.sleeps) (nat_lt call.pauses exchanges_before) _ (subtract call) refl refl)
counts_next stage.Wake found call other = refl
counts_next stage.WakeRefused found call other = refl
counts_next stage.WakeAcquired found call other = refl
counts_next stage.Acquired found call other = refl
counts_next stage.Refused found call other = refl
counts_next stage.Ended found call other = refl

-- a call of a mutex is due once it has slept four times
due_of : (call : WordCall) → (call.readers ≡ 1 → call.sleeps ≡ 4) → is_due call ≡ true
due_of call slept = by (call.readers == 1) refl
  where
    by : (b : Bool) → (call.readers == 1) ≡ b → (not b || (call.sleeps == 4)) ≡ true
    by true one = eq-eqb call.sleeps 4 (slept (eqb-true call.readers 1 one))
    by false many = refl

slept_of : (call : WordCall) → is_due call ≡ true → call.readers ≡ 1 → call.sleeps ≡ 4
slept_of call due one =
    eqb-true call.sleeps 4 (sym (ap (λ b. not b || (call.sleeps == 4)) (eq-eqb call.readers 1 one)) ∙ due)

pub kept_in : (readers : ℕ) (acts : List Act) → IsLimit readers → RunKept (in_use readers acts)
kept_in readers acts range = acts_kept (new_lock readers) acts (new_kept readers range)

asleep_under_a_bar : (s : LockInUse) (k : ℕ) (t : Thread) (u : Underway) (number : ℕ) (class : Sleeper) (brief : Bool) → RunKept s
    → slice_get s.threads k ≡ Some t → t.underway ≡ Some u → is_asleep t.view.sleep ≡ true
    → u.at.0.announces ≡ true → u.at.0.want ≡ want.Exclusive → (u.at.0.readers ≡ 1 → u.at.0.sleeps ≡ 4)
    → u.at.1 ≡ action.Sleep number class brief → 2 ^ 34 ≤ number % sleepers
asleep_under_a_bar s k t u number class brief run at calls asleep announces wish slept asks =
    let own = sleeper_in_call s run k t at asleep in
    let same : u ≡ own.underway = same_Some u own.underway (sym calls ∙ own.calls) in
    let barred = subst (λ (x : Underway). x.at.0.announces ≡ true → is_exclusive x.at.0.want ≡ true → is_due x.at.0 ≡ true → 2 ^ 34 ≤ x.at.0.loaded % sleepers) (sym same) own.barred in
    let high = barred announces (ap is_exclusive wish) (due_of u.at.0 slept) in
    let number_is : number ≡ u.at.0.loaded
    = (own.sleeps_on number class brief (ap (λ (x : Underway). x.at.1) (sym same) ∙ asks)).0 ∙ ap (λ (x : Underway). x.at.0.loaded) (sym same) in
    subst (λ n. 2 ^ 34 ≤ n % sleepers) (sym number_is) high

-- a brief sleep in a mutex
brief_of : (call : WordCall) → is_brief call ≡ true → call.readers ≡ 1 → (call.sleeps ≢ 0) × (call.loaded % sleepers < 2 ^ 34)
brief_of call brief one =
    let low = nat_lt (call.loaded % sleepers) (2 ^ 34) in
    let own = has_slept call && (call.announces && (is_exclusive call.want && low)) in
    let other = is_shared call.want && not (has_turn call.loaded) in
    let parts = and_parts (nat_lt call.sleeps 4) (if wakes_one call then own else other) brief in
    let is_own : own ≡ true = sym (ap (λ b. if b then own else other) (eq-eqb call.readers 1 one)) ∙ parts.1 in
    let slept = and_parts (has_slept call) (call.announces && (is_exclusive call.want && low)) is_own in
    let writes = and_parts call.announces (is_exclusive call.want && low) slept.1 in
    let open_ = and_parts (is_exclusive call.want) low writes.1 in
    (λ none. true≢false (sym slept.0 ∙ ap not (eq-eqb call.sleeps 0 none)), ltb-true (call.loaded % sleepers) (2 ^ 34) open_.1)

brief_in_a_mutex : (s : LockInUse) (k : ℕ) (t : Thread) (u : Underway) (number : ℕ) (class : Sleeper) → RunKept s
    → slice_get s.threads k ≡ Some t → t.underway ≡ Some u → is_asleep t.view.sleep ≡ true → u.at.0.readers ≡ 1
    → u.at.1 ≡ action.Sleep number class true → (u.at.0.sleeps ≢ 0) × (number % sleepers < 2 ^ 34)
brief_in_a_mutex s k t u number class run at calls asleep one asks =
    let own = sleeper_in_call s run k t at asleep in
    let same : u ≡ own.underway = same_Some u own.underway (sym calls ∙ own.calls) in
    let alike = own.sleeps_on number class true (ap (λ (x : Underway). x.at.1) (sym same) ∙ asks) in
    let found = brief_of u.at.0 (ap (λ (x : Underway). is_brief x.at.0) same ∙ sym alike.2) one in
    let number_is : number ≡ u.at.0.loaded = alike.0 ∙ ap (λ (x : Underway). x.at.0.loaded) (sym same) in
    (found.0, subst (λ n. n % sleepers < 2 ^ 34) (sym number_is) found.1)

pub barred_calls_are_next : BarredCallsAreNext
barred_calls_are_next =
    record {
      nobody_passes = λ readers acts a k j own before after range. passed_by_none (in_use readers acts) a k j own before after (kept_in readers acts range);
      bar_stays = λ readers acts a k own after range. keeps_its_bar (in_use readers acts) a k own after (kept_in readers acts range);
      sleeps_under_a_bar = λ readers acts k t u number class brief range. asleep_under_a_bar (in_use readers acts) k t u number class brief (kept_in readers acts range);
      patient = λ readers acts k t u range at calls own one.
          slept_of u.at.0 (barred_was_due (in_use readers acts) (kept_in readers acts range) k t u at calls own) one;
      brief_after_a_sleep = λ readers acts k t u number class range. brief_in_a_mutex (in_use readers acts) k t u number class (kept_in readers acts range);
      begins = λ readers wish blocks announces. refl;
      counts = λ found call at. ap (λ (st : Stage). (next_at st found call).0.sleeps) at;
      counts_no_other = λ found call other. counts_next call.stage found call other;
    }
