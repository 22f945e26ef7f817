-- What the answer of a call means.
use Rattle.std.proofs.Common.{◌≡◌, ◌≢◌, ℕ, ◌-◌, ◌%◌, ◌^◌, ◌<◌, Bool, true, false, not, ◌&&◌, ◌||◌, ◌==◌, nat_lt, if◌then◌else◌, ◌⊎◌, inl, inr, refl, sym, ap, ◌∙◌, arith, lt-ltb, eq-eqb}
use Rattle.std.proofs.lemmas.Bool.{false≢true, true≢false}
use Rattle.lock_modes.specs.declared.hold.Hold.{Hold}
use Rattle.lock_modes.specs.Holds.{hold_after}
use Rattle.lock_word.specs.declared.want.ExWant.{ExWant}
use Rattle.lock_word.specs.declared.want.ExWant.TheVariants as want
use Rattle.lock_word.specs.declared.down.Down.{Down}
use Rattle.lock_word.specs.declared.down.Down.TheVariants as down
use Rattle.lock_word.specs.Word.{word_admits, word_after, amount, step_of_want, step_of_down}
use Rattle.lock_one.specs.declared.action.Action.TheVariants as action
use Rattle.lock_one.specs.declared.call.WordCall.{WordCall}
use Rattle.lock_one.specs.declared.stage.Stage.{Stage}
use Rattle.lock_one.specs.declared.stage.Stage.TheVariants as stage
use Rattle.lock_one.specs.declared.sleep_view.SleepView.{SleepView}
use Rattle.lock_one.specs.declared.sleep_view.Debt.{Debt}
use Rattle.lock_one.specs.declared.sleep_view.Debt.TheVariants as debt
use Rattle.lock_one.specs.Rule.{is_shared, passes_turn}
use Rattle.lock_one.specs.Machine.{wakes_one, has_slept, drops_turn, pauses_before, exchanges_before, word_marked, marked, withdrawn, refused, release_of, release_again, core_of, turn, has_turn, has_sleepers, sleepers, with_turn, with_sleepers, admits_word, class_of, is_brief, takes_turn, won, under_bar, Progress, acquired, after_try, decide, wait, goes_to, acquiring, begun, removes_reader, alone, frees_word, release_on, subtract, taking, wakes, next_at, next_of}
use Rattle.lock_one.specs.Steps.{IsAt, IsWake, hold_at}
use Rattle.lock_one.specs.Answers.{releases_at, AnswersMatchHolds, FirstSteps}
use Rattle.lock_one.proofs.Either.{of_either}

-- only these stages end a call
pub ends_not : (st : Stage) (call : WordCall) (v : SleepView) (b : Bool) → IsAt st call v (action.End b)
    → ((st ≡ stage.Acquired) × (b ≡ true)) ⊎ (((st ≡ stage.Refused) × (b ≡ false)) ⊎ ((st ≡ stage.Ended) × (b ≡ true)))
ends_not stage.Look call v b is = let e = is.1 in cc
ends_not stage.Try call v b is = let e = is.2 in cc
ends_not stage.Pause call v b is = absurd is.1
ends_not stage.Mark call v b is = let e = is.4 in cc
ends_not stage.Sleep call v b is = by (nat_lt call.readers (2 ^ 27)) is.5
  where
    by : (c : Bool) → action.End b ≡ (if c then action.Sleep call.loaded (class_of call.announced call.want) (is_brief call) else action.Yield)
        → ((stage.Sleep ≡ stage.Acquired) × (b ≡ true)) ⊎ (((stage.Sleep ≡ stage.Refused) × (b ≡ false)) ⊎ ((stage.Sleep ≡ stage.Ended) × (b ≡ true)))
    by true e = cc
    by false e = cc
ends_not stage.Withdraw call v b is = let e = is.4 in cc
ends_not stage.Leave call v b is = let e = is.4 in cc
ends_not stage.LookToRemove call v b is = let e = is.2 in cc
ends_not stage.Subtract call v b is = let e = is.2 in cc
ends_not stage.Release call v b is = let e = is.2 in cc
ends_not stage.Wake call v b is = by v.debt is.1
  where
    by : (d : Debt) → IsWake d (action.End b)
        → ((stage.Wake ≡ stage.Acquired) × (b ≡ true)) ⊎ (((stage.Wake ≡ stage.Refused) × (b ≡ false)) ⊎ ((stage.Wake ≡ stage.Ended) × (b ≡ true)))
    by debt.Nothing e = absurd e
    by debt.One e = cc
    by debt.All e = cc
    by debt.Next e = cc
    by debt.Turn e = cc
ends_not stage.WakeRefused call v b is = let e = is.2 in cc
ends_not stage.WakeAcquired call v b is = let e = is.2 in cc
ends_not stage.Acquired call v b is = let e = is.1 in inl (refl, cc)
ends_not stage.Refused call v b is = let e = is.1 in inr (inl (refl, cc))
ends_not stage.Ended call v b is = let e = is.1 in inr (inr (refl, cc))

as_before : (before : Hold) → before.announced ≡ false → record before { announced = false } ≡ before
as_before before clean = ap (λ (a : Bool). let h : Hold = record { bag = before.bag; announced = a } in h) (sym clean)

refused_holds : (call : WordCall) (v : SleepView) (before : Hold) → before.announced ≡ false
    → IsAt call.stage call v (action.End false) → v.held ≡ hold_at call.stage call before → v.held ≡ before
refused_holds call v before clean is held =
    elim (ends_not call.stage call v false is) [
      | inl acquired ↦ absurd (false≢true acquired.1)
      | inr other ↦
          elim other [
            | inl refused ↦ held ∙ (ap (λ st. hold_at st call before) refused.0 ∙ as_before before clean)
            | inr ended ↦ absurd (false≢true ended.1)
          ]
    ]

acquired_holds : (call : WordCall) (v : SleepView) (before : Hold) → releases_at call.stage ≡ false → IsAt call.stage call v (action.End true)
    → v.held ≡ hold_at call.stage call before → v.held ≡ hold_after (record before { announced = call.announced }) (step_of_want call.want)
acquired_holds call v before acquires is held =
    elim (ends_not call.stage call v true is) [
      | inl acquired ↦ held ∙ ap (λ st. hold_at st call before) acquired.0
      | inr other ↦
          elim other [
            | inl refused ↦ absurd (true≢false refused.1)
            | inr ended ↦ absurd (true≢false (sym (ap releases_at ended.0) ∙ acquires))
          ]
    ]

released_holds : (call : WordCall) (v : SleepView) (before : Hold) → releases_at call.stage ≡ true → IsAt call.stage call v (action.End true)
    → v.held ≡ hold_at call.stage call before → v.held ≡ hold_after before (step_of_down call.down)
released_holds call v before releases is held =
    elim (ends_not call.stage call v true is) [
      | inl acquired ↦ absurd (false≢true (sym (ap releases_at acquired.0) ∙ releases))
      | inr other ↦
          elim other [
            | inl refused ↦ absurd (true≢false refused.1)
            | inr ended ↦ held ∙ ap (λ st. hold_at st call before) ended.0
          ]
    ]

-- a call goes on as it began

abbrev Kind : Bool → Progress → Type 0
Kind releases p = releases_at p.0.stage ≡ releases

kind_decided : (word : ℕ) (call : WordCall) → Kind false (decide word call)
kind_decided word call =
    let now : WordCall = record call { loaded = word } in
    of_either (Kind false) (admits_word call.announced call.readers word call.want) _ _ refl
    (of_either (Kind false) (not call.blocks) _ _ refl
    (of_either (Kind false) call.late _ _
    (of_either (Kind false) (call.announced || drops_turn now) _ _ refl (of_either (Kind false) (wakes_one call && (has_slept call && nat_lt word sleepers)) _ _ refl refl))
    (of_either (Kind false) (nat_lt call.pauses pauses_before) _ _ refl (of_either (Kind false) (word_marked now == word) _ _ refl refl))))

kind_woken : (d : Debt) (call : WordCall) → Kind true (wakes d call)
kind_woken debt.Nothing call = refl
kind_woken debt.One call = refl
kind_woken debt.All call = refl
kind_woken debt.Next call = refl
kind_woken debt.Turn call = refl

kind_kept : (st : Stage) (found : ℕ) (call : WordCall) → st ≢ stage.Acquired → st ≢ stage.Refused → Kind (releases_at st) (next_at st found call)
kind_kept stage.Look found call a r = kind_decided found call
kind_kept stage.Try found call a r =
    of_either (Kind false) (found == call.loaded) (won call) _ (of_either (Kind false) (takes_turn call call.loaded && has_sleepers call.loaded) _ _ refl refl)
    (kind_decided found call)
kind_kept stage.Pause found call a r = refl
kind_kept stage.Mark found call a r = of_either (Kind false) (found == call.loaded) (marked call) _ refl (kind_decided found call)
kind_kept stage.Sleep found call a r = refl
kind_kept stage.Withdraw found call a r =
    of_either (Kind false) (found == call.loaded) (withdrawn call) _ (of_either (Kind false) (has_sleepers call.loaded && not (wakes_one call)) _ _ refl refl)
    (kind_decided found call)
kind_kept stage.Leave found call a r = of_either (Kind false) (found == call.loaded) (refused call) _ refl (kind_decided found call)
kind_kept stage.LookToRemove found call a r = of_either (Kind true) (has_sleepers found) (release_on found call) (subtract call) refl refl
kind_kept stage.Subtract found call a r = kind_woken (release_of call.readers found call.down).1 call
kind_kept stage.Release found call a r =
    of_either (Kind true) (found == call.loaded) _ (release_again found call) (kind_woken (release_of call.readers call.loaded call.down).1 call)
    (of_either (Kind true) (nat_lt call.pauses exchanges_before) _ (subtract call) refl refl)
kind_kept stage.Wake found call a r = refl
kind_kept stage.WakeRefused found call a r = refl
kind_kept stage.WakeAcquired found call a r = refl
kind_kept stage.Acquired found call a r = absurd (a refl)
kind_kept stage.Refused found call a r = absurd (r refl)
kind_kept stage.Ended found call a r = refl

-- a decision that refuses was made of a word that refuses
decided : (call : WordCall) (found : ℕ) (b : Bool) → admits_word call.announced call.readers found call.want ≡ b
    → (if b then goes_to (record call { loaded = found; left = after_try call found }) stage.Try (action.Exchange found (after_try call found)) else wait (record call { loaded = found })).1 ≡ action.End false
    → b ≡ false
decided call found true e h = cc
decided call found false e h = refl

refuses : (call : WordCall) (found : ℕ) → (call.stage ≡ stage.Look) ⊎ (call.stage ≡ stage.Try) → (next_of found call).1 ≡ action.End false
    → admits_word call.announced call.readers found call.want ≡ false
refuses call found (inl look) h =
    decided call found (admits_word call.announced call.readers found call.want) refl (ap (λ st. (next_at st found call).1) (sym look) ∙ h)
refuses call found (inr tries) h = by (found == call.loaded) (ap (λ st. (next_at st found call).1) (sym tries) ∙ h)
  where
    by : (b : Bool) → (if b then won call else decide found call).1 ≡ action.End false → admits_word call.announced call.readers found call.want ≡ false
    by true e = absurd (never (takes_turn call call.loaded && has_sleepers call.loaded) e)
      where
        never : (b : Bool) → (if b then goes_to call stage.WakeAcquired action.WakeAll else acquired call).1 ≡ action.End false → ⊥
        never true e = cc
        never false e = cc
    by false e = decided call found (admits_word call.announced call.readers found call.want) refl e

pub answers_match_holds : AnswersMatchHolds
answers_match_holds =
    record {
      refused_holds_as_before = refused_holds;
      acquired_has_taken = acquired_holds;
      released_has_given = released_holds;
      acquires = λ readers wish blocks announces. refl;
      releases = λ readers down. of_either (Kind true) (removes_reader readers down) _ _ refl refl;
      goes_on = λ found call. kind_kept call.stage found call;
      word_refuses = refuses;
    }

-- a word without T and S
bare_word : (word : ℕ) → word < turn → (core_of word ≡ word) × (has_turn word ≡ false) × (has_sleepers word ≡ false)
bare_word word low =
    (omega arith, ap not (lt-ltb (word % 2 ^ 36) (2 ^ 35) (omega arith)), ap not (lt-ltb word (2 ^ 36) (omega arith)))

-- a call that has just begun, on such a word that admits it
first_try : (readers word : ℕ) (wish : ExWant) (blocks announces : Bool) → word < turn → word_admits false readers word wish ≡ true
    → (admits_word false readers word wish ≡ true)
    × (after_try (begun readers stage.Look wish down.Shared blocks announces) word ≡ word_after word wish)
first_try readers word wish blocks announces low admits =
    let bare = bare_word word low in
    let call = begun readers stage.Look wish down.Shared blocks announces in
    let none : (has_sleepers word || ((readers == 1) && false)) ≡ false
    = ap (λ s. s || ((readers == 1) && false)) bare.2 ∙ and_no (readers == 1) in (
      ap (λ n. word_admits false readers n wish && (not (has_turn word) || passes_turn false wish)) bare.0
          ∙ (ap (λ b. b && (not (has_turn word) || passes_turn false wish)) admits ∙ ap (λ t. not t || passes_turn false wish) bare.1),
      ap (λ t. if t && is_shared wish then word_after (core_of word) wish else with_sleepers (with_turn (word_after (core_of word) wish) t) (has_sleepers word || ((readers == 1) && false))) bare.1
          ∙ (ap (λ s. with_sleepers (word_after (core_of word) wish) s) none ∙ ap (λ n. word_after n wish) bare.0),
    )
  where
    and_no : (a : Bool) → (a && false) ≡ false
    and_no true = refl
    and_no false = refl

first_acquires : (readers word : ℕ) (wish : ExWant) (blocks announces : Bool) → word < turn → word_admits false readers word wish ≡ true
    → (next_of word (acquiring readers wish blocks announces).0).1 ≡ action.Exchange word (word_after word wish)
first_acquires readers word wish blocks announces low admits =
    let first = first_try readers word wish blocks announces low admits in
    let call = begun readers stage.Look wish down.Shared blocks announces in
    ap (λ (b : Bool). (if b then goes_to (record call { loaded = word; left = after_try call word }) stage.Try (action.Exchange word (after_try call word))
    else wait (record call { loaded = word })).1) first.0
    ∙ ap (λ n. action.Exchange word n) first.1

first_releases : (readers : ℕ) (d : Down) → removes_reader readers d ≡ false → (taking readers d).1 ≡ action.Exchange (alone d) (alone d - amount d)
first_releases readers d never = ap (λ (b : Bool). (if b then goes_to (begun readers stage.LookToRemove want.Shared d false false) stage.LookToRemove action.Load
    else release_on (alone d) (begun readers stage.Release want.Shared d false false)).1) never ∙ by d
  where
    by : (d : Down) → (release_on (alone d) (begun readers stage.Release want.Shared d false false)).1 ≡ action.Exchange (alone d) (alone d - amount d)
    by down.Shared = refl
    by down.Exclusive = refl
    by down.Upgradable = refl
    by down.ToShared = refl
    by down.ToUpgradable = refl
    by down.UpgradableToShared = refl
    by down.Withdraw = refl

-- the call whose loaded word admits it, and whose exchange found that word
first_acquired : (readers word : ℕ) (wish : ExWant) (blocks announces : Bool) → word < turn → word_admits false readers word wish ≡ true
    → (next_of word (next_of word (acquiring readers wish blocks announces).0).0).1 ≡ action.End true
first_acquired readers word wish blocks announces low admits =
    let first = first_try readers word wish blocks announces low admits in
    let fresh = begun readers stage.Look wish down.Shared blocks announces in
    ap (λ (b : Bool). (next_of word (if b then goes_to (record fresh { loaded = word; left = after_try fresh word }) stage.Try (action.Exchange word (after_try fresh word))
    else wait (record fresh { loaded = word })).0).1) first.0
    ∙ (let call = (goes_to (record fresh { loaded = word; left = after_try fresh word }) stage.Try (action.Exchange word (after_try fresh word))).0 in
    ap (λ (c : Bool). (if c then won call else decide word call).1) (eq-eqb word word refl)
    ∙ ap (λ (t : Bool). (if (t && is_shared wish) && has_sleepers word then goes_to call stage.WakeAcquired action.WakeAll else acquired call).1) (bare_word word low).1)

abbrev begun_taking : ℕ → Down → Bool → Progress
begun_taking readers d b =
    if b then goes_to (begun readers stage.LookToRemove want.Shared d false false) stage.LookToRemove action.Load
    else release_on (alone d) (begun readers stage.Release want.Shared d false false)

first_released : (readers : ℕ) (d : Down) → removes_reader readers d ≡ false → (next_of (alone d) (taking readers d).0).1 ≡ action.End true
first_released readers d never = ap (λ (b : Bool). (next_of (alone d) (begun_taking readers d b).0).1) never ∙ by d
  where
    by : (d : Down) → (next_of (alone d) (begun_taking readers d false).0).1 ≡ action.End true
    by down.Shared = refl
    by down.Exclusive = refl
    by down.Upgradable = refl
    by down.ToShared = refl
    by down.ToUpgradable = refl
    by down.UpgradableToShared = refl
    by down.Withdraw = refl

first_looks : (readers : ℕ) (d : Down) → removes_reader readers d ≡ true → (taking readers d).1 ≡ action.Load
first_looks readers d is = ap (λ (b : Bool). (begun_taking readers d b).1) is

no_sleepers : (word : ℕ) → word < sleepers → has_sleepers word ≡ false
no_sleepers word low = ap not (lt-ltb word (2 ^ 36) low)

first_removes : (readers word : ℕ) (d : Down) → removes_reader readers d ≡ true → word < sleepers
    → next_of word (taking readers d).0 ≡ subtract (begun readers stage.LookToRemove want.Shared d false false)
first_removes readers word d is low =
    let call = begun readers stage.LookToRemove want.Shared d false false in
    ap (λ (b : Bool). next_of word (begun_taking readers d b).0) is ∙ ap (λ (b : Bool). if b then release_on word call else subtract call) (no_sleepers word low)

first_removed : (readers word found : ℕ) (d : Down) → removes_reader readers d ≡ true → word < sleepers → found < sleepers
    → (next_of found (next_of word (taking readers d).0).0).1 ≡ action.End true
first_removed readers word found d is low quiet =
    let call = begun readers stage.LookToRemove want.Shared d false false in
    ap (λ (p : Progress). (next_of found p.0).1) (first_removes readers word d is low) ∙ ends (subtract call).0 (has_sleepers found) (no_sleepers found quiet)
  where
    owed : Bool → Bool × Debt
    owed b =
        if not b then (false, debt.Nothing)
        else if not (frees_word readers (core_of found) (core_of found - amount d)) then (true, debt.Nothing)
        else if not (nat_lt (core_of found - amount d) (2 ^ 34)) then (true, under_bar readers found)
        else if has_turn found then (true, debt.Turn)
        else (false, if readers == 1 then debt.One else debt.All)

    ends : (call : WordCall) (b : Bool) → b ≡ false → (wakes (owed b).1 call).1 ≡ action.End true
    ends call false e = refl
    ends call true e = absurd (true≢false e)

pub first_steps : FirstSteps
first_steps =
    record {
      acquires = first_acquires;
      acquired = first_acquired;
      releases = first_releases;
      released = first_released;
      looks = first_looks;
      removes = λ readers word d is low. ap (λ (p : Progress). p.1) (first_removes readers word d is low);
      removed = first_removed;
    }
