-- The steps on a stored number are those on the word.
use Rattle.std.proofs.Common.{◌≡◌, ℕ, ◌-◌, ◌^◌, ◌<◌, ◌==◌, nat_lt, ◌||◌, Bool, true, false, not, if◌then◌else◌, List, slice_get, slice_set, Some, IsTrue, inl, inr, refl, sym, ap, subst, ◌∙◌, arith}
use Rattle.std.specs.Prelude.{⊤}
use Rattle.std.proofs.lemmas.Bool.{eq-eqb, ne_eqb, lt-ltb, false≢true, cases_eq}
use Rattle.lock_modes.specs.declared.hold.Hold.{Hold}
use Rattle.lock_word.specs.declared.want.ExWant.TheVariants as want
use Rattle.lock_word.specs.declared.down.Down.{Down}
use Rattle.lock_word.specs.declared.down.Down.TheVariants as down
use Rattle.lock_word.specs.Word.{amount}
use Rattle.lock_one.specs.declared.action.Action.{Action}
use Rattle.lock_one.specs.declared.action.Action.TheVariants as one
use Rattle.lock_one.specs.declared.action.Sleeper.{Sleeper}
use Rattle.lock_one.specs.declared.action.Sleeper.TheVariants as sleeper
use Rattle.lock_one.specs.declared.call.WordCall.{WordCall}
use Rattle.lock_one.specs.declared.sleep_view.Debt.{Debt}
use Rattle.lock_one.specs.declared.sleep_view.Debt.TheVariants as debt
use Rattle.lock_one.specs.declared.sleep_view.WordLimits.{WordLimits}
use Rattle.lock_one.specs.declared.sleep_view.SleepView.{SleepView}
use Rattle.lock_one.specs.declared.stage.Stage.{Stage}
use Rattle.lock_one.specs.declared.stage.Stage.TheVariants as stage
use Rattle.lock_one.specs.Machine.{Progress, class_of, is_brief, sleep_of, begun, goes_to, release_on, alone, taking}
use Rattle.lock_one.specs.Steps.{made, limits_of, hold_at, is_step, IsAt, IsPause, IsWake}
use Rattle.lock_one.specs.Stored.{stored_of, word_of_stored}
use Rattle.lock_one.proofs.Actions.{subtracts_own}
use Rattle.lock_one.proofs.Steps.{steps_keep_the_rule}
use Rattle.lock_one.proofs.Stored.{storing_keeps_words}
use Rattle.lock_c.specs.Packed.{half_of, step_of}
use Rattle.lock_c.specs.Storing.{stored_after, is_exchange, InHalf, StoringKeepsSteps}

-- a word that 32 bits store
record Fits (word : ℕ) : Type 0 where
  small : word < 2 ^ 37
  half : stored_of word < 2 ^ 32

word_fits : (limits : WordLimits) (word : ℕ) (views : List SleepView) → InHalf limits word views → Fits word
word_fits limits word views h =
    record { small = h.keeps.small; half = storing_keeps_words.in_half limits word views h.limit h.few h.keeps }

whole : (word : ℕ) → Fits word → half_of word ≡ stored_of word
whole word h = let half = h.half in omega arith

-- no two words are stored as one number
compares : (a b : ℕ) → Fits a → Fits b → (stored_of a == half_of b) ≡ (a == b)
compares a b ha hb =
    let same : half_of b ≡ stored_of b = whole b hb in
    let sa = ha.small in
    let sb = hb.small in
    elim (cases_eq a b) [
      | inl e ↦ eq-eqb (stored_of a) (half_of b) (ap stored_of e ∙ sym same) ∙ sym (eq-eqb a b e)
      | inr apart ↦
          ne_eqb (stored_of a) (half_of b)
          (λ f. apart
          (sym (storing_keeps_words.read_back a sa)
          ∙ (ap word_of_stored (f ∙ same) ∙ storing_keeps_words.read_back b sb)))
          ∙ sym (ne_eqb a b apart)
    ]

-- an exchange of two words that fit
exchanges : (a b word : ℕ) → Fits a → Fits b → Fits word
    → stored_after (step_of (one.Exchange a b)) (stored_of word) ≡ stored_of (made (one.Exchange a b) word)
exchanges a b word ha hb hw = rw (compares word a hw ha, whole b hb) (split (word == a))
  where
    split : (hit : Bool) → (if hit then stored_of b else stored_of word) ≡ stored_of (if hit then b else word)
    split true = refl
    split false = refl

-- what an action needs of its numbers
abbrev Serves : Action → ℕ → Type 0
Serves (one.Exchange a b) word = Fits a × Fits b
Serves (one.Subtract d) word = stored_after (step_of (one.Subtract d)) (stored_of word) ≡ stored_of (word - amount d)
Serves other word = ⊤

made_alike : (action : Action) (word : ℕ) → Fits word → Serves action word
    → stored_after (step_of action) (stored_of word) ≡ stored_of (made action word)
made_alike one.Load word hw h = refl
made_alike (one.Exchange a b) word hw h = exchanges a b word h.0 h.1 hw
made_alike (one.Subtract d) word hw h = h
made_alike (one.Sleep n sleeper.Next b) word hw h = refl
made_alike (one.Sleep n sleeper.Reader b) word hw h = refl
made_alike (one.Sleep n sleeper.Other b) word hw h = refl
made_alike one.WakeOne word hw h = refl
made_alike one.WakeAll word hw h = refl
made_alike one.WakeNext word hw h = refl
made_alike one.WakeTurn word hw h = refl
made_alike (one.Spin n) word hw h = refl
made_alike one.Yield word hw h = refl
made_alike (one.End true) word hw h = refl
made_alike (one.End false) word hw h = refl

-- an exchange is of the loaded word
record OfLoaded (call : WordCall) (action : Action) : Type 0 where
  left : ℕ
  is : action ≡ one.Exchange call.loaded left

not_exchange : {A : Type 0} (action other : Action) → action ≡ other → is_exchange other ≡ false → IsTrue (is_exchange action) → A
not_exchange action other same none is = absurd (false≢true (sym none ∙ (sym (ap is_exchange same) ∙ is)))

sleep_is_none : (few : Bool) (class : Sleeper) (brief : Bool) (n : ℕ) → is_exchange (if few then one.Sleep n class brief else one.Yield) ≡ false
sleep_is_none true class brief n = refl
sleep_is_none false class brief n = refl

rest_is_none : (action : Action) → IsPause action → is_exchange action ≡ false
rest_is_none (one.Spin n) rests = refl
rest_is_none other rests = absurd rests

wake_is_none : {A : Type 0} (owed : Debt) (action : Action) → IsWake owed action → IsTrue (is_exchange action) → A
wake_is_none debt.Nothing action wakes is = absurd wakes
wake_is_none debt.One action wakes is = not_exchange action one.WakeOne wakes refl is
wake_is_none debt.All action wakes is = not_exchange action one.WakeAll wakes refl is
wake_is_none debt.Next action wakes is = not_exchange action one.WakeNext wakes refl is
wake_is_none debt.Turn action wakes is = not_exchange action one.WakeTurn wakes refl is

of_loaded : (at : Stage) (call : WordCall) (v : SleepView) (action : Action) → IsAt at call v action → IsTrue (is_exchange action)
    → OfLoaded call action
of_loaded stage.Look call v action h is = not_exchange action one.Load h.1 refl is
of_loaded stage.Try call v action h is = record { left = _; is = h.2 }
of_loaded stage.Pause call v action h is = absurd (false≢true (sym (rest_is_none action h.1) ∙ is))
of_loaded stage.Mark call v action h is = record { left = _; is = h.4 }
of_loaded stage.Sleep call v action h is =
    not_exchange action (sleep_of call) h.5 (sleep_is_none (nat_lt call.readers (2 ^ 27)) (class_of call.announced call.want) (is_brief call) call.loaded) is
of_loaded stage.Withdraw call v action h is = record { left = _; is = h.4 }
of_loaded stage.Leave call v action h is = record { left = _; is = h.4 }
of_loaded stage.LookToRemove call v action h is = not_exchange action one.Load h.2 refl is
of_loaded stage.Subtract call v action h is = not_exchange action (one.Subtract call.down) h.2 refl is
of_loaded stage.Release call v action h is = record { left = _; is = h.2 }
of_loaded stage.Wake call v action h is = wake_is_none v.debt action h.1 is
of_loaded stage.WakeRefused call v action h is = not_exchange action one.WakeAll h.2 refl is
of_loaded stage.WakeAcquired call v action h is = not_exchange action one.WakeAll h.2 refl is
of_loaded stage.Acquired call v action h is = not_exchange action (one.End true) h.1 refl is
of_loaded stage.Refused call v action h is = not_exchange action (one.End false) h.1 refl is
of_loaded stage.Ended call v action h is = not_exchange action (one.End true) h.1 refl is

made_of_loaded : (a b : ℕ) → made (one.Exchange a b) a ≡ b
made_of_loaded a b = ap (λ hit. if hit then b else a) (eq-eqb a a refl)

module _ (call : WordCall) (v : SleepView) (action : Action) (before : Hold) (k : ℕ) (at : IsAt call.stage call v action)
    (held : v.held ≡ hold_at call.stage call before) (steps : is_step call.stage ≡ true) where
  -- the word after the step of the call fits
  after_fits : (word : ℕ) (views : List SleepView) → InHalf (limits_of call) word views → slice_get views k ≡ Some v
      → Fits (made action word)
  after_fits word views h is =
      let next = steps_keep_the_rule word views k v call action word before h.limit h.keeps is at held steps (λ touched. refl) in
      word_fits (limits_of call) (made action word) (slice_set views k next.you) record { limit = h.limit; few = h.few; keeps = next.keeps }

  serves : (earlier now : List SleepView) (word : ℕ)
      → (IsTrue (is_exchange action) → InHalf (limits_of call) call.loaded earlier × (slice_get earlier k ≡ Some v))
      → InHalf (limits_of call) word now → slice_get now k ≡ Some v → (kind : Action) → action ≡ kind → Serves action word
  serves earlier now word found h is (one.Exchange a b) same =
      let exchange : IsTrue (is_exchange action) = ap is_exchange same in
      let known = found exchange in
      let of = of_loaded call.stage call v action at exchange in
      subst (λ x. Serves x word) (sym of.is) (
        word_fits (limits_of call) call.loaded earlier known.0,
        subst Fits (ap (λ x. made x call.loaded) of.is ∙ made_of_loaded call.loaded of.left) (after_fits call.loaded earlier known.0 known.1),
      )
  serves earlier now word found h is (one.Subtract d) same =
      let half = (subst (λ x. Fits (made x word)) same (after_fits word now h is)).half in
      let own = subtracts_own call.stage call v d (subst (λ x. IsAt call.stage call v x) same at) in
      subst (λ x. Serves x word) (sym same)
      (storing_keeps_words.subtracts (limits_of call) word now k v d (2 ^ 32) h.limit h.keeps is own (word_fits (limits_of call) word now h).half half)
  serves earlier now word found h is one.Load same = subst (λ x. Serves x word) (sym same) tt
  serves earlier now word found h is (one.Sleep n class brief) same = subst (λ x. Serves x word) (sym same) tt
  serves earlier now word found h is one.WakeOne same = subst (λ x. Serves x word) (sym same) tt
  serves earlier now word found h is one.WakeAll same = subst (λ x. Serves x word) (sym same) tt
  serves earlier now word found h is one.WakeNext same = subst (λ x. Serves x word) (sym same) tt
  serves earlier now word found h is one.WakeTurn same = subst (λ x. Serves x word) (sym same) tt
  serves earlier now word found h is (one.Spin n) same = subst (λ x. Serves x word) (sym same) tt
  serves earlier now word found h is one.Yield same = subst (λ x. Serves x word) (sym same) tt
  serves earlier now word found h is (one.End b) same = subst (λ x. Serves x word) (sym same) tt

chosen : {A : Type 0} (P : A → Type 0) (b : Bool) (x y : A) → (b ≡ true → P x) → (b ≡ false → P y) → P (if b then x else y)
chosen P true x y hit miss = hit refl
chosen P false x y hit miss = miss refl

-- the first exchange of a release: its numbers are known
alone_fits : (readers word : ℕ) (release : Down) → Serves (taking readers release).1 word
alone_fits readers word down.Shared =
    chosen (λ (p : Progress). Serves p.1 word) (not (readers == 1)) (goes_to (begun readers stage.LookToRemove want.Shared down.Shared false false) stage.LookToRemove one.Load)
    (release_on (alone down.Shared) (begun readers stage.Release want.Shared down.Shared false false))
    (λ shared. tt)
    (λ single. (record { small = omega arith; half = omega arith }, record { small = omega arith; half = omega arith }))
alone_fits readers word down.Exclusive = (record { small = omega arith; half = omega arith }, record { small = omega arith; half = omega arith })
alone_fits readers word down.Upgradable = (record { small = omega arith; half = omega arith }, record { small = omega arith; half = omega arith })
alone_fits readers word down.ToShared = (record { small = omega arith; half = omega arith }, record { small = omega arith; half = omega arith })
alone_fits readers word down.ToUpgradable = (record { small = omega arith; half = omega arith }, record { small = omega arith; half = omega arith })
alone_fits readers word down.UpgradableToShared = (record { small = omega arith; half = omega arith }, record { small = omega arith; half = omega arith })
alone_fits readers word down.Withdraw = (record { small = omega arith; half = omega arith }, record { small = omega arith; half = omega arith })

sleep_compares : (few : Bool) (class : Sleeper) (brief : Bool) (n word : ℕ) → few ≡ true → Fits n → Fits word
    → (stored_of word == (step_of (if few then one.Sleep n class brief else one.Yield)).first) ≡ (word == n)
sleep_compares true class brief n word is hn hw = compares word n hw hn
sleep_compares false class brief n word is hn hw = absurd (false≢true is)

pub storing_keeps_steps : StoringKeepsSteps
storing_keeps_steps =
    record {
      fits = λ limits word views h.
          let h = word_fits limits word views h in (h.half, storing_keeps_words.read_back word h.small);
      makes = λ call v action before earlier now k word at held steps found h is.
          made_alike action word (word_fits (limits_of call) word now h) (serves call v action before k at held steps earlier now word found h is action refl);
      begins = λ readers word release small half.
          made_alike (taking readers release).1 word record { small = small; half = half } (alone_fits readers word release);
      sleeps = λ call v action earlier now word at found h.
          rw at.5
          (sleep_compares (nat_lt call.readers (2 ^ 27)) (class_of call.announced call.want) (is_brief call) call.loaded word (lt-ltb _ _ found.few)
          (word_fits (limits_of call) call.loaded earlier found) (word_fits (limits_of call) word now h));
    }
