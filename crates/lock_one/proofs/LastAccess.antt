-- After the exchange of a release, a call makes at most a wake-up.
use Rattle.std.proofs.Common.{◌≡◌, ℕ, Bool, true, false, not, ◌&&◌, ◌==◌, if◌then◌else◌, List, [], ◌∷◌, refl, sym, ap, subst, ◌∙◌, eq-eqb}
use Rattle.lock_one.specs.declared.call.WordCall.{WordCall}
use Rattle.lock_one.specs.declared.stage.Stage.TheVariants as stage
use Rattle.lock_one.specs.declared.sleep_view.Debt.{Debt}
use Rattle.lock_one.specs.declared.sleep_view.Debt.TheVariants as debt
use Rattle.lock_one.specs.Machine.{Progress, next_at, next_of, decide, acquired, won, takes_turn, refused, ended, wakes, release_again, release_of, withdrawn, has_sleepers, wakes_one}
use Rattle.lock_one.specs.Steps.{actions_from, touches_none, LastAccess}

quiet_end : (b : Bool) (call : WordCall) (answers : List ℕ) → touches_none (actions_from (ended b call) answers) ≡ true
quiet_end b call [] = refl
quiet_end b call (a ∷ answers) = refl

quiet_refusal : (call : WordCall) (answers : List ℕ) → touches_none (actions_from (refused call) answers) ≡ true
quiet_refusal call [] = refl
quiet_refusal call (a ∷ answers) = refl

quiet_acquired : (call : WordCall) (answers : List ℕ) → touches_none (actions_from (acquired call) answers) ≡ true
quiet_acquired call [] = refl
quiet_acquired call (a ∷ answers) = refl

quiet_wake : (d : Debt) (call : WordCall) (answers : List ℕ) → touches_none (actions_from (wakes d call) answers) ≡ true
quiet_wake debt.Nothing call answers = quiet_end true call answers
quiet_wake debt.One call [] = refl
quiet_wake debt.One call (a ∷ answers) = quiet_end true call answers
quiet_wake debt.All call [] = refl
quiet_wake debt.All call (a ∷ answers) = quiet_end true call answers
quiet_wake debt.Next call [] = refl
quiet_wake debt.Next call (a ∷ answers) = quiet_end true call answers
quiet_wake debt.Turn call [] = refl
quiet_wake debt.Turn call (a ∷ answers) = quiet_end true call answers

quiet_won : (b : Bool) (call : WordCall) (answers : List ℕ) → (takes_turn call call.loaded && has_sleepers call.loaded) ≡ b
    → touches_none (actions_from (won call) answers) ≡ true
quiet_won true call [] e = rw e refl
quiet_won true call (a ∷ answers) e = rw e (quiet_acquired (record call { stage = stage.WakeAcquired }) answers)
quiet_won false call answers e = rw e (quiet_acquired call answers)

quiet_withdrawn : (b : Bool) (call : WordCall) (answers : List ℕ) → (has_sleepers call.loaded && not (wakes_one call)) ≡ b
    → touches_none (actions_from (withdrawn call) answers) ≡ true
quiet_withdrawn true call [] e = rw e refl
quiet_withdrawn true call (a ∷ answers) e = rw e (quiet_refusal (record call { announced = false; turned = false; stage = stage.WakeRefused }) answers)
quiet_withdrawn false call answers e = rw e (quiet_refusal (record call { announced = false; turned = false }) answers)

-- a call whose answer is the word that it loaded
found : (call : WordCall) (x y : Progress) → (if call.loaded == call.loaded then x else y) ≡ x
found call x y = ap (λ b. if b then x else y) (eq-eqb call.loaded call.loaded refl)

pub last_access : LastAccess
last_access =
    record {
      release = λ call answers at.
          let next : next_of call.loaded call ≡ wakes (release_of call.readers call.loaded call.down).1 call
          = ap (λ s. next_at s call.loaded call) at ∙ found call (wakes (release_of call.readers call.loaded call.down).1 call) (release_again call.loaded call) in
          subst (λ p. touches_none (actions_from p answers) ≡ true) (sym next) (quiet_wake (release_of call.readers call.loaded call.down).1 call answers);
      subtraction = λ call word answers at.
          let next : next_of word call ≡ wakes (release_of call.readers word call.down).1 call = ap (λ s. next_at s word call) at in
          subst (λ p. touches_none (actions_from p answers) ≡ true) (sym next) (quiet_wake (release_of call.readers word call.down).1 call answers);
      acquisition = λ call answers at.
          let next : next_of call.loaded call ≡ won call = ap (λ s. next_at s call.loaded call) at ∙ found call (won call) (decide call.loaded call) in
          subst (λ p. touches_none (actions_from p answers) ≡ true) (sym next) (quiet_won (takes_turn call call.loaded && has_sleepers call.loaded) call answers refl);
      withdrawal = λ call answers at.
          let next : next_of call.loaded call ≡ withdrawn call = ap (λ s. next_at s call.loaded call) at ∙ found call (withdrawn call) (decide call.loaded call) in
          subst (λ p. touches_none (actions_from p answers) ≡ true) (sym next) (quiet_withdrawn (has_sleepers call.loaded && not (wakes_one call)) call answers refl);
    }
