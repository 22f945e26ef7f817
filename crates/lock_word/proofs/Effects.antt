-- The effects of a turn.
use Rattle.std.proofs.Common.{◌≡◌, ◌≢◌, ℕ, ◌-◌, Bool, true, false, if◌then◌else◌, ◌==◌, List, slice_get, slice_set, Option, Some, None, IsTrue, refl, sym, ap, subst, ◌∙◌, eqb-true}
use Rattle.std.proofs.lemmas.Bool.{eqb-false}
use Rattle.lock_modes.specs.declared.fault.Fault.{Fault}
use Rattle.lock_modes.specs.declared.fault.Fault.TheVariants as fault
use Rattle.lock_modes.specs.Limits.{IsLimit}
use Rattle.lock_modes.specs.Holds.{hold_has}
use Rattle.lock_word.specs.declared.want.ExWant.{ExWant}
use Rattle.lock_word.specs.declared.down.Down.{Down}
use Rattle.lock_word.specs.declared.party.WorldParty.{WorldParty}
use Rattle.lock_word.specs.declared.step.AtomicStep.{AtomicStep}
use Rattle.lock_word.specs.declared.step.AtomicStep.TheVariants.{Load, Exchange, Take}
use Rattle.lock_word.specs.declared.step.Outcome.TheVariants.{Done, NotAdmitted, Changed}
use Rattle.lock_word.specs.Word.{word_admits, word_after, amount, step_of_want, step_of_down}
use Rattle.lock_word.specs.Turns.{WordTurn, refused_turn, after_win, after_fail, without_load, loaded_turn, load_turn, turn}
use Rattle.lock_word.specs.Rule.{KeepsRule}
use Rattle.lock_word.proofs.Rules.{slice_set_same, keeps_load, keeps_unloaded, keeps_lost, keeps_exchange, keeps_take}

-- all that a turn can be
pub data Effect (limit word : ℕ) (me : WorldParty) (s : AtomicStep) (t : WordTurn) : Type 0 where
  is_refused : (f : Fault) → ((p : ℕ) → s ≢ Load p) → t ≡ refused_turn word me f → Effect limit word me s t
  is_load : (p : ℕ) → s ≡ Load p → t ≡ load_turn word me → Effect limit word me s t
  is_not_admitted : (p : ℕ) (want : ExWant) (loaded : ℕ) → s ≡ Exchange p want → me.loaded ≡ Some loaded
      → word_admits me.held.announced limit loaded want ≡ false
      → t ≡ record { word = word; party = without_load me; outcome = NotAdmitted }
      → Effect limit word me s t
  is_changed : (p : ℕ) (want : ExWant) (loaded : ℕ) → s ≡ Exchange p want → me.loaded ≡ Some loaded → word ≢ loaded
      → t ≡ record { word = word; party = after_fail me; outcome = Changed }
      → Effect limit word me s t
  is_exchange : (p : ℕ) (want : ExWant) → s ≡ Exchange p want → IsTrue (hold_has me.held (step_of_want want))
      → me.loaded ≡ Some word → IsTrue (word_admits me.held.announced limit word want)
      → t ≡ record { word = word_after word want; party = after_win me (step_of_want want); outcome = Done }
      → Effect limit word me s t
  is_take : (p : ℕ) (d : Down) → s ≡ Take p d → IsTrue (hold_has me.held (step_of_down d))
      → t ≡ record { word = word - amount d; party = after_win me (step_of_down d); outcome = Done }
      → Effect limit word me s t

-- a fact of both branches is a fact of the branch that is taken
pub of_both : {A : Type 0} (P : A → Type 0) (b : Bool) (x y : A) → (b ≡ true → P x) → (b ≡ false → P y)
    → P (if b then x else y)
of_both P true x y f g = f refl
of_both P false x y f g = g refl

effect_loaded : (limit word : ℕ) (me : WorldParty) (p : ℕ) (want : ExWant) (o : Option ℕ) → me.loaded ≡ o
    → IsTrue (hold_has me.held (step_of_want want))
    → Effect limit word me (Exchange p want) (loaded_turn limit word me want o)
effect_loaded limit word me p want None was own = is_refused fault.NoLoad (λ q e. cc) refl
effect_loaded limit word me p want (Some loaded) was own =
    of_both (Effect limit word me (Exchange p want)) (word_admits me.held.announced limit loaded want) _ _
    (λ admits. of_both (Effect limit word me (Exchange p want)) (word == loaded) _ _
    (λ same.
    let e : word ≡ loaded = eqb-true word loaded same in
    is_exchange p want refl own (was ∙ ap Some (sym e)) (ap (λ w. word_admits me.held.announced limit w want) e ∙ admits)
    (ap (λ w. let t : WordTurn = record { word = word_after w want; party = after_win me (step_of_want want); outcome = Done } in t)
    (sym e)))
    (λ other. is_changed p want loaded refl was (λ e. eqb-false word loaded other e) refl))
    (λ refuses. is_not_admitted p want loaded refl was refuses refl)

pub effect : (limit word : ℕ) (me : WorldParty) (s : AtomicStep) → Effect limit word me s (turn limit word me s)
effect limit word me (Load p) = is_load p refl refl
effect limit word me (Exchange p want) =
    of_both (Effect limit word me (Exchange p want)) (hold_has me.held (step_of_want want)) _ _
    (λ h. effect_loaded limit word me p want me.loaded refl h)
    (λ h. is_refused fault.WrongMode (λ q e. cc) refl)
effect limit word me (Take p d) =
    of_both (Effect limit word me (Take p d)) (hold_has me.held (step_of_down d)) _ _
    (λ h. is_take p d refl h refl)
    (λ h. is_refused fault.WrongMode (λ q e. cc) refl)

-- the rule after a turn of the party at k
pub keeps_turn : (limit word : ℕ) (ps : List WorldParty) (k : ℕ) (me : WorldParty) (s : AtomicStep) (t : WordTurn)
    → IsLimit limit → KeepsRule limit word ps → slice_get ps k ≡ Some me → Effect limit word me s t
    → KeepsRule limit t.word (slice_set ps k t.party)
keeps_turn limit word ps k me s t range rule at e =
    let Kept : WordTurn → Type 0 = λ u. KeepsRule limit u.word (slice_set ps k u.party) in
    elim e [
      | is_refused f x q ↦ subst Kept (sym q) (subst (KeepsRule limit word) (sym (slice_set_same ps k me at)) rule)
      | is_load p a q ↦ subst Kept (sym q) (keeps_load limit word ps k me rule at)
      | is_not_admitted p want loaded a was refuses q ↦ subst Kept (sym q) (keeps_unloaded limit word ps k me rule at)
      | is_changed p want loaded a was other q ↦
          subst Kept (sym q) (keeps_lost limit word ps k loaded me rule at was other)
      | is_exchange p want a own was admits q ↦
          subst Kept (sym q) (keeps_exchange limit word ps k me want range rule at own admits)
      | is_take p d a own q ↦ subst Kept (sym q) (keeps_take limit word ps k me d range rule at own)
    ]
