-- How a call passes from one action to the next.
use Rattle.std.proofs.Common.{◌≡◌, ℕ, true, sym, ap, subst, ◌∙◌}
use Rattle.lock_one.specs.declared.action.Action.{Action}
use Rattle.lock_one.specs.Machine.{Progress, next_of}
use Rattle.lock_one_word.specs.Drives.{Pending, at, GoesOn}
use Rattle.lock_one_word.specs.Plays.{Goes}
use Rattle.lock_one_word.specs.Seats.{Self, placed, IsGoing}
use Rattle.lock_one.proofs.Actions.{on_word, steps_on}

-- an action on the word that the table made with what it found
pub passes_on_word : (p q : Pending) (a : Action) (me after : Self) (found word : ℕ) → p.action ≡ a → on_word a ≡ true → word ≡ found → at q ≡ next_of word p.call
    → Goes a me found after → GoesOn p me q after
passes_on_word p q a me after found word is on same turns goes = (
  (word, turns),
  λ before task going.
      let here = subst (λ (x : Action). IsGoing (p.call, x) before task me.0) is going in
      subst (λ (r : Progress). IsGoing r before task after.0) (sym (turns ∙ ap (λ n. next_of n p.call) same))
      (goes p.call before task (steps_on p.call.stage p.call (placed me.0.held a) a here.at on) here),
)
