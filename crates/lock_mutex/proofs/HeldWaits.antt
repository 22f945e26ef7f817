-- What the loop of a waiter with a held lock says of the value.
use Rattle.std.specs.Prelude.{◌≡◌, Bool, true, false, Option, Some, List, [], ◌∷◌, refl}
use Rattle.std.specs.Borrow.{MutBor}
use Rattle.std.specs.Fn.{Mut}
use Rattle.std.proofs.Common.{sym, ap, subst, ◌∙◌}
use Rattle.lock_guard.specs.declared.guard.inner.Inner.{Inner}
use Rattle.lock_guard.specs.declared.guard.lock.Release as release
use Rattle.lock_guard.specs.declared.guard.value_guard.ValueGuard as value_guard
use Rattle.lock_guard.specs.Inner.{inner_value}
use Rattle.lock_mutex.specs.declared.waiting.Waiting.{Waiting}
use Rattle.lock_mutex.specs.Waiting.{false_not_true, inner_value-filled, waiting_value, waiting_with_value, waiting_value-with, waiting_gives}
use Rattle.lock_mutex.specs.WaitsWhile.{end_of, WaitsWhile}
use Rattle.lock_mutex.specs.declared.condition_loop.LoopEnd.{LoopEnd}
use Rattle.lock_mutex.specs.declared.condition_loop.LoopEnd.TheVariants.{False, TimedOut, RanOut}
use Rattle.lock_mutex.specs.ConditionLoop.{Check, InTurn, last_of, EndsBy, ConditionLoop}
use Rattle.lock_mutex.specs.ValueLoop.{ValueLoop}
use Rattle.lock_mutex.proofs.Values.{value_loop}

module _ {L S V K W X F : Type 0} {r : release.Ghosts L K W} {g : value_guard.Ghosts V X} (value_of : V → X) (with_value : V → X → V)
    (law : (shown : V) (value : X) → value_of (with_value shown value) ≡ value)
    (calls : Mut F (MutBor X × Unit {0}) (Bool × (MutBor X × Unit {0}))) (answers : S → Bool → Type 0) where
  -- there is always one more wait
  abbrev wait_gives : Waiting L S V K W X r g → Option Bool → Waiting L S V K W X r g → Type 0
  wait_gives = waiting_gives answers

  abbrev Loop : F → Waiting L S V K W X r g → LoopEnd → Waiting L S V K W X r g → Type 0
  Loop = ConditionLoop calls (waiting_value value_of) (waiting_with_value with_value) wait_gives false

  ends : (end : LoopEnd) {condition : F} {before after : Waiting L S V K W X r g} {timed_out : Bool} → Loop condition before end after
      → (end ≡ False → timed_out ≡ false) → (end ≡ TimedOut → timed_out ≡ true) → end ≡ end_of timed_out
  ends False loop in_time out = subst (λ (b : Bool). False ≡ end_of b) (sym (in_time refl)) refl
  ends TimedOut loop in_time out = subst (λ (b : Bool). TimedOut ≡ end_of b) (sym (out refl)) refl
  ends RanOut loop in_time out = absurd loop.ends.2.0

  turns_keep_lock : (check : Check {W = Waiting L S V K W X r g} calls (waiting_value value_of) (waiting_with_value with_value) wait_gives)
      (rest : List (Check {W = Waiting L S V K W X r g} calls (waiting_value value_of) (waiting_with_value with_value) wait_gives))
      → InTurn calls (waiting_value value_of) (waiting_with_value with_value) wait_gives check rest
      → (last_of calls (waiting_value value_of) (waiting_with_value with_value) wait_gives check rest).waits.held.lock
      ≡ check.waits.held.lock
  turns_keep_lock check [] turn = refl
  turns_keep_lock check (next ∷ rest) turn = turns_keep_lock next rest turn.1 ∙ turn.0.waits.1

  end_keeps_lock : (last : Check {W = Waiting L S V K W X r g} calls (waiting_value value_of) (waiting_with_value with_value) wait_gives) (end : LoopEnd) (after : Waiting L S V K W X r g)
      → EndsBy calls (waiting_value value_of) (waiting_with_value with_value) wait_gives last end after
      → after.held.lock ≡ last.waits.held.lock
  end_keeps_lock last False after by = ap (λ (w : Waiting L S V K W X r g). w.held.lock) by.1
  end_keeps_lock last TimedOut after by = ap (λ (w : Waiting L S V K W X r g). w.held.lock) by.2
  end_keeps_lock last RanOut after by = by.2.1

  -- a check after a timeout comes after a wait that answered so
  turns_answer : (check : Check {W = Waiting L S V K W X r g} calls (waiting_value value_of) (waiting_with_value with_value) wait_gives)
      (rest : List (Check {W = Waiting L S V K W X r g} calls (waiting_value value_of) (waiting_with_value with_value) wait_gives))
      → check.timed_out ≡ false → InTurn calls (waiting_value value_of) (waiting_with_value with_value) wait_gives check rest
      → (last_of calls (waiting_value value_of) (waiting_with_value with_value) wait_gives check rest).timed_out ≡ true
      → answers check.waits.sleep true
  turns_answer check [] in_time turn out = absurd (false_not_true (sym in_time ∙ out))
  turns_answer check (next ∷ rest) in_time turn out = at (λ later. turns_answer next rest later turn.1 out) next.timed_out refl
    where
      at : (next.timed_out ≡ false → answers next.waits.sleep true) → (timed_out : Bool) → next.timed_out ≡ timed_out
          → answers check.waits.sleep true
      at later true is = subst (λ (b : Bool). answers check.waits.sleep b) is turn.0.waits.0
      at later false is = subst (λ (s : S). answers s true) turn.0.waits.2 (later is)

  -- a loop that timed out made a wait that timed out
  pub timed_out_slept : (end : LoopEnd) {condition : F} {before after : Waiting L S V K W X r g} {timed_out : Bool} → Loop condition before end after
      → (end ≡ False → timed_out ≡ false) → timed_out ≡ true → answers before.sleep true
  timed_out_slept False loop in_time out = absurd (false_not_true (sym (in_time refl) ∙ out))
  timed_out_slept TimedOut loop in_time out =
      subst (λ (w : Waiting L S V K W X r g). answers w.sleep true) loop.starts_on
      (turns_answer loop.first loop.rest loop.starts_timed_out loop.in_turn loop.ends.1)
  timed_out_slept RanOut loop in_time out = absurd loop.ends.2.0

  -- the loop keeps the lock
  pub keeps_lock : {condition : F} {before after : Waiting L S V K W X r g} {end : LoopEnd} → Loop condition before end after
      → after.held.lock ≡ before.held.lock
  keeps_lock {before = before} {after = after} {end = end} loop =
      end_keeps_lock (last_of _ _ _ _ loop.first loop.rest) end after loop.ends
      ∙ (turns_keep_lock loop.first loop.rest loop.in_turn ∙ ap (λ (w : Waiting L S V K W X r g). w.held.lock) loop.starts_on)

  -- the loop from the value that the part showed before to the value that it shows after
  pub waits_while : {condition : F} {before after : Waiting L S V K W X r g} {end : LoopEnd} {timed_out : Bool} {old new
      : Inner K V} → Loop condition before end after
      → before.held.inner ≡ old → new ≡ after.held.inner → (end ≡ False → timed_out ≡ false) → (end ≡ TimedOut → timed_out ≡ true)
      → WaitsWhile calls condition (inner_value value_of old) timed_out (inner_value value_of new)
  waits_while {condition} {before} {after} {end} {timed_out} loop from to in_time out = (
    waiting_value value_of before,
    waiting_value value_of after,
    subst (λ (inner : Inner K V). inner_value value_of inner ≡ Some (waiting_value value_of before)) from
        (inner_value-filled value_of before.held.inner before.held.filled),
    subst (λ (inner : Inner K V). inner_value value_of inner ≡ Some (waiting_value value_of after)) (sym to)
        (inner_value-filled value_of after.held.inner after.held.filled),
    subst (λ (e : LoopEnd). ValueLoop calls condition (waiting_value value_of before) e (waiting_value value_of after)) (ends end loop in_time out)
        (value_loop calls (waiting_value value_of) (waiting_with_value with_value) wait_gives
        (waiting_value-with value_of with_value law) (λ w v none. none.0) loop),
  )
