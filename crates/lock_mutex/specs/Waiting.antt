-- The value of a lock whose holder waits.
use Rattle.std.specs.Prelude.{◌≡◌, Bool, true, false, Option, Some, IsSomeAnd, refl}
use Rattle.lock_guard.specs.declared.guard.inner.Inner.{Inner}
use Rattle.lock_guard.specs.declared.guard.lock.Release as release
use Rattle.lock_guard.specs.declared.guard.value_guard.ValueGuard as value_guard
use Rattle.lock_guard.specs.declared.guard.inner.Inner.TheVariants.{Filled, Empty}
use Rattle.lock_guard.specs.Inner.{is_filled, inner_value, inner_with_value}
use Rattle.lock_guard.specs.Held.{held_with_value}
use Rattle.lock_mutex.specs.declared.waiting.Waiting.{Waiting}

pub false_not_true : false ≡ true → ⊥
false_not_true is = Prim.cc

-- the answer is one that this kind of wait may give, and the wait did what it then does
abbrev pub answers_as : {S : Type 0} → (Bool → Type 0) → (S → Bool → Type 0) → S → Bool → Type 0
answers_as may_answer slept sleep answer = may_answer answer × slept sleep answer

module _ {K V X : Type 0} where
  -- the value that a filled part shows
  abbrev pub filled_value : (V → X) → (inner : Inner K V) → is_filled inner ≡ true → X
  filled_value value_of (Filled token shown) filled = value_of shown
  filled_value value_of Empty filled = absurd (false_not_true filled)

  pub inner_value-filled : (value_of : V → X) (inner : Inner K V) (filled : is_filled inner ≡ true)
      → inner_value value_of inner ≡ Some (filled_value value_of inner filled)
  inner_value-filled value_of (Filled token shown) filled = refl
  inner_value-filled value_of Empty filled = absurd (false_not_true filled)

  pub filled_value-with : (value_of : V → X) (with_value : V → X → V)
      → ((shown : V) (value : X) → value_of (with_value shown value) ≡ value) → (inner : Inner K V) (value : X)
      → (filled : is_filled (inner_with_value with_value inner value) ≡ true)
      → filled_value value_of (inner_with_value with_value inner value) filled ≡ value
  filled_value-with value_of with_value law (Filled token shown) value filled = law shown value
  filled_value-with value_of with_value law Empty value filled = absurd (false_not_true filled)

module _ {L S V K W X : Type 0} {r : release.Ghosts L K W} {g : value_guard.Ghosts V X} where
  abbrev pub waiting_value : (V → X) → Waiting L S V K W X r g → X
  waiting_value value_of waiting = filled_value value_of waiting.held.inner waiting.held.filled

  abbrev pub waiting_with_value : (V → X → V) → Waiting L S V K W X r g → X → Waiting L S V K W X r g
  waiting_with_value with_value waiting value = record waiting { held = held_with_value with_value waiting.held value }

  -- a wait answers as this kind of wait does, and keeps the lock and its kind
  abbrev pub waiting_gives : (S → Bool → Type 0) → Waiting L S V K W X r g → Option Bool → Waiting L S V K W X r g → Type 0
  waiting_gives answers before answer after =
      IsSomeAnd answer (answers before.sleep) × (after.held.lock ≡ before.held.lock) × (after.sleep ≡ before.sleep)

  pub waiting_value-with : (value_of : V → X) (with_value : V → X → V)
      → ((shown : V) (value : X) → value_of (with_value shown value) ≡ value)
      → (waiting : Waiting L S V K W X r g) (value : X)
      → waiting_value value_of (waiting_with_value with_value waiting value) ≡ value
  waiting_value-with value_of with_value law waiting value =
      filled_value-with value_of with_value law waiting.held.inner value _
