-- The value that a held lock shows.
use Rattle.std.specs.Prelude.{◌≡◌, true, Option, Some, refl}
use Rattle.std.proofs.Math.Bool.{Bool-set}
use mathlib.Core.HLevel.{is_prop→PathP}
use Rattle.lock_guard.specs.declared.guard.inner.Inner.{Inner}
use Rattle.lock_guard.specs.declared.guard.held.Held.{Held}
use Rattle.lock_guard.specs.declared.guard.lock.Release as release
use Rattle.lock_guard.specs.Inner.{is_filled, owns, inner_token, inner_value, inner_with_value, is_filled-inner_with_value, owns-inner_with_value, inner_with_same, inner_value_with}

module _ {L V K W X : Type 0} {r : release.Ghosts L K W} {g : _} where
  -- the token of a held lock, which always has one
  abbrev pub held_token : Held L V K W X r g → Option K
  held_token held = inner_token held.inner

  -- the value that a held lock shows
  abbrev pub held_value : (V → X) → Held L V K W X r g → Option X
  held_value value_of held = inner_value value_of held.inner

  -- the same lock, with another value behind it
  abbrev pub held_with_value : (V → X → V) → Held L V K W X r g → X → Held L V K W X r g
  held_with_value with_value held value = record {
    lock = held.lock;
    inner = inner_with_value with_value held.inner value;
    filled = is_filled-inner_with_value with_value held.inner value held.filled;
    own = owns-inner_with_value (r.is_own held.lock) with_value held.inner value held.own;
  }

  -- held locks with one lock and one inner part are equal
  pub same_held : (lock : L) (inner : Inner K V) (p q : is_filled inner ≡ true) (u v : owns (r.is_own lock) inner ≡ true)
      → ◌≡◌ {A = Held L V K W X r g} (record { lock = lock; inner = inner; filled = p; own = u })
      (record { lock = lock; inner = inner; filled = q; own = v })
  same_held lock inner p q u v = λ i.
      record { lock = lock; inner = inner; filled = Bool-set _ _ p q i; own = Bool-set _ _ u v i }

  pub same_held_at : (a b : Held L V K W X r g) → a.lock ≡ b.lock → a.inner ≡ b.inner → a ≡ b
  same_held_at a b lock inner = λ i. record {
    lock = lock i;
    inner = inner i;
    filled = is_prop→PathP (λ j. is_filled (inner j) ≡ true) (λ j. Bool-set _ _) a.filled b.filled i;
    own = is_prop→PathP (λ j. owns (r.is_own (lock j)) (inner j) ≡ true) (λ j. Bool-set _ _) a.own b.own i;
  }

  -- writing back what is shown changes nothing
  pub held_with_same : (value_of : V → X) (with_value : V → X → V)
      → ((shown : V) → with_value shown (value_of shown) ≡ shown) → (held : Held L V K W X r g) (value : X)
      → held_value value_of held ≡ Some value → held_with_value with_value held value ≡ held
  held_with_same value_of with_value law held value is =
      same_held_at _ _ refl (inner_with_same value_of with_value law held.inner value is)

  -- what was written is shown
  pub held_value_with : (value_of : V → X) (with_value : V → X → V)
      → ((shown : V) (value : X) → value_of (with_value shown value) ≡ value) → (held : Held L V K W X r g) (old new : X)
      → held_value value_of held ≡ Some old → held_value value_of (held_with_value with_value held new) ≡ Some new
  held_value_with value_of with_value law held old new is =
      inner_value_with value_of with_value law held.inner old new is
