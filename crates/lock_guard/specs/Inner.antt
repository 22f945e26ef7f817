-- The inner part of a guard.
use Rattle.std.specs.Prelude.{◌≡◌, refl, Bool, true, false, Option, None, Some}
use Rattle.std.proofs.Common.{ap, sym, ◌∙◌}
use Rattle.std.proofs.lemmas.Option.{same_Some}
use Rattle.lock_guard.specs.declared.guard.inner.Inner.{Inner}
use Rattle.lock_guard.specs.declared.guard.inner.Inner.TheVariants.{Filled, Empty}

module _ {K V : Type 0} where
  abbrev pub is_filled : Inner K V → Bool
  is_filled (Filled token shown) = true
  is_filled Empty = false

  -- the token, where there is one, is one of the lock's own
  abbrev pub owns : (K → Bool) → Inner K V → Bool
  owns is_own (Filled token shown) = is_own token
  owns is_own Empty = true

  -- the token, where there is one
  abbrev pub inner_token : Inner K V → Option K
  inner_token (Filled token shown) = Some token
  inner_token Empty = None

  module _ {X : Type 0} where
    -- the value that is shown, where there is one
    abbrev pub inner_value : (V → X) → Inner K V → Option X
    inner_value value_of (Filled token shown) = Some (value_of shown)
    inner_value value_of Empty = None

    -- the same part, with another value
    abbrev pub inner_with_value : (V → X → V) → Inner K V → X → Inner K V
    inner_with_value with_value (Filled token shown) value = Filled token (with_value shown value)
    inner_with_value with_value Empty value = Empty

    pub is_filled-inner_with_value : (with_value : V → X → V) (inner : Inner K V) (value : X)
        → is_filled inner ≡ true → is_filled (inner_with_value with_value inner value) ≡ true
    is_filled-inner_with_value with_value (Filled token shown) value filled = refl
    is_filled-inner_with_value with_value Empty value filled = filled

    pub owns-inner_with_value : (is_own : K → Bool) (with_value : V → X → V) (inner : Inner K V) (value : X)
        → owns is_own inner ≡ true → owns is_own (inner_with_value with_value inner value) ≡ true
    owns-inner_with_value is_own with_value (Filled token shown) value own = own
    owns-inner_with_value is_own with_value Empty value own = own

    -- writing back what is shown changes nothing
    pub inner_with_same : (value_of : V → X) (with_value : V → X → V)
        → ((shown : V) → with_value shown (value_of shown) ≡ shown) → (inner : Inner K V) (value : X)
        → inner_value value_of inner ≡ Some value → inner_with_value with_value inner value ≡ inner
    inner_with_same value_of with_value law (Filled token shown) value is =
        ap (λ written. Filled token (with_value shown written)) (sym (same_Some _ _ is)) ∙ ap (Filled token) (law shown)
    inner_with_same value_of with_value law Empty value is = refl

    -- what was written is shown
    pub inner_value_with : (value_of : V → X) (with_value : V → X → V)
        → ((shown : V) (value : X) → value_of (with_value shown value) ≡ value) → (inner : Inner K V) (old new : X)
        → inner_value value_of inner ≡ Some old
        → inner_value value_of (inner_with_value with_value inner new) ≡ Some new
    inner_value_with value_of with_value law (Filled token shown) old new is = ap Some (law shown new)
    inner_value_with value_of with_value law Empty old new is = Prim.cc
