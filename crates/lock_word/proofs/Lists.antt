-- Lists of which one element is changed, and lists that grow by one.
use Rattle.std.proofs.Common.{◌≡◌, ◌≢◌, ℕ, zero, suc, List, [], ◌∷◌, ◌++◌, slice_get, slice_set, Some, refl, ap}

module _ {X : Type 0} where
  -- the changed element
  pub placed : (xs : List X) (k : ℕ) (x y : X) → slice_get xs k ≡ Some x → slice_get (slice_set xs k y) k ≡ Some y
  placed [] k x y h = cc
  placed (z ∷ xs) zero x y h = refl
  placed (z ∷ xs) (suc k) x y h = placed xs k x y h

  -- each other element stays where it was
  pub other_stays : (xs : List X) (k j : ℕ) (y z : X) → j ≢ k → slice_get xs j ≡ Some z → slice_get (slice_set xs k y) j ≡ Some z
  other_stays [] k j y z other h = h
  other_stays (x ∷ xs) zero zero y z other h = absurd (other refl)
  other_stays (x ∷ xs) zero (suc j) y z other h = h
  other_stays (x ∷ xs) (suc k) zero y z other h = h
  other_stays (x ∷ xs) (suc k) (suc j) y z other h = other_stays xs k j y z (λ e. other (ap suc e)) h

  -- an element of a list that grows
  pub in_longer : (xs : List X) (y z : X) (j : ℕ) → slice_get xs j ≡ Some z → slice_get (xs ++ y ∷ []) j ≡ Some z
  in_longer [] y z j h = cc
  in_longer (x ∷ xs) y z zero h = h
  in_longer (x ∷ xs) y z (suc j) h = in_longer xs y z j h
