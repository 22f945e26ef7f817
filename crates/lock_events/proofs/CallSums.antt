-- Lists of calls, and sums over them.
use Rattle.std.proofs.Common.{◌≡◌, ◌≢◌, ℕ, zero, suc, ◌+◌, ◌≤◌, List, [], ◌∷◌, ◌++◌, slice_get, slice_set, Some, ◌⊎◌, inl, inr, refl, sym, ap, arith}
use Rattle.std.proofs.lemmas.Option.{same_Some}
use Rattle.lock_events.specs.declared.act.Begun.{Begun}
use Rattle.lock_events.specs.Kept.{sum_of}

pub changed_or_not : {A : Type 0} (xs : List A) (k j : ℕ) (y z : A) → slice_get (slice_set xs k y) j ≡ Some z
    → ((j ≡ k) × (z ≡ y)) ⊎ ((j ≢ k) × (slice_get xs j ≡ Some z))
changed_or_not [] k j y z h = cc
changed_or_not (x ∷ xs) zero zero y z h = inl (refl, cc)
changed_or_not (x ∷ xs) zero (suc j) y z h = inr ((λ e. omega arith), h)
changed_or_not (x ∷ xs) (suc k) zero y z h = inr ((λ e. omega arith), h)
changed_or_not (x ∷ xs) (suc k) (suc j) y z h =
    elim (changed_or_not xs k j y z h) [ inl e ↦ inl (ap suc e.0, e.1) | inr e ↦ inr ((λ f. e.0 (omega arith)), e.1) ]

pub element_of_longer : {A : Type 0} (xs : List A) (y z : A) (j : ℕ) → slice_get (xs ++ y ∷ []) j ≡ Some z
    → (slice_get xs j ≡ Some z) ⊎ (z ≡ y)
element_of_longer [] y z zero h = inr (same_Some z y (sym h))
element_of_longer [] y z (suc j) h = cc
element_of_longer (x ∷ xs) y z zero h = inl h
element_of_longer (x ∷ xs) y z (suc j) h = element_of_longer xs y z j h

pub sum_set : (f : Begun → ℕ) (calls : List Begun) (k : ℕ) (b c : Begun) → slice_get calls k ≡ Some b
    → sum_of f (slice_set calls k c) + f b ≡ sum_of f calls + f c
sum_set f [] k b c e = cc
sum_set f (x ∷ xs) zero b c e = let same = ap f (same_Some x b e) in omega arith
sum_set f (x ∷ xs) (suc k) b c e = let h = sum_set f xs k b c e in omega arith

pub sum_snoc : (f : Begun → ℕ) (calls : List Begun) (b : Begun) → sum_of f (calls ++ b ∷ []) ≡ sum_of f calls + f b
sum_snoc f [] b = omega arith
sum_snoc f (x ∷ xs) b = let h = sum_snoc f xs b in omega arith

pub one_counts : (f : Begun → ℕ) (calls : List Begun) (k : ℕ) (b : Begun) → slice_get calls k ≡ Some b → f b ≤ sum_of f calls
one_counts f [] k b e = cc
one_counts f (x ∷ xs) zero b e = let same = ap f (same_Some x b e) in omega arith
one_counts f (x ∷ xs) (suc k) b e = let h = one_counts f xs k b e in omega arith

pub two_count : (f : Begun → ℕ) (calls : List Begun) (i j : ℕ) (b c : Begun) → i ≢ j → slice_get calls i ≡ Some b → slice_get calls j ≡ Some c
    → f b + f c ≤ sum_of f calls
two_count f [] i j b c apart e g = cc
two_count f (x ∷ xs) zero zero b c apart e g = absurd (apart refl)
two_count f (x ∷ xs) zero (suc j) b c apart e g =
    let same = ap f (same_Some x b e) in let h = one_counts f xs j c g in omega arith
two_count f (x ∷ xs) (suc i) zero b c apart e g =
    let same = ap f (same_Some x c g) in let h = one_counts f xs i b e in omega arith
two_count f (x ∷ xs) (suc i) (suc j) b c apart e g =
    let h = two_count f xs i j b c (λ same. apart (ap suc same)) e g in omega arith

pub sum_below : (f g : Begun → ℕ) → ((b : Begun) → f b ≤ g b) → (calls : List Begun) → sum_of f calls ≤ sum_of g calls
sum_below f g less [] = omega arith
sum_below f g less (x ∷ xs) = let here = less x in let h = sum_below f g less xs in omega arith

pub sum_none : (f : Begun → ℕ) (calls : List Begun) → ((k : ℕ) (b : Begun) → slice_get calls k ≡ Some b → f b ≡ 0) → sum_of f calls ≡ 0
sum_none f [] none = refl
sum_none f (x ∷ xs) none = let here = none 0 x refl in let h = sum_none f xs (λ k b is. none (suc k) b is) in omega arith
