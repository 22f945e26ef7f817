-- Guards of the mutexes of a row, one more at a time.
use Rattle.std.proofs.Common.{◌≡◌, ℕ, suc, ◌+◌, ◌<◌, ◌≤◌, List, [], ◌∷◌, ◌++◌, map, length, take, get_or, sym, ap, ◌∙◌, arith}
use Rattle.std.proofs.Math.Seq.{take-suc}
use Rattle.std.proofs.lemmas.List.{map-append, take_all}

suc_is : (k : ℕ) → suc k ≡ k + 1
suc_is k = omega arith

module _ {X Y : Type 0} (f : X → Y) (xs : List X) (ys : List Y) (k : ℕ) (same : map f xs ≡ take k ys) where
  pub one_more : (x : X) (after : List X) → k < length ys → f x ≡ get_or ys k (f x) → after ≡ xs ++ x ∷ []
      → map f after ≡ take (k + 1) ys
  one_more x after lt at is =
      ap (map f) is ∙ map-append f xs (x ∷ []) ∙ ap (λ l. l ++ f x ∷ []) same ∙ ap (λ y. take k ys ++ y ∷ []) at
      ∙ sym (take-suc ys k (f x) lt) ∙ ap (λ n. take n ys) (suc_is k)

  pub all_taken : length ys ≤ k → map f xs ≡ ys
  all_taken le = same ∙ take_all k ys le
