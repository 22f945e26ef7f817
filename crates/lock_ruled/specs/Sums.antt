-- Sums over lists of which one or two members change.
use Rattle.std.proofs.Common.{◌≡◌, ℕ, ◌+◌, List, [], ◌∷◌, ◌++◌, sum_by, arith}
use Rattle.std.proofs.lemmas.List.Sums.{sum_by-append, sum_by-cons}

module _ {V : Type 0} (f : V → ℕ) where
  pub around : (before after : List V) (x : V) → sum_by f (before ++ x ∷ after) ≡ f x + (sum_by f before + sum_by f after)
  around before after x = omega (arith, sum_by-append f before (x ∷ after), sum_by-cons f x after)

  pub around_two : (before between after : List V) (x y : V)
      → sum_by f (before ++ x ∷ (between ++ y ∷ after)) ≡ f x + (f y + (sum_by f before + (sum_by f between + sum_by f after)))
  around_two before between after x y = omega (arith, around before (between ++ y ∷ after) x, around between after y)

  pub with_last : (before after : List V) (x y : V)
      → sum_by f (before ++ x ∷ (after ++ y ∷ [])) ≡ f x + (f y + (sum_by f before + sum_by f after))
  with_last before after x y = omega (arith, around_two before after [] x y, sum_by-append f [] [])

  pub between_first : (before between after : List V) (x : V)
      → sum_by f (before ++ x ∷ (between ++ after)) ≡ f x + (sum_by f before + (sum_by f between + sum_by f after))
  between_first before between after x = omega (arith, around before (between ++ after) x, sum_by-append f between after)

  pub between_second : (before between after : List V) (x : V)
      → sum_by f (before ++ (between ++ x ∷ after)) ≡ f x + (sum_by f before + (sum_by f between + sum_by f after))
  between_second before between after x = omega (arith, sum_by-append f before (between ++ x ∷ after), around between after x)
