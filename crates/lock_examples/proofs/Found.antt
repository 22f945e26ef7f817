-- What a loop over a list has found.
use Rattle.std.proofs.Common.{◌≡◌, ℕ, ◌<◌, List, length, get_or, Option, None, Some, sym}
use Rattle.std.specs.Prelude.{Any, IfSome}

-- what is of the element at an index is of some element
pub of_any : {X Y : Type 0} (IsOf : X → Y → Type 0) (found : Option Y) (xs : List X) (i : ℕ) (x : X)
    → i < length xs → x ≡ get_or xs i x → IfSome found (IsOf x) → IfSome found (λ y. Any (λ z. IsOf z y) xs)
of_any IsOf None xs i x within is of = tt
of_any IsOf (Some y) xs i x within is of = (i, x, within, sym is, of)
