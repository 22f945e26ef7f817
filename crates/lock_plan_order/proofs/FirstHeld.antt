-- Nothing is held exactly if there is no first lock of which something is.
use Rattle.std.proofs.Common.{◌≡◌, ℕ, zero, suc, ◌+◌, ◌==◌, Bool, not, ◌&&◌, if◌then◌else◌, nat_lt, List, [], ◌∷◌, Option, Some, refl, arith}
use Rattle.std.specs.Prelude.{is_some}
use Rattle.std.specs.List.{list_all, position_from}
use Rattle.lock_modes.specs.declared.hold.Hold.{Hold}
use Rattle.lock_modes.specs.Modes.{tokens}
use Rattle.lock_plan.specs.HoldNodes.{is_held}

held_here : (n i : ℕ) (first : Option ℕ) (free : Bool) → is_some first ≡ not free
    → is_some (if nat_lt 0 n then Some i else first) ≡ not ((n == 0) && free)
held_here zero i first free e = e
held_here (suc n) i first free e = Prim.grind (arith)

pub some_held : (holds : List Hold) (i : ℕ) → is_some (position_from is_held i holds) ≡ not (list_all (λ h. tokens h.bag == 0) holds)
some_held [] i = refl
some_held (h ∷ holds) i =
    held_here (tokens h.bag) i (position_from is_held (i + 1) holds) (list_all (λ h. tokens h.bag == 0) holds) (some_held holds (i + 1))
