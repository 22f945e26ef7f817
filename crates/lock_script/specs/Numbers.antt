-- Ids of parties and pairs of numbers, as fields of a line.
use Rattle.std.specs.Prelude.{◌≡◌, ℕ, ◌^◌, ◌<◌, List, [], ◌∷◌, decimal}

-- an unsigned number of 64 bits, and not 0
abbrev pub IsParty : List ℕ → Type 0
IsParty field = (number : ℕ) × ((0 < number) × ((number < 2 ^ 64) × (decimal number ≡ field)))

-- two fields of this kind
abbrev pub AreTwo : (List ℕ → Type 0) → List (List ℕ) → Type 0
AreTwo IsField [] = ⊥
AreTwo IsField (first ∷ []) = ⊥
AreTwo IsField (first ∷ second ∷ []) = IsField first × IsField second
AreTwo IsField (first ∷ second ∷ more ∷ others) = ⊥
