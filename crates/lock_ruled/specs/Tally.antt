-- The rule of a tally, and what its users may do.
use Rattle.std.specs.Prelude.{◌≡◌, ℕ, ◌+◌, ◌-◌, ◌%◌, ◌^◌, ◌≤◌, List, sum}

-- the value is the sum of what the users added, modulo 2^64
abbrev pub IsTally : ℕ → List ℕ → Type 0
IsTally value views = value ≡ sum views % 2 ^ 64

-- the value grows as the user's view does, modulo 2^64
abbrev pub Adds : ℕ → ℕ → ℕ → ℕ → Type 0
Adds value view value' view' = (view ≤ view') × (value' ≡ (value + (view' - view)) % 2 ^ 64)
