-- Numbers as fields of a line.
use Rattle.std.specs.Prelude.{◌≡◌, ℕ, ℤ, ◌^◌, ◌<◌, ◌≤◌, FitsSigned, List, [], ◌∷◌, ◌⊎◌, codes, decimal}
use Rattle.std.specs.Fmt.{signed_decimal}
use Rattle.std.specs.Int.{w64}

-- an unsigned number of 64 bits
abbrev pub IsUnsigned : List ℕ → Type 0
IsUnsigned field = (number : ℕ) × ((number < 2 ^ 64) × (decimal number ≡ field))

-- a signed number of 64 bits
abbrev pub IsSigned : List ℕ → Type 0
IsSigned field = (number : ℤ) × (FitsSigned w64 number × (signed_decimal number ≡ field))

-- the first byte is a digit from 1 to 9
abbrev pub BeginsAbove0 : List ℕ → Type 0
BeginsAbove0 [] = ⊥
BeginsAbove0 (byte ∷ bytes) = (49 ≤ byte) × (byte ≤ 57)

-- `0`, or a first digit from 1 to 9
abbrev pub HasForm : List ℕ → Type 0
HasForm field = (field ≡ codes "0") ⊎ BeginsAbove0 field

-- the same, or a minus and then a digit from 1 to 9
abbrev pub HasSignedForm : List ℕ → Type 0
HasSignedForm [] = ⊥
HasSignedForm (byte ∷ bytes) = HasForm (byte ∷ bytes) ⊎ ((byte ≡ 45) × BeginsAbove0 bytes)
