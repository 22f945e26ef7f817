-- What a loaded word says of a gate.
use Rattle.std.specs.Prelude.{◌≡◌, ℕ, ◌+◌, ◌%◌, ◌^◌, ◌<◌, ◌⊎◌}
use Rattle.lock_api.specs.Word.{readers_of_word}

-- its keeper holds it alone: nobody is inside
abbrev pub IsClosed : ℕ → Type 0
IsClosed word = (word ≡ 2 ^ 33) ⊎ (word ≡ 2 ^ 34 + 2 ^ 33)

-- somebody is inside, and nobody keeps it closed
abbrev pub IsOpen : ℕ → Type 0
IsOpen word = (0 < readers_of_word word) × (word % 2 ^ 34 < 2 ^ 33)
