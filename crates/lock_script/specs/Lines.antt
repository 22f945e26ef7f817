-- Good lines of a script, and the first bad line.
use Rattle.std.specs.Prelude.{◌≡◌, ℕ, ◌+◌, List, [], ◌∷◌, ◌⊎◌}
use Rattle.std.specs.List.{AllByRecursion}
use Rattle.std.specs.Str.{IsUtf8}
use Rattle.script_text.specs.Lines.{fields_of}

-- the line is UTF-8, and its fields pass
abbrev pub IsLine : (List (List ℕ) → Type 0) → List ℕ → Type 0
IsLine HasFields line = IsUtf8 line × HasFields (fields_of line)

-- a first line, and further lines of another kind
abbrev pub AreLines : (List (List ℕ) → Type 0) → (List (List ℕ) → Type 0) → List (List ℕ) → Type 0
AreLines First Further [] = ⊥
AreLines First Further (line ∷ lines) = IsLine First line × AllByRecursion (IsLine Further) lines

-- of these lines, which are numbered from `number`, line `bad` is the first that is not of the kind
abbrev pub IsFirstOther : (List (List ℕ) → Type 0) → List (List ℕ) → ℕ → ℕ → Type 0
IsFirstOther Further [] number bad = ⊥
IsFirstOther Further (line ∷ lines) number bad =
    ((bad ≡ number) × (IsLine Further line → ⊥)) ⊎ (IsLine Further line × IsFirstOther Further lines (number + 1) bad)

-- line `bad` is the first bad line of a script; an empty script has the bad line 1
abbrev pub IsFirstBad : (List (List ℕ) → Type 0) → (List (List ℕ) → Type 0) → List (List ℕ) → ℕ → Type 0
IsFirstBad First Further [] bad = bad ≡ 1
IsFirstBad First Further (line ∷ lines) bad =
    ((bad ≡ 1) × (IsLine First line → ⊥)) ⊎ (IsLine First line × IsFirstOther Further lines 2 bad)
