-- What reading a text to its end gives, and what writing a text leaves.
use Rattle.std.specs.Prelude.{◌≡◌, ◌≤◌, ℕ, List, length, Option}
use Rattle.std.specs.Io.{StartsWith}
use Rattle.std.specs.Io.KnownBytes.{Appends, Consumes, IsAtEnd}
use Rattle.script_text.specs.declared.fault.StreamFault.{StreamFault}
use Rattle.script_text.specs.declared.fault.StreamFault.TheVariants.{TooLong, OutOfMemory, InputFailed, OutputFailed}

-- between these two states of its input, a reader gave bytes that pass
abbrev pub ReadsBytes : Option (List ℕ) → Option (List ℕ) → (List ℕ → Type 0) → Type 0
ReadsBytes ahead left Passes = (bytes : List ℕ) × (Consumes ahead left bytes × Passes bytes)

-- a reader gave a script that passes, of at most 1,048,576 bytes, and has nothing left
abbrev pub ReadsScript : Option (List ℕ) → Option (List ℕ) → (List ℕ → Type 0) → Type 0
ReadsScript ahead left Passes =
    IsAtEnd left × ReadsBytes ahead left (λ script. (length script ≤ 1048576) × Passes script)

-- a fault of reading a script, and how much was read
abbrev pub IsReadingFault : Option (List ℕ) → Option (List ℕ) → StreamFault → Type 0
IsReadingFault ahead left TooLong = ReadsBytes ahead left (λ bytes. length bytes ≡ 1048577)
IsReadingFault ahead left OutOfMemory = ReadsBytes ahead left (λ bytes. length bytes ≤ 1048577)
IsReadingFault ahead left InputFailed = ReadsBytes ahead left (λ bytes. length bytes ≤ 1048576)
IsReadingFault ahead left OutputFailed = ⊥

-- the written bytes grow by a beginning of the text
abbrev pub AppendsFront : Option (List ℕ) → Option (List ℕ) → List ℕ → Type 0
AppendsFront old new text = (front : List ℕ) × (StartsWith text front × Appends old new front)
