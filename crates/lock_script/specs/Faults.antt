-- Which faults each part of a replay can meet.
use Rattle.std.specs.Prelude.{ℕ, List, ⊤}
use Rattle.lock_script.specs.declared.fault.ReplayFault.{ReplayFault}
use Rattle.lock_script.specs.declared.fault.ReplayFault.TheVariants.{BadLine, TooLong, OutOfMemory, InputFailed, OutputFailed}
use Rattle.script_text.specs.declared.fault.StreamFault.{StreamFault}
use Rattle.script_text.specs.declared.fault.StreamFault.TheVariants as stream
use Rattle.lock_script.specs.Lines.{IsFirstBad}

-- a fault of reading or writing, as one of a replay
abbrev pub of_stream : StreamFault → ReplayFault
of_stream stream.TooLong = TooLong
of_stream stream.OutOfMemory = OutOfMemory
of_stream stream.InputFailed = InputFailed
of_stream stream.OutputFailed = OutputFailed

-- a fault of parsing these lines, of which a bad line is the first bad one
abbrev pub IsParsingFault : (List (List ℕ) → Type 0) → (List (List ℕ) → Type 0) → List (List ℕ) → ReplayFault → Type 0
IsParsingFault First Further lines (BadLine number) = IsFirstBad First Further lines number
IsParsingFault First Further lines TooLong = ⊥
IsParsingFault First Further lines OutOfMemory = ⊤
IsParsingFault First Further lines InputFailed = ⊥
IsParsingFault First Further lines OutputFailed = ⊥

-- a fault that comes before anything is written
abbrev pub IsBeforeWriting : ReplayFault → Type 0
IsBeforeWriting (BadLine number) = ⊤
IsBeforeWriting TooLong = ⊤
IsBeforeWriting OutOfMemory = ⊤
IsBeforeWriting InputFailed = ⊤
IsBeforeWriting OutputFailed = ⊥
