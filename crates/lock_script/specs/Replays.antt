-- What a replay answers, and what its faults mean.
use Rattle.std.specs.Prelude.{◌≡◌, ◌≤◌, ℕ, List, length, Option}
use Rattle.std.specs.Io.KnownBytes.{Appends}
use Rattle.script_text.specs.Lines.{lines_of}
use Rattle.script_text.specs.Streams.{AppendsFront, ReadsBytes, ReadsScript}
use Rattle.lock_script.specs.declared.choice.Which.{Which}
use Rattle.lock_script.specs.declared.choice.Which.TheVariants.{Table, Word, Steps}
use Rattle.lock_script.specs.declared.fault.ReplayFault.{ReplayFault}
use Rattle.lock_script.specs.declared.fault.ReplayFault.TheVariants.{BadLine, TooLong, OutOfMemory, InputFailed, OutputFailed}
use Rattle.lock_script.specs.Lines.{IsFirstBad}
use Rattle.lock_script.specs.Session.{IsDeskAnswer}
use Rattle.lock_script.specs.Words.{IsCall, IsMaker}
use Rattle.lock_script.specs.WorldLines.{IsWorldCall, IsWorldMaker}
use Rattle.lock_script.specs.WorldSession.{IsWorldAnswer}

-- the fields are those of a first line
abbrev pub IsFirst : Which → List (List ℕ) → Type 0
IsFirst Table fields = IsMaker fields
IsFirst Word fields = IsMaker fields
IsFirst Steps fields = IsWorldMaker fields

-- the fields are those of a further line
abbrev pub IsFurther : Which → List (List ℕ) → Type 0
IsFurther Table fields = IsCall fields
IsFurther Word fields = IsCall fields
IsFurther Steps fields = IsWorldCall fields

-- the text is the answer to the script of these bytes
abbrev pub IsAnswer : Which → List ℕ → List ℕ → Type 0
IsAnswer Table script text = IsDeskAnswer script text
IsAnswer Word script text = IsDeskAnswer script text
IsAnswer Steps script text = IsWorldAnswer script text

-- the written bytes grow by the answer to the script
abbrev pub AppendsAnswer : Which → List ℕ → Option (List ℕ) → Option (List ℕ) → Type 0
AppendsAnswer which script old new = (text : List ℕ) × (IsAnswer which script text × Appends old new text)

-- the written bytes grow by a beginning of the answer to the script
abbrev pub BeginsAnswer : Which → List ℕ → Option (List ℕ) → Option (List ℕ) → Type 0
BeginsAnswer which script old new = (text : List ℕ) × (IsAnswer which script text × AppendsFront old new text)

-- what a fault means for the bytes that the reader gave, and for those that were written
abbrev pub ExplainsFault : Which → Option (List ℕ) → Option (List ℕ) → Option (List ℕ) → Option (List ℕ) → ReplayFault → Type 0
ExplainsFault which ahead left old new (BadLine number) =
    ReadsScript ahead left (λ script. IsFirstBad (IsFirst which) (IsFurther which) (lines_of script) number)
ExplainsFault which ahead left old new TooLong = ReadsBytes ahead left (λ bytes. length bytes ≡ 1048577)
ExplainsFault which ahead left old new OutOfMemory = ReadsBytes ahead left (λ bytes. length bytes ≤ 1048577)
ExplainsFault which ahead left old new InputFailed = ReadsBytes ahead left (λ bytes. length bytes ≤ 1048576)
ExplainsFault which ahead left old new OutputFailed = ReadsScript ahead left (λ script. BeginsAnswer which script old new)
