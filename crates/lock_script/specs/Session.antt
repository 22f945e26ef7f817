-- The answer to a script of calls.
use Rattle.std.specs.Prelude.{◌≡◌, ℕ, ℤ, List, [], ◌∷◌, map}
use Rattle.lock_modes.specs.declared.kind.Kind.{Kind}
use Rattle.lock_machine.specs.declared.call.Call.{Call}
use Rattle.lock_machine.specs.declared.reply.Reply.{Reply}
use Rattle.lock_modes.specs.declared.fault.Fault.TheVariants.{BadLimits}
use Rattle.lock_modes.specs.Limits.{IsLimit}
use Rattle.lock_machine.specs.Machine.{Machine, start}
use Rattle.lock_machine.specs.Steps.{replies}
use Rattle.lock_script.specs.declared.maker.Maker.{Maker}
use Rattle.lock_script.specs.declared.pair.Pair.{Pair}
use Rattle.lock_script.specs.declared.pair.PairOp.{PairOp}
use Rattle.lock_script.specs.Answers.{reply_lines}
use Rattle.script_text.specs.Lines.{fields_of, lines_of}
use Rattle.lock_script.specs.Lines.{AreLines}
use Rattle.lock_script.specs.Pair.{meaning}
use Rattle.lock_script.specs.CallLines.{call_fields, maker_fields}
use Rattle.lock_script.specs.Words.{IsCall, IsMaker}

-- the limits are in range
abbrev pub HasLimits : Maker → Type 0
HasLimits (Maker.Mutex places pair) = IsLimit places
HasLimits (Maker.RwLock places readers pair) = IsLimit places × IsLimit readers
HasLimits (Maker.Reentrant places levels pair) = IsLimit places × IsLimit levels

-- the machine that is made then
abbrev pub machine_of : Maker → Machine Pair
machine_of (Maker.Mutex places pair) = start Kind.Mutex pair places 1
machine_of (Maker.RwLock places readers pair) = start Kind.RwLock pair places readers
machine_of (Maker.Reentrant places levels pair) = start Kind.Reentrant pair places levels

-- the replies to the calls on that machine
abbrev pub replies_to : Maker → List (Call PairOp) → List (Reply ℤ)
replies_to maker calls = replies meaning (machine_of maker) calls

-- the text is the answer to the maker and the calls: if the limits are in range, `ok` and a reply to each call;
-- otherwise one refusal
pub record Answers (maker : Maker) (calls : List (Call PairOp)) (text : List ℕ) : Type 0 where
  pub made : HasLimits maker → text ≡ reply_lines (Reply.Done ∷ replies_to maker calls)
  pub refused : (HasLimits maker → ⊥) → text ≡ reply_lines (Reply.Refused BadLimits ∷ [])

-- the lines of the script are those of the maker and the calls
abbrev pub IsScriptOf : List ℕ → Maker → List (Call PairOp) → Type 0
IsScriptOf bytes maker calls = maker_fields maker ∷ map call_fields calls ≡ map fields_of (lines_of bytes)

-- the text is the answer to the script of these bytes, whose lines are all good
abbrev pub IsDeskAnswer : List ℕ → List ℕ → Type 0
IsDeskAnswer bytes text =
    AreLines IsMaker IsCall (lines_of bytes)
    × ((maker : Maker) × ((calls : List (Call PairOp)) × (IsScriptOf bytes maker calls × Answers maker calls text)))
