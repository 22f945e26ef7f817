-- The answer to a script of steps.
use Rattle.std.specs.Prelude.{◌≡◌, ℕ, Bool, List, [], ◌∷◌, Option, None, Some, Result, Ok, Err, map}
use Rattle.lock_machine.specs.declared.reply.Reply.{Reply}
use Rattle.lock_modes.specs.declared.fault.Fault.{Fault}
use Rattle.lock_modes.specs.declared.fault.Fault.TheVariants.{BadLimits, UnknownParty}
use Rattle.lock_modes.specs.Limits.{IsLimit}
use Rattle.lock_word.specs.declared.party.WorldParty.{WorldParty}
use Rattle.lock_word.specs.declared.step.Outcome.{Outcome}
use Rattle.lock_word.specs.Holders.{holder_at}
use Rattle.lock_word.specs.Worlds.{WorldState, new_world, after_step}
use Rattle.lock_script.specs.declared.answer.Answer.{Answer}
use Rattle.lock_script.specs.declared.world_call.WorldCall.{WorldCall}
use Rattle.lock_script.specs.declared.world_maker.WorldMaker.{WorldMaker}
use Rattle.lock_script.specs.Answers.{answer_lines}
use Rattle.script_text.specs.Lines.{fields_of, lines_of}
use Rattle.lock_script.specs.Lines.{AreLines}
use Rattle.lock_script.specs.WorldLines.{IsWorldCall, IsWorldMaker, world_call_fields, world_maker_fields}

-- the answer of an outcome
abbrev pub step_answer : Outcome → Answer
step_answer (Outcome.Loaded word) = Answer.Loaded word
step_answer Outcome.Done = Answer.Made
step_answer Outcome.NotAdmitted = Answer.NotAdmitted
step_answer Outcome.Changed = Answer.Changed
step_answer (Outcome.Refused fault) = Answer.Reply (Reply.Refused fault)

-- a count, or its refusal
abbrev pub count_answer : Result ℕ Fault → Answer
count_answer (Ok number) = Answer.Reply (Reply.Count number)
count_answer (Err fault) = Answer.Reply (Reply.Refused fault)

-- a count of a party, if the party exists
abbrev pub party_count : (WorldParty → ℕ) → Option WorldParty → Answer
party_count count None = count_answer (Err UnknownParty)
party_count count (Some party) = count_answer (Ok (count party))

-- yes or no, or the refusal
abbrev pub truth_answer : Result Bool Fault → Answer
truth_answer (Ok is) = Answer.Reply (Reply.Bool is)
truth_answer (Err fault) = Answer.Reply (Reply.Refused fault)

-- whether a party has announced itself, if the party exists
abbrev pub party_announced : Option WorldParty → Answer
party_announced None = truth_answer (Err UnknownParty)
party_announced (Some party) = truth_answer (Ok party.held.announced)

-- the answer to a line
abbrev pub call_answer : WorldState → WorldCall → Answer
call_answer world (WorldCall.Step step) = step_answer (after_step world step).outcome
call_answer world WorldCall.Word = Answer.Reply (Reply.Count world.word)
call_answer world (WorldCall.Wins party) = party_count (λ me. me.wins) (holder_at world.parties party)
call_answer world (WorldCall.Fails party) = party_count (λ me. me.fails) (holder_at world.parties party)
call_answer world (WorldCall.Announced party) = party_announced (holder_at world.parties party)

-- the world after a line
abbrev pub world_after_call : WorldState → WorldCall → WorldState
world_after_call world (WorldCall.Step step) = (after_step world step).world
world_after_call world WorldCall.Word = world
world_after_call world (WorldCall.Wins party) = world
world_after_call world (WorldCall.Fails party) = world
world_after_call world (WorldCall.Announced party) = world

-- the answers to a list of lines
abbrev pub all_answers : WorldState → List WorldCall → List Answer
all_answers world [] = []
all_answers world (call ∷ calls) = call_answer world call ∷ all_answers (world_after_call world call) calls

-- the limits are in range
abbrev pub HasWorldLimits : WorldMaker → Type 0
HasWorldLimits maker = IsLimit maker.parties × IsLimit maker.readers

-- the text is the answer to the maker and the lines: if the limits are in range, `ok` and an answer to each line;
-- otherwise one refusal
pub record WorldAnswers (maker : WorldMaker) (calls : List WorldCall) (text : List ℕ) : Type 0 where
  pub made :
      HasWorldLimits maker
      → text ≡ answer_lines (Answer.Reply Reply.Done ∷ all_answers (new_world maker.parties maker.readers) calls)
  pub refused : (HasWorldLimits maker → ⊥) → text ≡ answer_lines (Answer.Reply (Reply.Refused BadLimits) ∷ [])

-- the lines of the script are those of the maker and the calls
abbrev pub IsWorldScriptOf : List ℕ → WorldMaker → List WorldCall → Type 0
IsWorldScriptOf bytes maker calls =
    world_maker_fields maker ∷ map world_call_fields calls ≡ map fields_of (lines_of bytes)

-- the text is the answer to the script of these bytes, whose lines are all good
abbrev pub IsWorldAnswer : List ℕ → List ℕ → Type 0
IsWorldAnswer bytes text =
    AreLines IsWorldMaker IsWorldCall (lines_of bytes)
    × ((maker : WorldMaker)
    × ((calls : List WorldCall) × (IsWorldScriptOf bytes maker calls × WorldAnswers maker calls text)))
