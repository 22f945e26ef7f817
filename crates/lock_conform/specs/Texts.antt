-- Reports as text.
use Rattle.std.specs.Prelude.{ℕ, Bool, List, [], ◌∷◌, ◌++◌, codes, if◌then◌else◌}
use Rattle.std.specs.List.{flat_map}
use Rattle.lock_machine.specs.declared.reply.Reply.{Reply}
use Rattle.lock_script.specs.declared.answer.Answer.{Answer}
use Rattle.lock_script.specs.Answers.{answer_line}
use Rattle.lock_conform.specs.declared.report.ReportEntry.{ReportEntry}
use Rattle.lock_conform.specs.declared.report.Report.{Report}
use Rattle.lock_recorder.specs.declared.raw_call.RawCall.{RawCall}
use Rattle.lock_recorder.specs.RawCalls.{raw_call_line}

-- a line for each raw call, where they are printed
abbrev pub raw_call_lines : Bool → List RawCall → List ℕ
raw_call_lines prints_calls calls = if prints_calls then flat_map raw_call_line calls else []

-- an answer, and the raw calls of its line
abbrev pub entry_text : Bool → ReportEntry → List ℕ
entry_text prints_calls entry = answer_line (Answer.Reply entry.reply) ++ raw_call_lines prints_calls entry.raw_calls.items

-- the answer to the maker, those to the calls, and the raw calls at the end
abbrev pub report_text : Bool → Report → List ℕ
report_text prints_calls report =
    answer_line (Answer.Reply Reply.Done) ++ flat_map (entry_text prints_calls) report.entries.items
    ++ raw_call_lines prints_calls report.last_calls.items
