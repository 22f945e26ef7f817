-- Answers as text.
use Rattle.std.specs.Prelude.{ℕ, ℤ, true, false, List, [], ◌∷◌, ◌++◌, codes, decimal}
use Rattle.std.specs.Fmt.{signed_decimal}
use Rattle.std.specs.List.{flat_map}
use Rattle.lock_machine.specs.declared.reply.Reply.{Reply}
use Rattle.lock_modes.specs.Fault.{number_of}
use Rattle.lock_script.specs.declared.answer.Answer.{Answer}

-- the text of a reply
abbrev pub reply_text : Reply ℤ → List ℕ
reply_text (Reply.Guard number) = codes "guard " ++ decimal number
reply_text Reply.NoGuard = codes "none"
reply_text Reply.Done = codes "ok"
reply_text (Reply.Answer item) = codes "value " ++ signed_decimal item
reply_text (Reply.Bool true) = codes "yes"
reply_text (Reply.Bool false) = codes "no"
reply_text (Reply.Count number) = codes "count " ++ decimal number
reply_text (Reply.Refused fault) = codes "refused " ++ decimal (number_of fault)

-- the text of an answer
abbrev pub answer_text : Answer → List ℕ
answer_text (Answer.Reply reply) = reply_text reply
answer_text (Answer.Loaded word) = codes "loaded " ++ decimal word
answer_text Answer.Made = codes "done"
answer_text Answer.NotAdmitted = codes "not admitted"
answer_text Answer.Changed = codes "changed"

-- an answer and its line feed
abbrev pub answer_line : Answer → List ℕ
answer_line answer = answer_text answer ++ (10 ∷ [])

-- answers, a line each
abbrev pub answer_lines : List Answer → List ℕ
answer_lines answers = flat_map answer_line answers

-- replies, a line each
abbrev pub reply_lines : List (Reply ℤ) → List ℕ
reply_lines replies = flat_map (λ reply. answer_line (Answer.Reply reply)) replies
