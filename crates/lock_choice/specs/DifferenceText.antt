-- The line on a difference.
use Rattle.std.specs.Prelude.{ℕ, List, ◌++◌, codes, decimal}
use Rattle.lock_script.specs.Answers.{reply_text}
use Rattle.lock_conform.specs.declared.report.Difference.{Difference}

-- the number and the text of the script's line, and both answers
abbrev pub difference_text : List ℕ → Difference → List ℕ
difference_text line difference =
    codes "line " ++ (decimal difference.line ++ (codes ", " ++ (line
    ++ (codes ": the lock answers " ++ (reply_text difference.found
    ++ (codes ", the Desk " ++ reply_text difference.wanted))))))
