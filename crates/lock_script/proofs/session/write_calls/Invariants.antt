-- The replies so far, and those to what is left, are those to all.
use Rattle.std.proofs.Common.{◌≡◌, ◌++◌, length, string_bytes}
use Rattle.lock_machine.specs.Steps.{replies}
use Rattle.lock_script.specs.Answers.{reply_lines}
use Rattle.lock_script.specs.Pair.{meaning}
use Rattle.lock_script.proofs.session.write_calls.Given as goal

abbrev pub invariant-loop-rest : goal.invariant-loop-rest
invariant-loop-rest g l =
    string_bytes l.text ++ reply_lines (replies meaning l.desk l.rest)
    ≡ string_bytes l.initial.text ++ reply_lines (replies meaning l.initial.desk l.calls)

abbrev pub decreases-loop-rest : goal.decreases-loop-rest
decreases-loop-rest g l = length l.rest
