-- The answers so far, and those to what is left, are those to all.
use Rattle.std.proofs.Common.{◌≡◌, ◌++◌, drop, string_bytes}
use Rattle.lock_script.specs.Answers.{answer_lines}
use Rattle.lock_script.specs.WorldSession.{all_answers}
use Rattle.lock_script.proofs.world_session.write_calls.Given as goal

abbrev pub invariant-loop-call : goal.invariant-loop-call
invariant-loop-call l =
    string_bytes l.text ++ answer_lines (all_answers l.world (drop l.call-index l.calls))
    ≡ string_bytes l.initial.text ++ answer_lines (all_answers l.initial.world l.calls)
