-- The replies so far, and what is left of them, are all.
use Rattle.std.proofs.Common.{◌≡◌, ◌++◌, drop, string_bytes}
use Rattle.lock_script.specs.Answers.{reply_lines}
use Rattle.lock_script.proofs.session.write_replies.Given as goal

abbrev pub invariant-loop-reply : goal.invariant-loop-reply
invariant-loop-reply l =
    string_bytes l.text ++ reply_lines (drop l.reply-index l.replies)
    ≡ string_bytes l.initial.text ++ reply_lines l.replies
