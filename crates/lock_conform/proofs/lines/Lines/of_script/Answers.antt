use Rattle.std.proofs.Common.{sym}
use Rattle.lock_machine.proofs.ReplyCounts.{length-replies}
use Rattle.lock_script.specs.Pair.{meaning}
use Rattle.lock_conform.proofs.lines.Lines.of_script.Goals as goal

pub invariant_of-result : goal.invariant_of-result
invariant_of-result c =
    record { one_each = rw (c.in_ok-replies.ensures.replies, c.as_slice.ensures.value) (sym (length-replies meaning _ _)) }
