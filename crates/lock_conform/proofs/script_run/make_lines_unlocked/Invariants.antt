-- The lines stay the same, and each turn one more is done.
use Rattle.std.proofs.Common.{◌≡◌, ◌≤◌}
use Rattle.lock_conform.specs.Done.{lines_done}
use Rattle.lock_conform.proofs.script_run.make_lines_unlocked.Given as goal

abbrev pub invariant-loop-at : goal.invariant-loop-at
invariant-loop-at g l = (l.comparison.lines ≡ l.initial.comparison.lines) × (l.at ≤ lines_done l.comparison)
