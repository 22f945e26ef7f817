use Rattle.std.proofs.Common.{◌≤◌, drop}
use Rattle.lock_api.specs.declared.model.Bag.{Bag}
use Rattle.lock_api.specs.Modes.{empty_bag, tokens}
use Rattle.lock_api.specs.ModeRuns.{IsModeRun}
use Rattle.lock_examples.proofs.desk.journal.audit.Given as goal

-- the steps so far led here: what is left runs from here just where all of them run from nothing
abbrev pub invariant-loop-index : goal.invariant-loop-index
invariant-loop-index l =
    record {
      made : (last : Bag) → IsModeRun l.limit l.out (drop l.index l.steps) last → IsModeRun l.limit empty_bag l.steps last;
      left : (last : Bag) → IsModeRun l.limit empty_bag l.steps last → IsModeRun l.limit l.out (drop l.index l.steps) last;
      few : tokens l.out ≤ l.index;
    }
