-- A line on which a lock differs from the `Desk`.
use Rattle.std.specs.Prelude.{◌≡◌, ◌≢◌, ℕ, ℤ, ◌+◌, List, Some}
use Rattle.std.specs.List.{slice_get}
use Rattle.lock_machine.specs.declared.call.Call.{Call}
use Rattle.lock_machine.specs.declared.reply.Reply.{Reply}
use Rattle.lock_script.specs.declared.pair.PairOp.{PairOp}
use Rattle.lock_conform.specs.declared.report.Difference.{Difference}

-- the difference is at the call that so many calls precede: its call, the reply of the `Desk`, and another one. The
-- first line of the script makes the lock
pub record IsAt (calls : List (Call PairOp)) (replies : List (Reply ℤ)) (before : ℕ) (d : Difference) : Type 0 where
  pub line : d.line ≡ before + 2
  pub call : slice_get calls before ≡ Some d.call
  pub wanted : slice_get replies before ≡ Some d.wanted
  pub differs : d.found ≢ d.wanted
