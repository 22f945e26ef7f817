-- What a report says of a script.
use Rattle.std.specs.Prelude.{◌≡◌, ℤ, List, length, take, All, None, IfSome}
use Rattle.lock_machine.specs.declared.call.Call.{Call}
use Rattle.lock_machine.specs.declared.reply.Reply.{Reply}
use Rattle.lock_script.specs.declared.pair.PairOp.{PairOp}
use Rattle.lock_conform.specs.declared.report.Report.{Report}
use Rattle.lock_conform.specs.Differences.{IsAt}
use Rattle.lock_conform.specs.Entries.{replies_of, IsSilentIfRefused}

-- the report compares a lock's answers to these calls with these replies
pub record IsReport (calls : List (Call PairOp)) (replies : List (Reply ℤ)) (report : Report) : Type 0 where
  -- the answers are the first of the replies
  pub first : replies_of report.entries.items ≡ take (length report.entries.items) replies
  -- without a difference they are all the replies
  pub all : report.difference ≡ None → replies_of report.entries.items ≡ replies
  -- a difference is at the call after the answers
  pub differs : ∥ IfSome report.difference (IsAt calls replies (length report.entries.items)) ∥₁
  -- a refused call asked the raw lock nothing, unless it would block
  pub silent : All IsSilentIfRefused report.entries.items
