use Rattle.std.proofs.Common.{◌≡◌, ℕ, List, [], ◌∷◌, subst}
use Rattle.std.specs.Prelude.{IfOk}
use Rattle.lock_api.specs.declared.model.Call.{Call}
use Rattle.lock_api.specs.declared.model.Form.{Form}
use Rattle.lock_api.specs.declared.model.Want.{Want}
use Rattle.lock_api.specs.Machine.{Machine}
use Rattle.lock_api.specs.Steps.{replies}
use Rattle.lock_examples.specs.declared.desk.account.AccountOp.{AccountOp}
use Rattle.lock_examples.specs.Account.{entry_of}
use Rattle.lock_examples.proofs.desk.calls.deposit_under_lock.Goals as goal

pub returns : goal.returns
returns g c =
    let calls : List (Call AccountOp) =
    Call.Acquire Want.Lock Form.Block c.args.party
    ∷ Call.Change c.args.party 1 (AccountOp.Deposit 250)
    ∷ Call.Change c.args.party 1 (AccountOp.Withdraw 300)
    ∷ [] in
    subst (λ (m : Machine ℕ). IfOk c.run.result (λ told. told.items ≡ replies entry_of m calls)) c.in_ok-desk.ensures.made c.run.ensures.replies
