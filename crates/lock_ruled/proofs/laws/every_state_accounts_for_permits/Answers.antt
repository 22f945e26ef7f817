use Rattle.lock_ruled.proofs.laws.every_state_accounts_for_permits.Goals as goal

pub returns : goal.returns
returns c = λ all s kept. kept.sum
