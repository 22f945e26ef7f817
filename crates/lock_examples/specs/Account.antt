-- The meaning of an operation on an account.
use Rattle.std.specs.Prelude.{ℕ, ◌+◌, ◌-◌, ◌^◌, Bool, nat_lt, nat_le}
use Rattle.lock_api.specs.Operation.{Operation}
use Rattle.lock_examples.specs.declared.desk.account.AccountOp.{AccountOp}
use Rattle.lock_examples.specs.declared.desk.account.AccountOp.TheVariants.{Deposit, Withdraw}

-- whether the balance has room for it
abbrev pub fits : AccountOp → ℕ → Bool
fits (Deposit cents) balance = nat_lt (balance + cents) (2 ^ 64)
fits (Withdraw cents) balance = nat_le cents balance

-- the balance after it
abbrev pub after : AccountOp → ℕ → ℕ
after (Deposit cents) balance = balance + cents
after (Withdraw cents) balance = balance - cents

abbrev pub entry_of : AccountOp → Operation ℕ ℕ
entry_of entry = record {
  fits = fits entry;
  read_answer = λ balance. balance;
  change_answer = after entry;
  after = after entry;
}
