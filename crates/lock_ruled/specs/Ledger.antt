-- The rules about the sum of what users have.
use Rattle.std.specs.Prelude.{◌≡◌, ℕ, ◌+◌, List, sum_by}
use Rattle.lock_ruled.specs.EachView.{Each}
use Rattle.lock_ruled.specs.declared.ledger.Share.{Share}

-- what all users together have
abbrev pub held : List Share → ℕ
held shares = sum_by (λ share. share.own) shares

-- what is left, and what all users have, is all that there is, as each of them knows
abbrev pub IsBalanced : ℕ → List Share → Type 0
IsBalanced left shares = Each (λ share. left + held shares ≡ share.all) shares

-- what is left and what one user has may move between them
abbrev pub Moves : ℕ → Share → ℕ → Share → Type 0
Moves left share left' share' = (left' + share'.own ≡ left + share.own) × (share'.all ≡ share.all)

abbrev pub IsShared : Share → Share → Share → Type 0
IsShared whole one other = (one.own + other.own ≡ whole.own) × (one.all ≡ whole.all) × (other.all ≡ whole.all)

abbrev pub IsMerged : Share → Share → Share → Type 0
IsMerged one other whole = (whole.own ≡ one.own + other.own) × (whole.all ≡ one.all)
