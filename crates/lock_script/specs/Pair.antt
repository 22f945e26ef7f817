-- The meaning of the operations on a pair.
use Rattle.std.specs.Prelude.{ℕ, ◌^◌, ℤ, pos, neg_ℤ, ◌+ℤ◌, int_le, int_lt, Bool, ◌&&◌, ◌==◌, nat_lt, if◌then◌else◌}
use Rattle.lock_machine.specs.Operation.{Operation}
use Rattle.lock_script.specs.declared.pair.Pair.{Pair}
use Rattle.lock_script.specs.declared.pair.PairOp.{PairOp}
use Rattle.lock_script.specs.declared.pair.PairOp.TheVariants.{Item, Set, Add}

-- a pair has the items 0 and 1
abbrev pub is_item : ℕ → Bool
is_item k = nat_lt k 2

abbrev pub item : ℕ → Pair → ℤ
item k pair = if k == 0 then pair.first else pair.second

-- the pair with another item
abbrev pub with_item : ℕ → ℤ → Pair → Pair
with_item k n pair = if k == 0 then record pair { first = n } else record pair { second = n }

-- whether the number is a signed number of 64 bits
abbrev pub is_signed : ℤ → Bool
is_signed n = int_le (neg_ℤ (pos (2 ^ 63))) n && int_lt n (pos (2 ^ 63))

abbrev pub item_of : PairOp → ℕ
item_of (Item k) = k
item_of (Set k n) = k
item_of (Add k n) = k

-- the item after an operation
abbrev pub new_item : PairOp → Pair → ℤ
new_item (Item k) pair = item k pair
new_item (Set k n) pair = n
new_item (Add k n) pair = item k pair +ℤ n

-- an operation fits if the pair has its item, and a sum fits in 64 bits
abbrev pub fits : PairOp → Pair → Bool
fits (Item k) pair = is_item k
fits (Set k n) pair = is_item k
fits (Add k n) pair = is_item k && is_signed (item k pair +ℤ n)

-- it answers the item when it reads, and the new item when it changes the pair
abbrev pub meaning : PairOp → Operation Pair ℤ
meaning op = record {
  fits = fits op;
  read_answer = item (item_of op);
  change_answer = new_item op;
  after = λ pair. with_item (item_of op) (new_item op pair) pair;
}
