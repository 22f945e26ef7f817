-- The word of a condition variable: its count of waits, how many of them are not claimed, and its epoch.
use Rattle.std.specs.Prelude.{ℕ, ◌+◌, ◌-◌, ◌*◌, ◌/◌, ◌%◌, ◌^◌, ◌<◌, min, Bool, ◌==◌, ◌&&◌, ◌||◌, nat_lt, if◌then◌else◌}
use Rattle.lock_events.specs.declared.word.EventWord.{EventWord}

-- no wait registers in the last epoch while one is counted
abbrev pub last_epoch : ℕ
last_epoch = 2 ^ 32 - 1

abbrev pub most_waits : ℕ
most_waits = 2 ^ 24 - 1

-- this many waits are not claimed, or more
abbrev pub many : ℕ
many = 2 ^ 8 - 1

-- from the high bits down: 24 bits of the count, 8 of the waits that are not claimed, and 32 of the epoch
unfoldable pub decoded : ℕ → EventWord
decoded w = record { count = w / 2 ^ 40; unclaimed = w / 2 ^ 32 % 2 ^ 8; epoch = w % 2 ^ 32 }

unfoldable pub encoded : EventWord → ℕ
encoded v = v.count * 2 ^ 40 + v.unclaimed * 2 ^ 32 + v.epoch

-- what a wait subtracts from the word when it ends
abbrev pub one_wait : ℕ
one_wait = 2 ^ 40

-- each number fits its bits
pub record IsSmall (v : EventWord) : Type 0 where
  pub count : v.count < 2 ^ 24
  pub unclaimed : v.unclaimed < 2 ^ 8
  pub epoch : v.epoch < 2 ^ 32

-- how many waits are not claimed. A wait that ends subtracts from the count alone: it takes a claim away, if there is one
abbrev pub unclaimed_in : EventWord → ℕ
unclaimed_in v = min v.count v.unclaimed

-- one more wait may register
abbrev pub takes_in : EventWord → Bool
takes_in v = nat_lt v.count most_waits && ((v.count == 0) || nat_lt v.epoch last_epoch)

-- a notification of all has nobody to wake, or one of one, for which each counted wait is claimed
abbrev pub has_none : Bool → EventWord → Bool
has_none all v = if all then v.count == 0 else unclaimed_in v == 0

-- one more wait registers. The first one begins the epochs anew
abbrev pub with_wait : EventWord → EventWord
with_wait v =
    if v.count == 0 then record { count = 1; unclaimed = 1; epoch = 0 }
    else record { count = v.count + 1; unclaimed = min (unclaimed_in v + 1) many; epoch = v.epoch }

-- one less, unless it was not counted how many
abbrev pub one_less : ℕ → ℕ
one_less n = if nat_lt n many then n - 1 else many

-- a notification ends the epoch, and claims all waits, or one more
abbrev pub in_next_epoch : Bool → EventWord → EventWord
in_next_epoch all v = record { count = v.count; unclaimed = if all then 0 else one_less (unclaimed_in v); epoch = v.epoch + 1 }
