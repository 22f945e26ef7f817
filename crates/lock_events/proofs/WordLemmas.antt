-- What a word encodes comes back, and what its steps leave.
use Rattle.std.proofs.Common.{◌≡◌, ℕ, ◌+◌, ◌-◌, ◌*◌, ◌/◌, ◌%◌, ◌^◌, ◌<◌, ◌≤◌, bit_or, refl, ap, ◌∙◌, arith}
use Rattle.std.proofs.lemmas.Nat.{or_shr, or_mod, or_lt, le_or_r}
use lib.Bits.{or_zero_r}
use Rattle.lock_events.specs.declared.word.EventWord.{EventWord}
use Rattle.lock_events.specs.Words.{last_epoch, most_waits, one_wait, decoded, encoded}

back_count : (n k e : ℕ) → k < 2 ^ 8 → e < 2 ^ 32 → (n * 2 ^ 40 + k * 2 ^ 32 + e) / 2 ^ 40 ≡ n
back_count n k e few low = omega arith

back_unclaimed : (n k e : ℕ) → k < 2 ^ 8 → e < 2 ^ 32 → (n * 2 ^ 40 + k * 2 ^ 32 + e) / 2 ^ 32 % 2 ^ 8 ≡ k
back_unclaimed n k e few low = omega arith

back_epoch : (n k e : ℕ) → k < 2 ^ 8 → e < 2 ^ 32 → (n * 2 ^ 40 + k * 2 ^ 32 + e) % 2 ^ 32 ≡ e
back_epoch n k e few low = omega arith

abbrev pub word_of : ℕ → ℕ → ℕ → EventWord
word_of n k e = record { count = n; unclaimed = k; epoch = e }

same_word : (n n' k k' e e' : ℕ) → n ≡ n' → k ≡ k' → e ≡ e' → word_of n k e ≡ word_of n' k' e'
same_word n n' k k' e e' a b c = cc

-- a word is decoded as it was encoded
pub back : (v : EventWord) → v.unclaimed < 2 ^ 8 → v.epoch < 2 ^ 32 → decoded (encoded v) ≡ v
unfolding decoded encoded
back v few low =
    same_word _ v.count _ v.unclaimed _ v.epoch (back_count v.count v.unclaimed v.epoch few low) (back_unclaimed v.count v.unclaimed v.epoch few low)
    (back_epoch v.count v.unclaimed v.epoch few low)

pub unclaimed_small : (w : ℕ) → (decoded w).unclaimed < 2 ^ 8
unfolding decoded
unclaimed_small w = omega arith

pub epoch_small : (w : ℕ) → (decoded w).epoch < 2 ^ 32
unfolding decoded
epoch_small w = omega arith

pub word_small : (w : ℕ) → (decoded w).count ≤ most_waits → w < 2 ^ 64
unfolding decoded
word_small w few = omega arith

pub zero_word : decoded 0 ≡ word_of 0 0 0
unfolding decoded
zero_word = refl

-- what a wait that ends leaves
pub back_leave : (w : ℕ) → 1 ≤ (decoded w).count
    → decoded (w - one_wait) ≡ word_of ((decoded w).count - 1) (decoded w).unclaimed (decoded w).epoch
unfolding decoded
back_leave w some =
    same_word ((w - one_wait) / 2 ^ 40) (w / 2 ^ 40 - 1) ((w - one_wait) / 2 ^ 32 % 2 ^ 8) (w / 2 ^ 32 % 2 ^ 8) ((w - one_wait) % 2 ^ 32) (w % 2 ^ 32)
    (omega arith) (omega arith) (omega arith)

-- what the step that begins the last epoch leaves
same_high : (w : ℕ) → bit_or w last_epoch / 2 ^ 32 ≡ w / 2 ^ 32
same_high w = or_shr w last_epoch 32 ∙ or_zero_r (w / 2 ^ 32)

last_low : (w : ℕ) → bit_or w last_epoch % 2 ^ 32 ≡ last_epoch
last_low w =
    let part : bit_or w last_epoch % 2 ^ 32 ≡ bit_or (w % 2 ^ 32) last_epoch = or_mod w last_epoch 32 in
    let least : last_epoch ≤ bit_or (w % 2 ^ 32) last_epoch = le_or_r (w % 2 ^ 32) last_epoch in
    let most : bit_or (w % 2 ^ 32) last_epoch < 2 ^ 32 = or_lt 32 (w % 2 ^ 32) last_epoch (omega arith) (omega arith) in
    omega arith

pub back_last : (w : ℕ) → decoded (bit_or w last_epoch) ≡ word_of (decoded w).count (decoded w).unclaimed last_epoch
unfolding decoded
back_last w =
    let high = same_high w in
    same_word (bit_or w last_epoch / 2 ^ 40) (w / 2 ^ 40) (bit_or w last_epoch / 2 ^ 32 % 2 ^ 8) (w / 2 ^ 32 % 2 ^ 8) (bit_or w last_epoch % 2 ^ 32) last_epoch
    (omega arith) (ap (λ n. n % 2 ^ 8) high) (last_low w)

pub has_one : (w : ℕ) → 1 ≤ (decoded w).count → one_wait ≤ w
unfolding decoded
has_one w some = omega arith
