-- What a release does about S, and what it owes, pays.
use Rattle.std.proofs.Common.{◌≡◌, ℕ, not, ◌^◌, ◌<◌, ◌≤◌, Bool, true, false, ◌||◌, ◌==◌, nat_lt, if◌then◌else◌, refl, ltb-true, ◌%◌}
use Rattle.lock_one.specs.declared.sleep_view.WordLimits.{WordLimits}
use Rattle.lock_one.specs.declared.sleep_view.Debt.{Debt}
use Rattle.lock_one.specs.declared.sleep_view.Debt.TheVariants as debt
use Rattle.lock_one.specs.Machine.{core_of, has_turn, under_bar, frees_word}
use Rattle.lock_one.proofs.Kept.{IsPaid, is_unset, is_unneeded, is_barred, is_shared_bar, is_turned, is_all, is_one, frees}
use Rattle.lock_one.proofs.Words.{not_below}

abbrev after_turn : ℕ → Bool → Bool × Debt
after_turn readers t = if t then (true, debt.Turn) else (false, if readers == 1 then debt.One else debt.All)

abbrev after_bar : ℕ → ℕ → Bool → Bool × Debt
after_bar readers word low = if not low then (true, under_bar readers word) else after_turn readers (has_turn word)

abbrev after_need : ℕ → ℕ → ℕ → Bool → Bool × Debt
after_need readers word left frees = if not frees then (true, debt.Nothing) else after_bar readers word (nat_lt left (2 ^ 34))

abbrev limits_for : ℕ → WordLimits
limits_for readers = record { readers = readers; wakes_one = readers == 1 }

which : (readers core left : ℕ) (t s now b : Bool) → (readers == 1) ≡ b → left < 2 ^ 34 → IsPaid (limits_for readers) core left t s now (if b then debt.One else debt.All)
which readers core left t s now true e low = is_one e low
which readers core left t s now false e low = is_all

barred_pays : (readers core left : ℕ) (t s b : Bool) → 2 ^ 34 ≤ left → IsPaid (limits_for readers) core left t s true (if b then debt.Next else debt.Turn)
barred_pays readers core left t s true high = is_barred high refl
barred_pays readers core left t s false high = is_shared_bar high refl

abbrev shares_bar : ℕ → ℕ → Bool
shares_bar readers word = (readers == 1) || (has_turn word || nat_lt (core_of word % 2 ^ 34) (2 ^ 33))

pays_turn : (readers core left : ℕ) (t s b : Bool) → t ≡ b → left < 2 ^ 34
    → IsPaid (limits_for readers) core left t s (after_turn readers b).0 (after_turn readers b).1
pays_turn readers core left t s true e low = is_turned e refl
pays_turn readers core left t s false e low = which readers core left t s false (readers == 1) refl low

pays_bar : (readers word left : ℕ) (s low : Bool) → nat_lt left (2 ^ 34) ≡ low
    → IsPaid (limits_for readers) (core_of word) left (has_turn word) s (after_bar readers word low).0 (after_bar readers word low).1
pays_bar readers word left s true e = pays_turn readers (core_of word) left (has_turn word) s (has_turn word) refl (ltb-true left (2 ^ 34) e)
pays_bar readers word left s false e = barred_pays readers (core_of word) left (has_turn word) s (shares_bar readers word) (not_below left (2 ^ 34) e)

pays_need : (readers word left : ℕ) (s b : Bool) → frees_word readers (core_of word) left ≡ b
    → IsPaid (limits_for readers) (core_of word) left (has_turn word) s (after_need readers word left b).0 (after_need readers word left b).1
pays_need readers word left s true e = pays_bar readers word left s (nat_lt left (2 ^ 34)) refl
pays_need readers word left s false e = is_unneeded e refl

-- of a subtraction, which leaves S as it was
pays_staying_turn : (readers core left : ℕ) (t b : Bool) → t ≡ b → left < 2 ^ 34 → IsPaid (limits_for readers) core left t true true (after_turn readers b).1
pays_staying_turn readers core left t true e low = is_turned e refl
pays_staying_turn readers core left t false e low = which readers core left t true true (readers == 1) refl low

pays_staying_bar : (readers word left : ℕ) (low : Bool) → nat_lt left (2 ^ 34) ≡ low
    → IsPaid (limits_for readers) (core_of word) left (has_turn word) true true (after_bar readers word low).1
pays_staying_bar readers word left true e = pays_staying_turn readers (core_of word) left (has_turn word) (has_turn word) refl (ltb-true left (2 ^ 34) e)
pays_staying_bar readers word left false e = barred_pays readers (core_of word) left (has_turn word) true (shares_bar readers word) (not_below left (2 ^ 34) e)

pays_staying_need : (readers word left : ℕ) (b : Bool) → frees_word readers (core_of word) left ≡ b
    → IsPaid (limits_for readers) (core_of word) left (has_turn word) true true (after_need readers word left b).1
pays_staying_need readers word left true e = pays_staying_bar readers word left (nat_lt left (2 ^ 34)) refl
pays_staying_need readers word left false e = is_unneeded e refl

pub pays_staying : (s : Bool) (readers word left : ℕ)
    → IsPaid (limits_for readers) (core_of word) left (has_turn word) s s
    (if not s then (false, debt.Nothing) else after_need readers word left (frees_word readers (core_of word) left)).1
pays_staying false readers word left = is_unset refl
pays_staying true readers word left = pays_staying_need readers word left (frees_word readers (core_of word) left) refl

pub pays : (s : Bool) (readers word left : ℕ)
    → IsPaid (limits_for readers) (core_of word) left (has_turn word) s
    (if not s then (false, debt.Nothing) else after_need readers word left (frees_word readers (core_of word) left)).0
    (if not s then (false, debt.Nothing) else after_need readers word left (frees_word readers (core_of word) left)).1
pays false readers word left = is_unset refl
pays true readers word left = pays_need readers word left true (frees_word readers (core_of word) left) refl
