-- The first line by the place of the first line feed.
use Rattle.std.proofs.Common.{◌≡◌, ◌==◌, ℕ, suc, ◌+◌, ◌<◌, Bool, true, false, not, cond, List, [], ◌∷◌, length, take, drop, ◌-◌, Some, subst, refl, ap, arith}
use Rattle.std.specs.Prelude.{position}
use Rattle.std.proofs.Common.{add-one, take_all, length-drop, le_refl}
use Rattle.std.proofs.Math.Numerals.{one-add}
use Rattle.std.proofs.lemmas.List.Quantifiers.{position-Some}
use Rattle.std.specs.List.{onto_first, position_or_len}
use Rattle.script_text.specs.Lines.{lines_of}
use Rattle.script_text.proofs.Cuts.{place_found}

-- one more byte in front, where t says whether it is a line feed
lines_of-step : (t : Bool) (x : ℕ) (rest : List ℕ) (m : ℕ) → lines_of rest ≡ take m rest ∷ lines_of (drop (suc m) rest)
    → cond t ([] ∷ lines_of rest) (onto_first x (lines_of rest)) ≡ take (cond (not t) (1 + m) 0) (x ∷ rest) ∷ lines_of (drop (suc (cond (not t) (1 + m) 0)) (x ∷ rest))
lines_of-step true x rest m h = refl
lines_of-step false x rest m h = rw one-add (ap (onto_first x) h)

lines_of-one : (t : Bool) (x : ℕ) → cond t ([] ∷ []) ((x ∷ []) ∷ []) ≡ take (cond (not t) (1 + 0) 0) (x ∷ []) ∷ lines_of (drop (suc (cond (not t) (1 + 0) 0)) (x ∷ []))
lines_of-one true x = refl
lines_of-one false x = refl

-- the first line is what stands before the first line feed, or all where there is none
pub lines_of-first : (xs : List ℕ) → 0 < length xs → lines_of xs ≡ take (position_or_len (λ b. b == 10) xs) xs ∷ lines_of (drop (suc (position_or_len (λ b. b == 10) xs)) xs)
lines_of-first [] h = absurd (omega arith)
lines_of-first (x ∷ []) h = lines_of-one (x == 10) x
lines_of-first (x ∷ y ∷ ys) h = lines_of-step (x == 10) x (y ∷ ys) _ (lines_of-first (y ∷ ys) (omega arith))

-- the same by the place that a search for the first line feed found
pub lines_of-at : (xs : List ℕ) (at : ℕ) → position (λ b. b == 10) xs ≡ Some at → lines_of xs ≡ take at xs ∷ lines_of (drop (at + 1) xs)
lines_of-at xs at found =
    let within : at < length xs = (position-Some (λ b. b == 10) xs at 0 found).0 in
    let n = position_or_len (λ b. b == 10) xs in
    let same : n ≡ at = place_found (λ b. b == 10) xs at found in
    rw add-one (subst (λ k. lines_of xs ≡ take k xs ∷ lines_of (drop (suc k) xs)) same (lines_of-first xs (omega arith)))

-- where what stands after it is taken to the end
pub lines_of-rest : (xs : List ℕ) (at : ℕ) → position (λ b. b == 10) xs ≡ Some at → lines_of xs ≡ take at xs ∷ lines_of (take (length xs - (at + 1)) (drop (at + 1) xs))
lines_of-rest xs at found =
    let whole : take (length xs - (at + 1)) (drop (at + 1) xs) ≡ drop (at + 1) xs = take_all _ _ (rw length-drop (le_refl _)) in
    rw whole (lines_of-at xs at found)
