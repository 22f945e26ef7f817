-- What the users of a ledger do keeps its rule.
use Rattle.std.proofs.Common.{◌≡◌, ℕ, ◌+◌, ◌≤◌, List, [], ◌∷◌, ◌++◌, arith}
use Rattle.lock_ruled.specs.declared.ledger.Share.{Share}
use Rattle.lock_ruled.specs.Ledger.{held, IsBalanced, Moves, IsShared, IsMerged}
use Rattle.lock_ruled.specs.Ruled.{Meets, Splits, Joins}
use Rattle.lock_ruled.specs.EachViews.{replaced, divided, united_first, united_second, one}
use Rattle.lock_ruled.specs.Sums.{around, around_two, with_last, between_first, between_second}

abbrev own_of : Share → ℕ
own_of share = share.own

-- a user knows of this total
abbrev Knows : ℕ → Share → Type 0
Knows total share = total ≡ share.all

same_total : (total total' : ℕ) → total' ≡ total → (share : Share) → Knows total share → Knows total' share
same_total total total' same share knows = omega arith

pub moves_keep : (left left' : ℕ) (share share' : Share) → Moves left share left' share'
    → (before after : List Share) → IsBalanced left (before ++ share ∷ after) → IsBalanced left' (before ++ share' ∷ after)
moves_keep left left' share share' moves before after balanced =
    let total = left + held (before ++ share ∷ after) in
    let total' = left' + held (before ++ share' ∷ after) in
    let same : total' ≡ total = omega (arith, around own_of before after share, around own_of before after share', moves.0) in
    replaced (Knows total) (Knows total') (same_total total total' same) before after share share'
    (λ knows. omega (arith, moves.1)) balanced

module _ {T : Type 0} (measure : T → ℕ) where
  abbrev Rule : T → List Share → Type 0
  Rule value shares = IsBalanced (measure value) shares

  pub shares_keep : (whole left right : Share) → IsShared whole left right → Splits Rule whole left right
  shares_keep whole left right shared value before after balanced =
      let total = measure value + held (before ++ whole ∷ after) in
      let total' = measure value + held (before ++ left ∷ (after ++ right ∷ [])) in
      let same : total' ≡ total = omega (arith, around own_of before after whole, with_last own_of before after left right, shared.0) in
      divided (Knows total) (Knows total') (same_total total total' same) before after whole left right
      (λ knows. omega (arith, shared.1)) (λ knows. omega (arith, shared.2)) balanced

  pub merges_keep : (share other whole : Share) → IsMerged share other whole → Joins Rule share other whole
  merges_keep share other whole merged =
      record {
        earlier = λ value before between after balanced.
            (let total = measure value + held (before ++ share ∷ (between ++ other ∷ after)) in
            let total' = measure value + held (before ++ whole ∷ (between ++ after)) in
            let same : total' ≡ total = omega (arith, around_two own_of before between after share other, between_first own_of before between after whole, merged.0) in
            united_first (Knows total) (Knows total') (same_total total total' same) before between after share other whole
            (λ knows _. omega (arith, merged.1)) balanced);
        later = λ value before between after balanced.
            (let total = measure value + held (before ++ other ∷ (between ++ share ∷ after)) in
            let total' = measure value + held (before ++ (between ++ whole ∷ after)) in
            let same : total' ≡ total = omega (arith, around_two own_of before between after other share, between_second own_of before between after whole, merged.0) in
            united_second (Knows total) (Knows total') (same_total total total' same) before between after other share whole
            (λ _ knows. omega (arith, merged.1)) balanced);
      }

  pub met_share : (value : T) (share : Share) → Meets Rule value share → measure value + share.own ≤ share.all
  met_share value share met =
      let total = measure value + held (met.0 ++ share ∷ met.1) in
      let knows = one (Knows total) met.0 met.1 share met.2 in
      omega (arith, around own_of met.0 met.1 share, knows)

pub last_share : (left : ℕ) (share : Share) → IsBalanced left (share ∷ []) → left + share.own ≡ share.all
last_share left share balanced =
    let knows = balanced.0 in
    omega (arith, around own_of [] [] share, knows)
