-- The tickets that did not leave.
use Rattle.std.proofs.Common.{◌≡◌, ℕ, suc, zero, ◌+◌, ◌-◌, ◌/◌, ◌%◌, ◌<◌, ◌≤◌, Bool, true, false, ◌&&◌, List, [], ◌∷◌, ◌++◌, refl, sym, ap, ◌∙◌, subst, arith}
use Rattle.std.specs.Prelude.{◌≢◌, ◌==◌, nat_lt, if◌then◌else◌}
use Rattle.std.specs.Int.{bit_at}
use Rattle.std.proofs.lemmas.Bool.Decides.{nat_tests}
use Rattle.std.proofs.lemmas.Nat.Bits.{bit_at-suc, bit_at_lowest, same_from_bits}
use Rattle.lock_raws_fair.specs.Tickets.{staying, without, is_among}

-- a ticket whose bit is 0 did not leave
pub low_stays : (left : ℕ) → bit_at left 0 ≡ 0 → (left % 2 == 1) ≡ false
low_stays left none = let low = bit_at_lowest left in grind (arith, nat_tests)

pub low_left : (left : ℕ) → bit_at left 0 ≡ 1 → (left % 2 == 1) ≡ true
low_left left some = let low = bit_at_lowest left in grind (arith, nat_tests)

-- one more ticket
pub staying_more : (n first left : ℕ) → bit_at left n ≡ 0
    → staying (suc n) first left ≡ staying n first left ++ (first + n) ∷ []
staying_more zero first left none =
    let e : first + 0 ≡ first = omega arith in
    rw (low_stays left none, e) refl
staying_more (suc n) first left none =
    let half : bit_at (left / 2) n ≡ 0 = sym (bit_at-suc left n) ∙ none in
    let more = staying_more n (first + 1) (left / 2) half in
    let e : (first + 1) + n ≡ first + suc n = omega arith in
    elim (left % 2 == 1) as (λ (b : Bool). (if b then staying (suc n) (first + 1) (left / 2) else first ∷ staying (suc n) (first + 1) (left / 2))
    ≡ (if b then staying n (first + 1) (left / 2) else first ∷ staying n (first + 1) (left / 2)) ++ (first + suc n) ∷ []) [
      | true ↦ more ∙ ap (λ k. staying n (first + 1) (left / 2) ++ k ∷ []) e
      | false ↦ ap (λ (xs : List ℕ). first ∷ xs) (more ∙ ap (λ k. staying n (first + 1) (left / 2) ++ k ∷ []) e)
    ]

-- a ticket before the first is not among them
pub without_earlier : (n first left t : ℕ) → t < first → without t (staying n first left) ≡ staying n first left
without_earlier zero first left t before = refl
without_earlier (suc n) first left t before =
    let rest = without_earlier n (first + 1) (left / 2) t (omega arith) in
    let other : (first == t) ≡ false = grind (arith, nat_tests) in
    elim (left % 2 == 1) as (λ (b : Bool). without t (if b then staying n (first + 1) (left / 2) else first ∷ staying n (first + 1) (left / 2))
    ≡ (if b then staying n (first + 1) (left / 2) else first ∷ staying n (first + 1) (left / 2)))
    [ true ↦ rest | false ↦ rw other (ap (λ (xs : List ℕ). first ∷ xs) rest) ]

-- numbers that differ in the lowest bit alone have the same half
halves : (a b i : ℕ) → ((j : ℕ) → j ≢ i → bit_at b j ≡ bit_at a j) → i ≡ 0 → b / 2 ≡ a / 2
halves a b i same is = same_from_bits (b / 2) (a / 2) (λ j. sym (bit_at-suc b j) ∙ (same (suc j) (omega arith) ∙ bit_at-suc a j))

-- setting a bit removes its ticket
pub staying_marked : (n first i a b : ℕ) → bit_at b i ≡ 1 → ((j : ℕ) → j ≢ i → bit_at b j ≡ bit_at a j)
    → staying n first b ≡ without (first + i) (staying n first a)
staying_marked zero first i a b marked same = refl
staying_marked (suc n) first zero a b marked same =
    let half : b / 2 ≡ a / 2 = halves a b 0 same refl in
    let rest = without_earlier n (first + 1) (a / 2) (first + 0) (omega arith) in
    let here : (first == first + 0) ≡ true = grind (arith, nat_tests) in
    let kept : staying n (first + 1) (b / 2) ≡ without (first + 0) (staying n (first + 1) (a / 2)) = rw half (sym rest) in
    rw (low_left b marked)
    (elim (a % 2 == 1) as (λ (c : Bool). staying n (first + 1) (b / 2)
    ≡ without (first + 0) (if c then staying n (first + 1) (a / 2) else first ∷ staying n (first + 1) (a / 2)))
    [ true ↦ kept | false ↦ rw here kept ])
staying_marked (suc n) first (suc i) a b marked same =
    let rest = staying_marked n (first + 1) i (a / 2) (b / 2) (sym (bit_at-suc b i) ∙ marked)
    (λ j other. sym (bit_at-suc b j) ∙ (same (suc j) (omega arith) ∙ bit_at-suc a j)) in
    let e : (first + 1) + i ≡ first + suc i = omega arith in
    let rest' : staying n (first + 1) (b / 2) ≡ without (first + suc i) (staying n (first + 1) (a / 2)) = subst (λ k. staying n (first + 1) (b / 2) ≡ without k (staying n (first + 1) (a / 2))) e rest in
    let other : (first == first + suc i) ≡ false = grind (arith, nat_tests) in
    let low : b % 2 ≡ a % 2 = sym (bit_at_lowest b) ∙ (same 0 (omega arith) ∙ bit_at_lowest a) in
    rw low
    (elim (a % 2 == 1) as (λ (c : Bool). (if c then staying n (first + 1) (b / 2) else first ∷ staying n (first + 1) (b / 2))
    ≡ without (first + suc i) (if c then staying n (first + 1) (a / 2) else first ∷ staying n (first + 1) (a / 2)))
    [ true ↦ rest' | false ↦ rw other (ap (λ (xs : List ℕ). first ∷ xs) rest') ])

-- which tickets wait
pub earlier_not_among : (n first left t : ℕ) → t < first → is_among (staying n first left) t ≡ false
earlier_not_among zero first left t before = refl
earlier_not_among (suc n) first left t before =
    let rest = earlier_not_among n (first + 1) (left / 2) t (omega arith) in
    let other : (first == t) ≡ false = grind (arith, nat_tests) in
    elim (left % 2 == 1) as (λ (b : Bool). is_among (if b then staying n (first + 1) (left / 2) else first ∷ staying n (first + 1) (left / 2)) t ≡ false)
    [ true ↦ rest | false ↦ rw (other, rest) refl ]

pub among : (n first left i : ℕ) → is_among (staying n first left) (first + i) ≡ (nat_lt i n && (bit_at left i == 0))
among zero first left i = grind (arith, nat_tests)
among (suc n) first left zero =
    let rest = earlier_not_among n (first + 1) (left / 2) (first + 0) (omega arith) in
    let here : (first == first + 0) ≡ true = grind (arith, nat_tests) in
    let low = bit_at_lowest left in
    let flips : (left % 2 == 0) ≡ (if left % 2 == 1 then false else true) = grind (arith, nat_tests) in
    let some : nat_lt 0 (suc n) ≡ true = grind (arith, nat_tests) in
    rw (low, flips, some)
    (elim (left % 2 == 1) as (λ (b : Bool). is_among (if b then staying n (first + 1) (left / 2) else first ∷ staying n (first + 1) (left / 2)) (first + 0)
    ≡ (true && (if b then false else true)))
    [ true ↦ rest | false ↦ rw here refl ])
among (suc n) first left (suc i) =
    let rest = among n (first + 1) (left / 2) i in
    let e : (first + 1) + i ≡ first + suc i = omega arith in
    let other : (first == first + suc i) ≡ false = grind (arith, nat_tests) in
    let below : nat_lt (suc i) (suc n) ≡ nat_lt i n = grind (arith, nat_tests) in
    let rest' : is_among (staying n (first + 1) (left / 2)) (first + suc i) ≡ (nat_lt (suc i) (suc n) && (bit_at left (suc i) == 0)) =
    rw (below, bit_at-suc left i) (subst (λ k. is_among (staying n (first + 1) (left / 2)) k ≡ (nat_lt i n && (bit_at (left / 2) i == 0))) e rest) in
    elim (left % 2 == 1) as (λ (b : Bool). is_among (if b then staying n (first + 1) (left / 2) else first ∷ staying n (first + 1) (left / 2)) (first + suc i)
    ≡ (nat_lt (suc i) (suc n) && (bit_at left (suc i) == 0)))
    [ true ↦ rest' | false ↦ rw other rest' ]

-- if the first left, the others are all that wait
pub staying_over : (next first left : ℕ) → first < next → (left % 2 == 1) ≡ true
    → staying (next - (first + 1)) (first + 1) (left / 2) ≡ staying (next - first) first left
staying_over next first left within gone =
    let e : next - first ≡ suc (next - (first + 1)) = omega arith in
    rw (e, gone) refl

-- if the first did not leave, it is the first that waits
pub staying_first : (next first left : ℕ) → first < next → bit_at left 0 ≡ 0
    → staying (next - first) first left ≡ first ∷ staying (next - (first + 1)) (first + 1) (left / 2)
staying_first next first left within stays =
    let e : next - first ≡ suc (next - (first + 1)) = omega arith in
    rw (e, low_stays left stays) refl

pub none_behind_half : (n m left : ℕ) → n ≡ suc m → ((i : ℕ) → n ≤ i → bit_at left i ≡ 0) → (i : ℕ) → m ≤ i → bit_at (left / 2) i ≡ 0
none_behind_half n m left is none i behind = sym (bit_at-suc left i) ∙ none (suc i) (omega arith)

-- if the lowest bit is 1, a ticket is before the next
pub some_behind : (next first left : ℕ) → first ≤ next → ((i : ℕ) → next - first ≤ i → bit_at left i ≡ 0) → (left % 2 == 1) ≡ true → first < next
some_behind next first left within none gone =
    let low = bit_at_lowest left in
    let none' : next - first ≤ 0 → bit_at left 0 ≡ 0 = none 0 in
    grind (arith, nat_tests)
