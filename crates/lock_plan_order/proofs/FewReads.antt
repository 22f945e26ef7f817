-- A lock that all parties together never read as often as its limit.
use Rattle.std.proofs.Common.{◌≡◌, ◌≢◌, ◌∙◌, ℕ, zero, suc, ◌+◌, ◌<◌, ◌≤◌, ◌==◌, if◌then◌else◌, ◌++◌, inl, inr, Bool, true, false, not, List, [], ◌∷◌, length, map, get_or, drop, sum_by, Some, refl, ap, sym, subst, ◌&&◌, arith}
use Rattle.std.specs.Prelude.{nat_lt}
use Rattle.std.proofs.Math.Seq.{drop-nil}
use Rattle.std.proofs.lemmas.Bool.{cases_eq, not-false}
use Rattle.std.proofs.lemmas.List.{get_or_append_left, get_or_push}
use Rattle.std.proofs.lemmas.List.Sums.{sum_by-cons}
use Rattle.lock_modes.specs.declared.hold.Hold.{Hold}
use Rattle.lock_modes.specs.Holds.{no_hold}
use Rattle.lock_modes.specs.Modes.{readers}
use Rattle.lock_plan.specs.declared.lock.PlanLock.{PlanLock}
use Rattle.lock_plan.specs.Known.{Known, known_at}
use Rattle.lock_plan.specs.Worlds.{no_lock}
use Rattle.lock_plan_laws.specs.WaitRanks.{sum_below}
use Rattle.lock_plan_order.specs.LockOrders.{IsLenientAmong, most_reads, reads_in}

-- a party has at most so many reads at each place
pub most_at : (lock : ℕ) (known : Known) (place : ℕ) (hs : List Hold) → known_at known place ≡ Some hs
    → readers (get_or hs lock no_hold).bag ≤ most_reads lock known
most_at lock [] place hs e = cc
most_at lock (here ∷ known) zero hs e =
    Prim.grind (arith, ap (reads_in lock) e)
most_at lock (here ∷ known) (suc place) hs e =
    Prim.grind (arith, most_at lock known place hs e)

pub sum_listed : (f : Known → ℕ) (ks : List Known) → sum_by f ks ≡ sum_below (λ k. f (get_or ks k [])) (length ks)
sum_listed f [] = refl
sum_listed f (k ∷ ks) = sum_by-cons f k ks ∙ ap (λ (n : ℕ). f k + n) (sum_listed f ks)

sum_same : (n : ℕ) (f g : ℕ → ℕ) → ((p : ℕ) → p < n → f p ≡ g p) → sum_below f n ≡ sum_below g n
sum_same zero f g e = refl
sum_same (suc n) f g e =
    let here = e 0 (omega arith) in
    let rest = sum_same n (λ k. f (suc k)) (λ k. g (suc k)) (λ p lt. e (suc p) (omega (arith, lt))) in
    omega (arith, here, rest)

-- the values without that of one number
abbrev without : (ℕ → ℕ) → ℕ → ℕ → ℕ
without f k i = if i == k then 0 else f i

sum_without : (m k : ℕ) (f : ℕ → ℕ) → k < m → sum_below f m ≡ f k + sum_below (without f k) m
sum_without zero k f lt = absurd (omega (arith, lt))
sum_without (suc m) zero f lt =
    let rest = sum_same m (λ i. f (suc i)) (λ i. without f 0 (suc i)) (λ p below. Prim.grind (arith)) in
    omega (arith, rest)
sum_without (suc m) (suc k) f lt =
    let rest = sum_without m k (λ i. f (suc i)) (omega (arith, lt)) in
    let same = sum_same m (without (λ i. f (suc i)) k) (λ i. without f (suc k) (suc i)) (λ p below. Prim.grind (arith)) in
    let first : without f (suc k) 0 ≡ f 0 = Prim.grind (arith) in
    omega (arith, rest, same, first)

-- runs of programs, where two of one program add nothing, have in all no more than the programs
pub runs_sum : (n m : ℕ) (f runs : ℕ → ℕ) → ((p : ℕ) → p < n → runs p < m)
    → ((p q : ℕ) → p < n → q < n → p ≢ q → runs p ≡ runs q → f (runs p) ≡ 0)
    → sum_below (λ p. f (runs p)) n ≤ sum_below f m
runs_sum zero m f runs each single = omega arith
runs_sum (suc n) m f runs each single =
    let k = runs 0 in
    let rest = runs_sum n m (without f k) (λ p. runs (suc p)) (λ p lt. each (suc p) (omega (arith, lt)))
    (λ p q p_in q_in other same. Prim.grind (arith, single (suc p) (suc q) (omega (arith, p_in)) (omega (arith, q_in)) (λ e. other (omega (arith, e))) same)) in
    let whole = sum_without m k f (each 0 (omega arith)) in
    let same = sum_same n (λ p. f (runs (suc p))) (λ p. without f k (runs (suc p)))
    (λ p lt. elim (cases_eq (runs (suc p)) k) [
      | inl e ↦ Prim.grind (arith, e, single 0 (suc p) (omega arith) (omega (arith, lt)) (λ z. absurd (omega (arith, z))) (sym e), ap f e)
      | inr e ↦ Prim.grind (arith, e)
    ]) in
    omega (arith, rest, whole, same)

nil_cons : {X : Type 0} (x : X) (rest : List X) → [] ≡ x ∷ rest → ⊥
nil_cons x rest e = cc

module _ {X Y : Type 0} where
  pub first_left : (f : X → Y) (xs rest : List X) (n : ℕ) (x : X) (d : Y) → drop n xs ≡ x ∷ rest
      → (get_or (map f xs) n d ≡ f x) × (drop (suc n) xs ≡ rest)
  first_left f [] rest n x d e = absurd (nil_cons x rest (sym (drop-nil n) ∙ e))
  first_left f (y ∷ xs) rest zero x d e = (cc, cc)
  first_left f (y ∷ xs) rest (suc n) x d e = first_left f xs rest n x d e

add_one : (n : ℕ) (b : ℕ → Bool) (f : ℕ → ℕ) → ((k : ℕ) → k < n → b k ≡ true → f k ≡ 0) → (b n ≡ true → f n ≡ 0)
    → (k : ℕ) → k < n + 1 → b k ≡ true → f k ≡ 0
add_one n b f below here k lt e = elim (cases_eq k n) [
  | inl same ↦ ap f same ∙ here (ap b (sym same) ∙ e)
  | inr other ↦ below k (omega (arith, lt, other)) e
]

-- a program next to those before it
pub alone_more : (many : List Bool) (known : List Known) (lock program most : ℕ) (held : Known)
    → ((k : ℕ) → k < program → get_or many k false ≡ true → most_reads lock (get_or known k []) ≡ 0)
    → get_or known program [] ≡ held → most ≡ most_reads lock held → (nat_lt 0 most && get_or many program false) ≡ false
    → (k : ℕ) → k < program + 1 → get_or many k false ≡ true → most_reads lock (get_or known k []) ≡ 0
alone_more many known lock program most held below is_held is_most ok =
    add_one program (λ k. get_or many k false) (λ k. most_reads lock (get_or known k [])) below
    (λ e. ap (most_reads lock) is_held ∙ sym is_most ∙ none_by most (get_or many program false) e ok)
  where
    none_by : (n : ℕ) (b : Bool) → b ≡ true → (nat_lt 0 n && b) ≡ false → n ≡ 0
    none_by zero b e ok = refl
    none_by (suc n) true e ok = absurd (Prim.grind (arith, ok))
    none_by (suc n) false e ok = cc

-- the next lock is lenient too, if it is not marked
pub one_more_lenient : (locks : List PlanLock) (many : List Bool) (known : List Known) (strict : List Bool) (number : ℕ) (b : Bool)
    → length strict ≡ number
    → ((lock : ℕ) → lock < number → get_or strict lock true ≡ false → IsLenientAmong (get_or locks lock no_lock) many known lock)
    → (b ≡ true → IsLenientAmong (get_or locks number no_lock) many known number)
    → (lock : ℕ) → lock < number + 1 → get_or (strict ++ not b ∷ []) lock true ≡ false
    → IsLenientAmong (get_or locks lock no_lock) many known lock
one_more_lenient locks many known strict number b long below here lock lt plain =
    elim (cases_eq lock number) [
      | inl same ↦
          subst (λ (n : ℕ). IsLenientAmong (get_or locks n no_lock) many known n) (sym same)
          (here (not-false b (sym (get_or_push strict (not b) true lock (omega (arith, long, same))) ∙ plain)))
      | inr other ↦
          let less : lock < length strict = omega (arith, lt, other, long) in
          below lock (omega (arith, lt, other)) (sym (get_or_append_left strict (not b ∷ []) true lock less) ∙ plain)
    ]
