-- What all parties hold of a lock, which party has announced itself, and which holder refuses a mode.
use Rattle.std.proofs.Common.{◌≡◌, ◌≢◌, ℕ, zero, suc, ◌+◌, ◌<◌, ◌≤◌, ◌⊎◌, inl, inr, Bool, true, false, ◌&&◌, if◌then◌else◌, List, [], ◌∷◌, length, get_or, Option, Some, refl, sym, ◌∙◌, arith}
use Rattle.std.specs.Prelude.{◌==◌, nat_lt}
use Rattle.std.proofs.lemmas.Bool.{false≢true, and_cases, and_left, and_right, cases_lt, lt-ltb, ne_eqb}
use Rattle.lock_modes.specs.declared.mode.Mode.{Mode}
use Rattle.lock_modes.specs.declared.mode.Mode.TheVariants.{Shared, Exclusive, Upgradable}
use Rattle.lock_modes.specs.declared.bag.Bag.{Bag}
use Rattle.lock_modes.specs.declared.hold.Hold.{Hold}
use Rattle.lock_modes.specs.Modes.{empty_bag, tokens, readers, admits}
use Rattle.lock_modes.specs.Holds.{no_hold}
use Rattle.lock_modes.proofs.ModeLemmas.{admits-beside_exclusive}
use Rattle.lock_plan.specs.Worlds.{bag_on, bar_from, joined}
use Rattle.lock_plan_laws.specs.WaitRanks.{sum_below}

-- if all hold some, one does
some_with : (f : Bag → ℕ) → ((a b : Bag) → f (joined a b) ≡ f a + f b) → f empty_bag ≡ 0
    → (hss : List (List Hold)) (l : ℕ) → 0 < f (bag_on l hss) → (q : ℕ) × (0 < f (get_or (get_or hss q []) l no_hold).bag)
some_with f adds none [] l some = absurd (omega (arith, none, some))
some_with f adds none (hs ∷ hss) l some =
    elim (cases_lt 0 (f (get_or hs l no_hold).bag)) [
      | inl here ↦ (0, here)
      | inr nothing ↦
          let q = some_with f adds none hss l (omega (arith, some, nothing, adds (get_or hs l no_hold).bag (bag_on l hss))) in
          (suc q.0, q.1)
    ]

pub some_holder : (hss : List (List Hold)) (l : ℕ) → 0 < tokens (bag_on l hss) → (q : ℕ) × (0 < tokens (get_or (get_or hss q []) l no_hold).bag)
some_holder = some_with (λ b. tokens b) (λ a b. omega arith) refl

some_writer : (hss : List (List Hold)) (l : ℕ) → 0 < (bag_on l hss).exclusive → (q : ℕ) × (0 < (get_or (get_or hss q []) l no_hold).bag.exclusive)
some_writer = some_with (λ b. b.exclusive) (λ a b. refl) refl

some_upgradable : (hss : List (List Hold)) (l : ℕ) → 0 < (bag_on l hss).upgradable
    → (q : ℕ) × (0 < (get_or (get_or hss q []) l no_hold).bag.upgradable)
some_upgradable = some_with (λ b. b.upgradable) (λ a b. refl) refl

-- if all hold more than one of them, another one holds some
pub some_other : (hss : List (List Hold)) (l p : ℕ) → tokens (bag_on l hss) ≢ tokens (get_or (get_or hss p []) l no_hold).bag
    → (q : ℕ) × (q ≢ p) × (0 < tokens (get_or (get_or hss q []) l no_hold).bag)
some_other [] l p more = absurd (more refl)
some_other (hs ∷ hss) l zero more =
    let some = some_holder hss l (omega (arith, one_more (tokens (bag_on l hss)) (λ none. more (omega (arith, none))))) in
    (suc some.0, λ same. cc, some.1)
  where
    one_more : (n : ℕ) → (n ≡ 0 → ⊥) → 0 < n
    one_more zero other = absurd (other refl)
    one_more (suc n) other = omega arith
some_other (hs ∷ hss) l (suc p) more =
    elim (cases_lt 0 (tokens (get_or hs l no_hold).bag)) [
      | inl here ↦ (0, λ same. cc, here)
      | inr none ↦
          let q = some_other hss l p (λ same. more (omega (arith, none, same))) in
          (suc q.0, λ same. q.1 (omega (arith, same)), q.2)
    ]

-- if no party reads more often than its number says, all together read no more often than the sum of these
pub few_readers : (hss : List (List Hold)) (l : ℕ) (most : ℕ → ℕ) → ((q : ℕ) → q < length hss → readers (get_or (get_or hss q []) l no_hold).bag ≤ most q)
    → readers (bag_on l hss) ≤ sum_below most (length hss)
few_readers [] l most each = omega arith
few_readers (hs ∷ hss) l most each =
    let here = each 0 (omega arith) in
    let rest = few_readers hss l (λ q. most (suc q)) (λ q lt. each (suc q) (omega (arith, lt))) in
    omega (arith, here, rest)

pub sum_more : (a b : ℕ) (f : ℕ → ℕ) → a ≤ b → sum_below f a ≤ sum_below f b
sum_more zero b f le = omega arith
sum_more (suc a) zero f le = absurd (omega (arith, le))
sum_more (suc a) (suc b) f le = omega (arith, sum_more a b (λ k. f (suc k)) (omega (arith, le)))

if_some : (b : Bool) (row q : ℕ) (o : Option ℕ) → (if b then Some row else o) ≡ Some q → ((b ≡ true) × (row ≡ q)) ⊎ (o ≡ Some q)
if_some true row q o e = inl (refl, cc)
if_some false row q o e = inr e

pub some_bar : (hss : List (List Hold)) (row l q : ℕ) → bar_from row l hss ≡ Some q
    → (i : ℕ) × (row + i ≡ q) × ((get_or (get_or hss i []) l no_hold).announced ≡ true)
some_bar [] row l q e = cc
some_bar (hs ∷ hss) row l q e =
    elim (if_some (get_or hs l no_hold).announced row q (bar_from (row + 1) l hss) e) [
      | inl here ↦ (0, omega (arith, here.1), here.0)
      | inr later ↦
          let i = some_bar hss (row + 1) l q later in
          (suc i.0, omega (arith, i.1), i.2)
    ]

-- a conjunction that is false, of which the other part is true
pub first_false : (a b : Bool) → b ≡ true → (a && b) ≡ false → a ≡ false
first_false true b t e = absurd (false≢true (sym e ∙ t))
first_false false b t e = refl

pub second_false : (a b : Bool) → a ≡ true → (a && b) ≡ false → b ≡ false
second_false true b t e = e
second_false false b t e = cc

pub not_zero : (n : ℕ) → 0 < n → (n == 0) ≡ false
not_zero n some = ne_eqb n 0 (λ none. omega (arith, some, none))

-- where a lock that is not strict admits no mode, some holder alone refuses it
module _ (hss : List (List Hold)) (l limit : ℕ) (few : readers (bag_on l hss) < limit) where
  abbrev pub Refuses : Mode → Type 0
  Refuses mode = (q : ℕ) × (0 < tokens (get_or (get_or hss q []) l no_hold).bag)
      × (admits limit (get_or (get_or hss q []) l no_hold).bag mode ≡ false)

  some_more : (n : ℕ) → (n == 0) ≡ false → 0 < n
  some_more zero e = cc
  some_more (suc n) e = omega arith

  by_writer : (mode : Mode) → 0 < (bag_on l hss).exclusive → Refuses mode
  by_writer mode some =
      let q = some_writer hss l some in
      (q.0, omega (arith, q.1), admits-beside_exclusive limit (get_or (get_or hss q.0 []) l no_hold).bag mode q.1)

  room : nat_lt (readers (bag_on l hss)) limit ≡ true
  room = lt-ltb (readers (bag_on l hss)) limit few

  pub refusing : (mode : Mode) → admits limit (bag_on l hss) mode ≡ false → Refuses mode
  refusing Shared e =
      by_writer Shared (some_more (bag_on l hss).exclusive (first_false ((bag_on l hss).exclusive == 0) (nat_lt (readers (bag_on l hss)) limit) room e))
  refusing Exclusive e =
      let q = some_holder hss l (some_more (tokens (bag_on l hss)) e) in
      (q.0, q.1, not_zero (tokens (get_or (get_or hss q.0 []) l no_hold).bag) q.1)
  refusing Upgradable e =
      elim (and_cases ((bag_on l hss).exclusive == 0) (((bag_on l hss).upgradable == 0) && nat_lt (readers (bag_on l hss)) limit) e) [
        | inl writer ↦ by_writer Upgradable (some_more (bag_on l hss).exclusive writer)
        | inr other ↦
            let some = some_more (bag_on l hss).upgradable
            (first_false ((bag_on l hss).upgradable == 0) (nat_lt (readers (bag_on l hss)) limit) room other) in
            let q = some_upgradable hss l some in
            let b = (get_or (get_or hss q.0 []) l no_hold).bag in (
              q.0,
              omega (arith, q.1),
              and_right (b.exclusive == 0) ((b.upgradable == 0) && nat_lt (readers b) limit)
                  (and_left (b.upgradable == 0) (nat_lt (readers b) limit) (not_zero b.upgradable q.1)),
            )
      ]
