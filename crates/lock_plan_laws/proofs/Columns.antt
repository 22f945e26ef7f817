-- What all parties hold of one lock, and its bar, when one party's holds change.
use Rattle.std.proofs.Common.{◌≡◌, ◌≢◌, ℕ, zero, suc, ◌+◌, ◌<◌, ◌≤◌, Bool, true, false, ◌==◌, if◌then◌else◌, List, [], ◌∷◌, length, get_or, set, Option, Some, None, option_map, IsTrue, refl, ap, sym, ◌∙◌, arith, eqb-true, ltb-true}
use Rattle.std.proofs.lemmas.Bool.{eqb-false}
use Rattle.lock_modes.specs.declared.mode.Mode.{Mode}
use Rattle.lock_modes.specs.declared.mode.Mode.TheVariants.{Shared, Exclusive, Upgradable}
use Rattle.lock_modes.specs.declared.mode_step.ModeStep.{ModeStep}
use Rattle.lock_modes.specs.declared.mode_step.ModeStep.TheVariants.{Acquire, Release, Change}
use Rattle.lock_modes.specs.declared.bag.Bag.{Bag}
use Rattle.lock_modes.specs.declared.hold.Hold.{Hold}
use Rattle.lock_modes.specs.Modes.{one_more, one_less, count_of}
use Rattle.lock_modes.specs.ModeRuns.{has, bag_after}
use Rattle.lock_modes.specs.Bar.{has_announced}
use Rattle.lock_modes.specs.Holds.{no_hold}
use Rattle.lock_plan.specs.Worlds.{joined, bag_on, bar_from}
use Rattle.lock_plan.proofs.ExchangeTurns.{bag, joined_swap}

abbrev pub hold_of : List (List Hold) → ℕ → ℕ → Hold
hold_of hss p l = get_or (get_or hss p []) l no_hold

pub same_bag : (a b : Bag) → a.shared ≡ b.shared → a.exclusive ≡ b.exclusive → a.upgradable ≡ b.upgradable → a ≡ b
same_bag a b s e u =
    ap (λ (n : ℕ). bag n a.exclusive a.upgradable) s
    ∙ ap (λ (n : ℕ). bag b.shared n a.upgradable) e
    ∙ ap (λ (n : ℕ). bag b.shared b.exclusive n) u

-- the bag of the other parties beside one
pub record Beside (hss : List (List Hold)) (p l : ℕ) : Type 0 where
  pub rest : Bag
  pub whole : bag_on l hss ≡ joined (hold_of hss p l).bag rest
  pub changed : (hs : List Hold) → bag_on l (set hss p hs) ≡ joined (get_or hs l no_hold).bag rest

pub beside : (hss : List (List Hold)) (p l : ℕ) → p < length hss → Beside hss p l
beside [] p l lt = absurd (omega arith)
beside (hs ∷ hss) zero l lt = record { rest = bag_on l hss; whole = refl; changed = λ other. refl }
beside (hs ∷ hss) (suc p) l lt =
    let b = beside hss p l (omega arith) in
    let own : Bag = (get_or hs l no_hold).bag in
    record {
      rest = joined own b.rest;
      whole = ap (λ (x : Bag). joined own x) b.whole ∙ joined_swap own (hold_of hss p l).bag b.rest;
      changed = λ other. ap (λ (x : Bag). joined own x) (b.changed other) ∙ joined_swap own (get_or other l no_hold).bag b.rest;
    }

-- a step on a part of a bag is one on the whole

joined_more : (a b : Bag) (mode : Mode) → one_more (joined a b) mode ≡ joined (one_more a mode) b
joined_more a b Shared = same_bag (one_more (joined a b) Shared) (joined (one_more a Shared) b) (omega arith) (omega arith) (omega arith)
joined_more a b Exclusive = same_bag (one_more (joined a b) Exclusive) (joined (one_more a Exclusive) b) (omega arith) (omega arith) (omega arith)
joined_more a b Upgradable = same_bag (one_more (joined a b) Upgradable) (joined (one_more a Upgradable) b) (omega arith) (omega arith) (omega arith)

joined_less : (a b : Bag) (mode : Mode) → 0 < count_of a mode → one_less (joined a b) mode ≡ joined (one_less a mode) b
joined_less a b Shared out = same_bag (one_less (joined a b) Shared) (joined (one_less a Shared) b) (omega arith) (omega arith) (omega arith)
joined_less a b Exclusive out = same_bag (one_less (joined a b) Exclusive) (joined (one_less a Exclusive) b) (omega arith) (omega arith) (omega arith)
joined_less a b Upgradable out = same_bag (one_less (joined a b) Upgradable) (joined (one_less a Upgradable) b) (omega arith) (omega arith) (omega arith)

pub joined_after : (a b : Bag) (step : ModeStep) → IsTrue (has a step) → bag_after (joined a b) step ≡ joined (bag_after a step) b
joined_after a b (Acquire mode) out = joined_more a b mode
joined_after a b (Release mode) out = joined_less a b mode (ltb-true 0 (count_of a mode) out)
joined_after a b (Change from to) out =
    ap (λ (x : Bag). one_more x to) (joined_less a b from (ltb-true 0 (count_of a from) out)) ∙ joined_more (one_less a from) b to

-- the bar is that of one of so many parties
abbrev pub IsBarOf : (ℕ → ℕ) → ℕ → ℕ → Option ℕ → Type 0
IsBarOf id first end None = Unit {0}
IsBarOf id first end (Some b) = (p : ℕ) × (first ≤ p) × (p < end) × (b ≡ id p)

module _ (id : ℕ → ℕ) (distinct : (p q : ℕ) → id p ≡ id q → p ≡ q) (l : ℕ) where
  none_is : (first : ℕ) (hss : List (List Hold)) → ((p : ℕ) → p < length hss → false ≡ (hold_of hss p l).announced)
      → bar_from first l hss ≡ None
  none_is first [] announced = refl
  none_is first (hs ∷ hss) announced =
      ap (λ (b : Bool). if b then Some first else bar_from (first + 1) l hss) (sym (announced 0 (omega arith)))
      ∙ none_is (first + 1) hss (λ p lt. announced (suc p) (omega arith))

  some_is : (first p : ℕ) (hss : List (List Hold)) → ((q : ℕ) → q < length hss → (id p == id (first + q)) ≡ (hold_of hss q l).announced)
      → first ≤ p → p < first + length hss → bar_from first l hss ≡ Some p
  some_is first p [] announced le lt = absurd (omega arith)
  some_is first p (hs ∷ hss) announced le lt =
      by_first (id p == id (first + 0)) refl
      (λ other. some_is (first + 1) p hss
      (λ q below. ap (λ (n : ℕ). id p == id n) (omega arith) ∙ announced (suc q) (omega arith))
      (let more : first ≢ p = λ same. other (omega arith) in omega arith) (omega arith))
    where
      by_first : (b : Bool) → (id p == id (first + 0)) ≡ b
          → ((p ≡ first + 0 → ⊥) → bar_from (first + 1) l hss ≡ Some p) → bar_from first l (hs ∷ hss) ≡ Some p
      by_first true is rest =
          let here : p ≡ first + 0 = distinct p (first + 0) (eqb-true (id p) (id (first + 0)) is) in
          ap (λ (b : Bool). if b then Some first else bar_from (first + 1) l hss) (sym (announced 0 (omega arith)) ∙ is)
          ∙ ap Some (omega arith)
      by_first false is rest =
          ap (λ (b : Bool). if b then Some first else bar_from (first + 1) l hss) (sym (announced 0 (omega arith)) ∙ is)
          ∙ rest (λ same. eqb-false (id p) (id (first + 0)) is (ap id same))

  -- the bar of the parties is the bar that shows who has announced
  pub bar_is : (hss : List (List Hold)) (bar : Option ℕ) → IsBarOf id 0 (length hss) bar
      → ((p : ℕ) → has_announced bar (id p) ≡ (hold_of hss p l).announced)
      → bar ≡ option_map id (bar_from 0 l hss)
  bar_is hss None known announced = sym (ap (option_map id) (none_is 0 hss (λ p lt. announced p)))
  bar_is hss (Some b) known announced =
      ap Some (known.3)
      ∙ sym (ap (option_map id) (some_is 0 known.0 hss
      (λ q lt. ap (λ (n : ℕ). id known.0 == id n) (omega arith) ∙ ap (λ (n : ℕ). n == id q) (sym known.3) ∙ announced q)
      known.1 (omega (arith, known.2))))
