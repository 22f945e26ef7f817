-- What a lock looks like to a party, if no other one holds anything of it.
use Rattle.std.proofs.Common.{◌≡◌, ℕ, zero, suc, ◌+◌, if◌then◌else◌, List, [], ◌∷◌, get_or, Option, Some, None, refl, ap, ◌∙◌, arith}
use Rattle.lock_modes.specs.declared.bag.Bag.{Bag}
use Rattle.lock_modes.specs.declared.hold.Hold.{Hold}
use Rattle.lock_modes.specs.Modes.{empty_bag}
use Rattle.lock_modes.specs.Holds.{no_hold}
use Rattle.lock_plan.specs.NeverWaits.{held_alone}
use Rattle.lock_plan.specs.Worlds.{joined, bag_on, bar_from, lock_holds}
use Rattle.lock_plan.proofs.CircleWaits.{seen}
use Rattle.lock_plan_laws.proofs.Columns.{hold_of, same_bag}

with_none : (b : Bag) → joined b empty_bag ≡ b
with_none b = same_bag (joined b empty_bag) b (omega arith) (omega arith) (omega arith)

none_with : (b : Bag) → joined empty_bag b ≡ b
none_with b = same_bag (joined empty_bag b) b (omega arith) (omega arith) (omega arith)

module _ (lock : ℕ) where
  none_bag : (hss : List (List Hold)) → ((row : ℕ) → hold_of hss row lock ≡ no_hold) → bag_on lock hss ≡ empty_bag
  none_bag [] none = refl
  none_bag (hs ∷ hss) none =
      ap (λ (h : Hold). joined h.bag (bag_on lock hss)) (none 0)
      ∙ ap (joined empty_bag) (none_bag hss (λ row. none (suc row)))

  none_bar : (first : ℕ) (hss : List (List Hold)) → ((row : ℕ) → hold_of hss row lock ≡ no_hold) → bar_from first lock hss ≡ None
  none_bar first [] none = refl
  none_bar first (hs ∷ hss) none =
      ap (λ (h : Hold). if h.announced then Some first else bar_from (first + 1) lock hss) (none 0)
      ∙ none_bar (first + 1) hss (λ row. none (suc row))

  -- each other row holds nothing of the lock
  abbrev pub IsAlone : List (List Hold) → ℕ → Type 0
  IsAlone hss party = (row : ℕ) → (row ≡ party → ⊥) → hold_of hss row lock ≡ no_hold

  others_first : (hs : List Hold) (hss : List (List Hold)) → IsAlone (hs ∷ hss) 0 → (row : ℕ) → hold_of hss row lock ≡ no_hold
  others_first hs hss alone row = alone (suc row) (λ same. omega (arith, same))

  others_later : (hs : List Hold) (hss : List (List Hold)) (party : ℕ) → IsAlone (hs ∷ hss) (suc party) → IsAlone hss party
  others_later hs hss party alone row other = alone (suc row) (λ same. other (omega (arith, same)))

  own_bag : (hss : List (List Hold)) (party : ℕ) → IsAlone hss party → bag_on lock hss ≡ (hold_of hss party lock).bag
  own_bag [] party alone = refl
  own_bag (hs ∷ hss) zero alone =
      ap (joined (get_or hs lock no_hold).bag) (none_bag hss (others_first hs hss alone))
      ∙ with_none (get_or hs lock no_hold).bag
  own_bag (hs ∷ hss) (suc party) alone =
      ap (λ (h : Hold). joined h.bag (bag_on lock hss)) (alone 0 (λ same. omega (arith, same)))
      ∙ none_with (bag_on lock hss)
      ∙ own_bag hss party (others_later hs hss party alone)

  own_bar : (first : ℕ) (hss : List (List Hold)) (party n : ℕ) → n ≡ first + party → IsAlone hss party
      → bar_from first lock hss ≡ (if (hold_of hss party lock).announced then Some n else None)
  own_bar first [] party n is alone = refl
  own_bar first (hs ∷ hss) zero n is alone =
      let own = get_or hs lock no_hold in
      let here : first ≡ n = omega (arith, is) in
      ap (λ (o : Option ℕ). if own.announced then Some first else o) (none_bar (first + 1) hss (others_first hs hss alone))
      ∙ ap (λ (k : ℕ). if own.announced then Some k else None) here
  own_bar first (hs ∷ hss) (suc party) n is alone =
      ap (λ (h : Hold). if h.announced then Some first else bar_from (first + 1) lock hss) (alone 0 (λ same. omega (arith, same)))
      ∙ own_bar (first + 1) hss party n (omega (arith, is)) (others_later hs hss party alone)

  pub held_is : (hss : List (List Hold)) (party : ℕ) → IsAlone hss party → lock_holds hss party lock ≡ held_alone party (hold_of hss party lock)
  held_is hss party alone =
      let own = hold_of hss party lock in
      ap (λ (b : Bag). seen b (bar_from 0 lock hss) own party) (own_bag hss party alone)
      ∙ ap (λ (o : Option ℕ). seen own.bag o own party) (own_bar 0 hss party party (omega arith) alone)
