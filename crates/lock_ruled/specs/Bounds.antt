-- What each user knows of a value by itself: what its measure is, or that it is at least so much.
use Rattle.std.proofs.Common.{◌≡◌, ◌∙◌, sym, ℕ, ◌≤◌, List, [], ◌∷◌, max, arith}
use Rattle.lock_ruled.specs.EachView.{Each}
use Rattle.lock_ruled.specs.EachViews.{replaced, divided, united_first, united_second, one}
use Rattle.lock_ruled.specs.Ruled.{Meets, Keeps, Splits, Joins}

module _ {T : Type 0} (measure : T → ℕ) where
  abbrev pub AllKnow : T → List ℕ → Type 0
  AllKnow value views = Each (λ view. view ≡ measure value) views

  abbrev pub AllBound : T → List ℕ → Type 0
  AllBound value views = Each (λ view. view ≤ measure value) views

  pub same_keeps : (value : T) (view : ℕ) (value' : T) (view' : ℕ) → (measure value' ≡ measure value) × (view' ≡ view) → Keeps AllKnow value view value' view'
  same_keeps value view value' view' same before after all =
      replaced (λ v. v ≡ measure value) (λ v. v ≡ measure value') (λ v is. is ∙ sym same.0) before after view view'
      (λ is. same.1 ∙ is ∙ sym same.0) all

  pub copies_keep : (view left right : ℕ) → (left ≡ view) × (right ≡ view) → Splits AllKnow view left right
  copies_keep view left right same value before after all =
      divided (λ v. v ≡ measure value) (λ v. v ≡ measure value) (λ v is. is) before after view left right
      (λ is. same.0 ∙ is) (λ is. same.1 ∙ is) all

  pub either_keeps : (view other both : ℕ) → both ≡ view → Joins AllKnow view other both
  either_keeps view other both same =
      record {
        earlier = λ value before between after all.
            united_first (λ v. v ≡ measure value) (λ v. v ≡ measure value) (λ v is. is) before between after view other both (λ is _. same ∙ is) all;
        later = λ value before between after all.
            united_second (λ v. v ≡ measure value) (λ v. v ≡ measure value) (λ v is. is) before between after other view both (λ _ is. same ∙ is) all;
      }

  pub met_known : (value : T) (view : ℕ) → Meets AllKnow value view → view ≡ measure value
  met_known value view met = one (λ v. v ≡ measure value) met.0 met.1 view met.2

  pub last_known : (value : T) (view : ℕ) → AllKnow value (view ∷ []) → view ≡ measure value
  last_known value view all = all.0

  pub growth_keeps : (value : T) (view : ℕ) (value' : T) (view' : ℕ) → (measure value ≤ measure value') × (view' ≤ measure value') → Keeps AllBound value view value' view'
  growth_keeps value view value' view' grows before after all =
      let more = grows.0 in
      replaced (λ v. v ≤ measure value) (λ v. v ≤ measure value') (λ v is. omega (arith, more, is)) before after view view'
      (λ _. grows.1) all

  pub bounds_keep : (view left right : ℕ) → (left ≤ view) × (right ≤ view) → Splits AllBound view left right
  bounds_keep view left right less value before after all =
      let first = less.0 in
      let second = less.1 in
      divided (λ v. v ≤ measure value) (λ v. v ≤ measure value) (λ v is. is) before after view left right
      (λ is. omega (arith, first, is)) (λ is. omega (arith, second, is)) all

  pub greater_keeps : (view other both : ℕ) → both ≤ max view other → Joins AllBound view other both
  greater_keeps view other both less =
      record {
        earlier = λ value before between after all.
            united_first (λ v. v ≤ measure value) (λ v. v ≤ measure value) (λ v is. is) before between after view other both (λ one two. omega (arith, less, one, two)) all;
        later = λ value before between after all.
            united_second (λ v. v ≤ measure value) (λ v. v ≤ measure value) (λ v is. is) before between after other view both (λ two one. omega (arith, less, one, two)) all;
      }

  pub met_bound : (value : T) (view : ℕ) → Meets AllBound value view → view ≤ measure value
  met_bound value view met = one (λ v. v ≤ measure value) met.0 met.1 view met.2

  pub last_bound : (value : T) (view : ℕ) → AllBound value (view ∷ []) → view ≤ measure value
  last_bound value view all = all.0
