-- What the users of a tally do keeps its rule.
use Rattle.std.proofs.Common.{◌≡◌, ℕ, ◌+◌, ◌%◌, ◌^◌, ◌<◌, List, [], ◌∷◌, arith}
use Rattle.lock_ruled.specs.Ruled.{Meets, Keeps, Splits, Joins}
use Rattle.lock_ruled.specs.Sums.{around, around_two, with_last, between_first, between_second}
use Rattle.lock_ruled.specs.Tally.{IsTally, Adds}

abbrev itself : ℕ → ℕ
itself n = n

module _ {T : Type 0} (measure : T → ℕ) where
  abbrev Rule : T → List ℕ → Type 0
  Rule value views = IsTally (measure value) views

  pub adds_keep : (value : T) (view : ℕ) (value' : T) (view' : ℕ) → Adds (measure value) view (measure value') view' → Keeps Rule value view value' view'
  adds_keep value view value' view' adds before after is =
      let grows = adds.0 in
      let becomes = adds.1 in
      omega (arith, grows, becomes, is, around itself before after view, around itself before after view')

  pub parts_keep : (view left right : ℕ) → left + right ≡ view → Splits Rule view left right
  parts_keep view left right parts value before after is =
      omega (arith, parts, is, around itself before after view, with_last itself before after left right)

  pub sums_keep : (view other both : ℕ) → both ≡ view + other → Joins Rule view other both
  sums_keep view other both whole =
      record {
        earlier = λ value before between after is.
            omega (arith, whole, is, around_two itself before between after view other, between_first itself before between after both);
        later = λ value before between after is.
            omega (arith, whole, is, around_two itself before between after other view, between_second itself before between after both);
      }

  pub met_tally : (value : T) (view : ℕ) → Meets Rule value view → measure value < 2 ^ 64
  met_tally value view met = let is = met.2 in omega arith

  pub last_tally : (value : T) (view : ℕ) → Rule value (view ∷ []) → measure value ≡ view % 2 ^ 64
  last_tally value view is = omega (arith, is, around itself [] [] view)
