-- What holds of each of the users' views, when lists of views are put together.
use Rattle.std.proofs.Common.{List, [], ◌∷◌, ◌++◌}
use Rattle.lock_ruled.specs.EachView.{Each}

module _ {V : Type 0} (fits : V → Type 0) where
  pub cut : (xs ys : List V) → Each fits (xs ++ ys) → Each fits xs × Each fits ys
  cut [] ys each = (tt, each)
  cut (x ∷ xs) ys each = (let rest = cut xs ys each.1 in ((each.0, rest.0), rest.1))

  pub paste : (xs ys : List V) → Each fits xs → Each fits ys → Each fits (xs ++ ys)
  paste [] ys each each' = each'
  paste (x ∷ xs) ys each each' = (each.0, paste xs ys each.1 each')

pub weaken : {V : Type 0} (fits fits' : V → Type 0) → ((v : V) → fits v → fits' v) → (xs : List V) → Each fits xs → Each fits' xs
weaken fits fits' more [] each = tt
weaken fits fits' more (x ∷ xs) each = (more x each.0, weaken fits fits' more xs each.1)

module _ {V : Type 0} (fits fits' : V → Type 0) (more : (v : V) → fits v → fits' v) where
  -- one view is replaced
  pub replaced : (before after : List V) (x y : V) → (fits x → fits' y) → Each fits (before ++ x ∷ after) → Each fits' (before ++ y ∷ after)
  replaced before after x y own each =
      let parts = cut fits before (x ∷ after) each in
      paste fits' before (y ∷ after) (weaken fits fits' more before parts.0) (own parts.1.0, weaken fits fits' more after parts.1.1)

  -- one view becomes two, the second of which comes last
  pub divided : (before after : List V) (x y z : V) → (fits x → fits' y) → (fits x → fits' z) → Each fits (before ++ x ∷ after)
      → Each fits' (before ++ y ∷ (after ++ z ∷ []))
  divided before after x y z first second each =
      let parts = cut fits before (x ∷ after) each in
      paste fits' before (y ∷ (after ++ z ∷ [])) (weaken fits fits' more before parts.0)
      (first parts.1.0, paste fits' after (z ∷ []) (weaken fits fits' more after parts.1.1) (second parts.1.0, tt))

  -- two views become one, in the place of the first
  pub united_first : (before between after : List V) (x y z : V) → (fits x → fits y → fits' z)
      → Each fits (before ++ x ∷ (between ++ y ∷ after)) → Each fits' (before ++ z ∷ (between ++ after))
  united_first before between after x y z both each =
      let parts = cut fits before (x ∷ (between ++ y ∷ after)) each in
      let rest = cut fits between (y ∷ after) parts.1.1 in
      paste fits' before (z ∷ (between ++ after)) (weaken fits fits' more before parts.0) (
        both parts.1.0 rest.1.0,
        paste fits' between after (weaken fits fits' more between rest.0) (weaken fits fits' more after rest.1.1),
      )

  -- two views become one, in the place of the second
  pub united_second : (before between after : List V) (x y z : V) → (fits x → fits y → fits' z)
      → Each fits (before ++ x ∷ (between ++ y ∷ after)) → Each fits' (before ++ (between ++ z ∷ after))
  united_second before between after x y z both each =
      let parts = cut fits before (x ∷ (between ++ y ∷ after)) each in
      let rest = cut fits between (y ∷ after) parts.1.1 in
      paste fits' before (between ++ z ∷ after) (weaken fits fits' more before parts.0)
      (paste fits' between (z ∷ after) (weaken fits fits' more between rest.0)
      (both parts.1.0 rest.1.0, weaken fits fits' more after rest.1.1))

-- one of the views
pub one : {V : Type 0} (fits : V → Type 0) (before after : List V) (x : V) → Each fits (before ++ x ∷ after) → fits x
one fits before after x each = (cut fits before (x ∷ after) each).1.0
