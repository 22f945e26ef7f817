-- The last fields of good lines.
use Rattle.std.proofs.Common.{◌≡◌, ◌==◌, ℕ, List, [], ◌∷◌, length, subst, ap, refl, inl, inr, arith}
use Rattle.std.specs.Prelude.{◌⊎◌}
use Rattle.std.specs.List.{AllByRecursion}
use Rattle.std.proofs.lemmas.List.Splits.{length-slice_split}
use Rattle.script_text.specs.Lines.{fields_of}
use Rattle.script_text.specs.Numbers.{IsSigned, IsUnsigned}
use Rattle.lock_script.specs.Numbers.{AreTwo}
use Rattle.lock_script.specs.Words.{IsCall, IsOneOf, number_words}
use Rattle.lock_script.specs.WorldLines.{IsChange, IsWorldCall, down_words, want_words}
use Rattle.script_text.proofs.NumberTexts.{line-one_field}

-- the line is one field, or falls into several
abbrev IsOneOrMore : List ℕ → Type 0
IsOneOrMore line =
    (fields_of line ≡ line ∷ [])
    ⊎ ((first : List ℕ) × ((second : List ℕ) × ((others : List (List ℕ)) × (fields_of line ≡ first ∷ second ∷ others))))

one_or_more_of : (line : List ℕ) (fields : List (List ℕ)) → fields_of line ≡ fields → IsOneOrMore line
one_or_more_of line [] none =
    let count = length-slice_split (λ byte. byte == 32) line in absurd (omega (arith, count, ap length none))
one_or_more_of line (field ∷ []) one = inl (subst (λ f. fields_of line ≡ f ∷ []) (line-one_field line field one) one)
one_or_more_of line (first ∷ second ∷ others) many = inr (first, (second, (others, many)))

one_or_more : (line : List ℕ) → IsOneOrMore line
one_or_more line = one_or_more_of line (fields_of line) refl

-- the word and the number of a line of five fields
pub number_of_call : (word id guard item number : List ℕ) → IsCall (word ∷ id ∷ guard ∷ item ∷ fields_of number)
    → IsOneOf number_words word × IsSigned number
number_of_call word id guard item number call =
    elim (one_or_more number) [
      | inl one ↦ let found = rw one at call in (found.0, found.1.1.1.1)
      | inr many ↦ absurd (rw many.1.1.1 at call)
    ]

-- the two fields of a pair or of two limits
pub fields_of_two : (IsField : List ℕ → Type 0) (first second : List ℕ) → AreTwo IsField (first ∷ fields_of second) → IsField first × IsField second
fields_of_two IsField first second two =
    elim (one_or_more second) [ inl one ↦ rw one at two | inr many ↦ absurd (rw many.1.1.1 at two) ]

-- the change of a line of three fields
pub change_of_call : (word party change : List ℕ) → IsWorldCall (word ∷ party ∷ fields_of change) → IsUnsigned party × IsChange word change
change_of_call word party change call =
    elim (one_or_more change) [ inl one ↦ rw one at call | inr many ↦ absurd (rw many.1.1.1 at call) ]

-- a word is one field, if each of the words is
one_field_of : (words : List (List ℕ)) (word : List ℕ) → AllByRecursion (λ w. fields_of w ≡ w ∷ []) words
    → IsOneOf words word → fields_of word ≡ word ∷ []
one_field_of [] word each none = absurd none
one_field_of (w ∷ words) word each (inl is) = rw is each.0
one_field_of (w ∷ words) word each (inr other) = one_field_of words word each.1 other

-- a change is one field
pub fields_of-change : (word change : List ℕ) → IsChange word change → fields_of change ≡ change ∷ []
fields_of-change word change (inl found) = one_field_of want_words change (refl, (refl, (refl, (refl, (refl, tt))))) found.1
fields_of-change word change (inr found) = one_field_of down_words change (refl, (refl, (refl, (refl, (refl, (refl, (refl, tt))))))) found.1
