-- The texts of numbers: their form, and that they are one field.
use Rattle.std.proofs.Common.{◌≡◌, ◌≢◌, ℕ, suc, zero, ◌<◌, ◌≤◌, ◌^◌, false, List, [], ◌∷◌, length, get_or, Result, Ok, Err, subst, arith, refl, sym, ap, ◌∙◌, IfSome, decimal, inl, inr}
use Rattle.std.specs.Prelude.{ℤ, pos, negsuc, neg_ℤ, FitsSigned, ◌==◌, IsSome}
use Rattle.std.specs.Result.{result_ok}
use Rattle.std.specs.Fmt.{signed_decimal}
use Rattle.std.specs.Int.{IsInRange, w64}
use Rattle.std.proofs.lemmas.Bool.Decides.{nat_tests}
use Rattle.std.specs.List.{join_with_byte}
use Rattle.std.proofs.lemmas.Fmt.{decimal_digit, decimal_is_IsNumeral, decimal-digits_value, first_decimal, parse-decimal, parse-signed_decimal}
use Rattle.std.proofs.lemmas.Str.Parse.{IsNumeralModel, numerals_by_value, tells_digits, parse_plain, parse_signed_plain, parse_signed_minus, digit_from_value}
use Rattle.std.proofs.lemmas.List.Splits.{slice_split-cons_no, join_with_byte-slice_split}
use Rattle.std.specs.Str.Parse.{AllDigits, ParsesUnsigned, ParsesSigned, digits_value}
use Rattle.script_text.specs.Lines.{fields_of}
use Rattle.script_text.specs.Numbers.{BeginsAbove0, HasForm, HasSignedForm, IsSigned, IsUnsigned}

own : IsNumeralModel (AllDigits 10) (digits_value 10)
own = numerals_by_value (AllDigits 10) tells_digits

-- no plus and no minus stands first, and a 0 stands alone
plain_front : (bs : List ℕ) → HasForm bs → (get_or bs 0 0 ≢ 43) × (get_or bs 0 0 ≢ 45) × (get_or bs 0 0 ≡ 48 → length bs ≡ 1)
plain_front [] (inl e) = cc
plain_front [] (inr h) = absurd h
plain_front (b ∷ bs) (inl e) =
    let first : b ≡ 48 = cc in
    let others : bs ≡ [] = cc in
    (omega arith, omega arith, λ _. rw others refl)
plain_front (b ∷ bs) (inr h) = (omega arith, omega arith, λ e. absurd (omega arith))

-- a text of that form that is read as a number is the text of that number
pub decimal-read : {E : Type 0} (bs : List ℕ) (r : Result ℕ E) → ParsesUnsigned 64 10 bs r → HasForm bs → IfSome (result_ok r) (λ n. decimal n ≡ bs)
decimal-read bs (Err e) read form = tt
decimal-read {E = E} bs (Ok n) read form =
    let front = plain_front bs form in
    let h = parse_plain own {E = E} 64 bs (Ok n) read front.0 in
    subst (λ k. decimal k ≡ bs) (sym h.1) (decimal-digits_value own bs h.0.0 h.0.1 front.2 h.0.2)

-- it is read as a number exactly where it is one
pub IsUnsigned-read : {E : Type 0} (bs : List ℕ) (r : Result ℕ E) → ParsesUnsigned 64 10 bs r → HasForm bs
    → (IsSome (result_ok r) → IsUnsigned bs) × (IsUnsigned bs → IsSome (result_ok r))
IsUnsigned-read bs (Err e) read form = (
  λ some. cc,
  λ found.
      let same : Err e ≡ Ok found.0 = parse-decimal 64 found.0 bs (Err e) found.1.0 found.1.0 (sym found.1.1) read in cc,
)
IsUnsigned-read {E = E} bs (Ok n) read form = (
  λ some.
      let value = (parse_plain own {E = E} 64 bs (Ok n) read (plain_front bs form).0) in
      let small : n < 2 ^ 64 = subst (λ k. k < 2 ^ 64) (sym value.1) value.0.2 in
      (n, (small, decimal-read {E = E} bs (Ok n) read form)),
  λ found. refl,
)

-- a negative number
signed_decimal-neg : (n : ℕ) → 0 < n → signed_decimal (neg_ℤ (pos n)) ≡ 45 ∷ decimal n
signed_decimal-neg zero h = absurd (omega arith)
signed_decimal-neg (suc n) h = refl

above_0 : (n : ℕ) (bs : List ℕ) → decimal n ≡ bs → BeginsAbove0 bs → 0 < n
above_0 zero bs text above =
    let zero_text : bs ≡ 48 ∷ [] = sym text ∙ decimal_digit 0 (omega arith) in
    let low : BeginsAbove0 (48 ∷ []) = subst BeginsAbove0 zero_text above in
    absurd (omega arith)
above_0 (suc n) bs text above = omega arith

-- the same of a signed number
pub signed_decimal-read : {E : Type 0} (bs : List ℕ) (r : Result ℤ E) → ParsesSigned w64 10 bs r → HasSignedForm bs
    → IfSome (result_ok r) (λ z. signed_decimal z ≡ bs)
signed_decimal-read bs (Err e) read form = tt
signed_decimal-read [] (Ok z) read form = absurd form
signed_decimal-read {E = E} (b ∷ bs) (Ok z) read (inl form) =
    let front = plain_front (b ∷ bs) form in
    let h = parse_signed_plain own {E = E} w64 (b ∷ bs) (Ok z) read front.0 front.1 in
    let same : z ≡ pos (digits_value 10 (b ∷ bs)) = h.1 in
    let bound : digits_value 10 (b ∷ bs) < 2 ^ 63 = h.0.2 in
    let text : decimal (digits_value 10 (b ∷ bs)) ≡ b ∷ bs = decimal-digits_value own (b ∷ bs) h.0.0 h.0.1 front.2 (omega arith) in
    rw same text
signed_decimal-read {E = E} (b ∷ bs) (Ok z) read (inr form) =
    let h = parse_signed_minus own {E = E} w64 (b ∷ bs) (Ok z) read form.0 in
    let same : z ≡ neg_ℤ (pos (digits_value 10 bs)) = h.1 in
    let bound : digits_value 10 bs ≤ 2 ^ 63 = h.0.2 in
    let small : digits_value 10 bs < 2 ^ 64 = omega arith in
    let front = plain_front bs (inr form.1) in
    let text : decimal (digits_value 10 bs) ≡ bs = decimal-digits_value own bs h.0.0 h.0.1 front.2 small in
    rw same (signed_decimal-neg (digits_value 10 bs) (above_0 (digits_value 10 bs) bs text form.1) ∙ rw form.0 (ap (λ cs. 45 ∷ cs) text))

-- and it is read as a number exactly where it is one
pub IsSigned-read : {E : Type 0} (bs : List ℕ) (r : Result ℤ E) → ParsesSigned w64 10 bs r → HasSignedForm bs
    → (IsSome (result_ok r) → IsSigned bs) × (IsSigned bs → IsSome (result_ok r))
IsSigned-read bs (Err e) read form = (
  λ some. cc,
  λ found.
      let same : Err e ≡ Ok found.0 = parse-signed_decimal w64 found.0 bs (Err e) found.1.0 found.1.0.sfits (sym found.1.1) read in cc,
)
IsSigned-read {E = E} bs (Ok z) read form = (
  λ some. (z, (subst (FitsSigned w64) (sym read.1) read.0.1, signed_decimal-read {E = E} bs (Ok z) read form)),
  λ found. refl,
)

begins_above_0 : (ds : List ℕ) → AllDigits 10 ds → 48 < get_or ds 0 0 → BeginsAbove0 ds
begins_above_0 [] digits above = absurd (omega arith)
begins_above_0 (c ∷ cs) digits above =
    let digit : IsInRange 48 57 c = digit_from_value c digits.0 in (omega arith, omega arith)

BeginsAbove0-decimal : (n : ℕ) → suc n < 2 ^ 64 → BeginsAbove0 (decimal (suc n))
BeginsAbove0-decimal n h =
    let ds = decimal_is_IsNumeral (suc n) h in
    begins_above_0 (decimal (suc n)) ds.0.1 (first_decimal (suc n) (omega arith) h)

-- the text of a number has that form
HasForm-decimal : (n : ℕ) → n < 2 ^ 64 → HasForm (decimal n)
HasForm-decimal zero h = inl (decimal_digit 0 (omega arith))
HasForm-decimal (suc n) h =
    inr (BeginsAbove0-decimal n h)

signed_form : (bs : List ℕ) → HasForm bs → HasSignedForm bs
signed_form [] (inl e) = cc
signed_form [] (inr h) = h
signed_form (b ∷ bs) form = inl form

fields_of-digits : (ds : List ℕ) → AllDigits 10 ds → fields_of ds ≡ ds ∷ []
fields_of-digits [] all = refl
fields_of-digits (c ∷ cs) all =
    let digit = digit_from_value c all.0 in
    let other : (c == 32) ≡ false = grind (arith, nat_tests) in
    slice_split-cons_no (λ byte. byte == 32) c cs other ∙ rw (fields_of-digits cs all.1) refl

fields_of-signed_decimal : (z : ℤ) → FitsSigned w64 z → fields_of (signed_decimal z) ≡ signed_decimal z ∷ []
fields_of-signed_decimal (pos n) fits =
    let ds = decimal_is_IsNumeral n (omega (arith, fits.sfits)) in fields_of-digits (decimal n) ds.0.1
fields_of-signed_decimal (negsuc n) fits =
    let ds = decimal_is_IsNumeral (suc n) (omega (arith, fits.sfits)) in
    slice_split-cons_no (λ byte. byte == 32) 45 (decimal (suc n)) refl ∙ rw (fields_of-digits (decimal (suc n)) ds.0.1) refl

-- the text of a signed number has that form
HasSignedForm-decimal : (z : ℤ) → FitsSigned w64 z → HasSignedForm (signed_decimal z)
HasSignedForm-decimal (pos n) fits = signed_form (decimal n) (HasForm-decimal n (omega (arith, fits.sfits)))
HasSignedForm-decimal (negsuc n) fits = inr (refl, BeginsAbove0-decimal n (omega (arith, fits.sfits)))

-- a number is one field
pub fields_of-signed : (bs : List ℕ) → IsSigned bs → fields_of bs ≡ bs ∷ []
fields_of-signed bs found = rw (← found.1.1) (fields_of-signed_decimal found.0 found.1.0)

-- a field alone is the whole line
pub line-one_field : (line field : List ℕ) → fields_of line ≡ field ∷ [] → field ≡ line
line-one_field line field one = ap (join_with_byte 32) (sym one) ∙ join_with_byte-slice_split 32 line

-- an unsigned number has its form, and a signed one has
pub HasForm-number : (bs : List ℕ) → IsUnsigned bs → HasForm bs
HasForm-number bs found = subst HasForm found.1.1 (HasForm-decimal found.0 found.1.0)

pub HasSignedForm-number : (bs : List ℕ) → IsSigned bs → HasSignedForm bs
HasSignedForm-number bs found = subst HasSignedForm found.1.1 (HasSignedForm-decimal found.0 found.1.0)

pub fields_of-unsigned : (bs : List ℕ) → IsUnsigned bs → fields_of bs ≡ bs ∷ []
fields_of-unsigned bs found =
    let digits = decimal_is_IsNumeral found.0 found.1.0 in rw (← found.1.1) (fields_of-digits (decimal found.0) digits.0.1)
