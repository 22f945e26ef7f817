-- The first field of a line, by the place of the first space.
use Rattle.std.proofs.Common.{◌≡◌, ◌==◌, ℕ, ◌<◌, ◌≤◌, ◌+◌, List, [], ◌∷◌, length, take, drop, Bool, true, false, cond, Some, None, refl, arith, subst}
use Rattle.std.specs.Prelude.{position, nat_lt}
use Rattle.std.specs.List.{position_or_len}
use Rattle.std.proofs.lemmas.Bool.Decides.{nat_tests}
use Rattle.std.proofs.lemmas.List.Quantifiers.{position-Some}
use Rattle.std.proofs.lemmas.List.Splits.{slice_split_first, slice_split_none}
use Rattle.std.proofs.lemmas.List.Sums.{fails_before_first}
use Rattle.script_text.specs.Lines.{fields_of}
use Rattle.script_text.proofs.Cuts.{place_found}

abbrev is_space : ℕ → Bool
is_space byte = byte == 32

-- the field before it, and those after it
pub fields_of-at : (line : List ℕ) (at : ℕ) → position is_space line ≡ Some at → fields_of line ≡ take at line ∷ fields_of (drop (at + 1) line)
fields_of-at line at found =
    let n = position_or_len is_space line in
    let same : n ≡ at = place_found is_space line at found in
    let within : at < length line = (position-Some is_space line at 0 found).0 in
    subst (λ k. fields_of line ≡ take k line ∷ fields_of (drop (k + 1) line)) same (slice_split_first is_space line 0 (omega (arith, same, within)))

none_of-choice : (t : Bool) (n : ℕ) → cond t (Some n) None ≡ None → t ≡ false
none_of-choice true n none = cc
none_of-choice false n none = refl

-- a line with no space is one field
pub fields_of-none : (line : List ℕ) → position is_space line ≡ None → fields_of line ≡ line ∷ []
fields_of-none line none =
    let n = position_or_len is_space line in
    let past : nat_lt n (length line) ≡ false = none_of-choice (nat_lt n (length line)) n none in
    let without : length line ≤ n = grind (arith, nat_tests) in
    slice_split_none is_space line (λ k e within. fails_before_first is_space line k e (omega arith))
