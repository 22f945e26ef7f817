-- The place that a search found, and where a text may be cut: before and after an ASCII byte at that place.
use Rattle.std.proofs.Common.{◌≡◌, ◌==◌, ℕ, ◌<◌, ◌+◌, List, length, Bool, Some, arith, get_or}
use Rattle.std.specs.Prelude.{position, nat_lt}
use Rattle.std.specs.List.{position_or_len}
use Rattle.std.specs.Str.{IsUtf8, IsCharBoundary}
use Rattle.std.proofs.lemmas.Bool.Decides.{nat_tests}
use Rattle.std.proofs.lemmas.List.Quantifiers.{position-Some}
use Rattle.std.proofs.lemmas.Option.{cond_some}
use Rattle.std.proofs.lemmas.Str.{IsCharBoundary-before_ascii, IsCharBoundary-after_ascii}

-- the place that a search found is that of the first byte that passes
pub place_found : (p : ℕ → Bool) (text : List ℕ) (at : ℕ) → position p text ≡ Some at → position_or_len p text ≡ at
place_found p text at found = (cond_some (nat_lt (position_or_len p text) (length text)) (position_or_len p text) at found).1

abbrev pub is_byte : ℕ → ℕ → Bool
is_byte b byte = byte == b

pub before_byte : (b : ℕ) (text : List ℕ) (at : ℕ) → b < 128 → position (is_byte b) text ≡ Some at → IsCharBoundary text at
before_byte b text at small found =
    let there = position-Some (is_byte b) text at 0 found in
    let here : get_or text at 0 ≡ b = let passes = there.1 in grind (arith, nat_tests) in
    IsCharBoundary-before_ascii text at there.0 (omega arith)

pub after_byte : (b : ℕ) (text : List ℕ) (at : ℕ) → b < 128 → IsUtf8 text → position (is_byte b) text ≡ Some at → IsCharBoundary text (at + 1)
after_byte b text at small utf8 found =
    let there = position-Some (is_byte b) text at 0 found in
    let here : get_or text at 0 ≡ b = let passes = there.1 in grind (arith, nat_tests) in
    IsCharBoundary-after_ascii text at utf8 there.0 (omega arith)
