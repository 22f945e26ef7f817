-- The bar in the word is that of the one party that has announced itself.
use Rattle.std.proofs.Common.{◌≡◌, ◌≢◌, ℕ, zero, suc, ◌+◌, ◌^◌, ◌<◌, ◌≤◌, Bool, true, false, List, [], ◌∷◌, slice_get, slice_set, sum_by, Some, refl, sym, ap, arith, eqb-true, ◌==◌}
use Rattle.std.proofs.lemmas.Bool.{eqb-false}
use Rattle.std.proofs.lemmas.List.Sums.{sum_by-cons}
use Rattle.lock_modes.specs.declared.hold.Hold.{Hold}
use Rattle.lock_modes.specs.Limits.{IsLimit}
use Rattle.lock_modes.specs.Holds.{no_hold}
use Rattle.lock_word.specs.declared.party.WorldParty.{WorldParty}
use Rattle.lock_word.specs.BarredBags.{bars_of}
use Rattle.lock_word.specs.Rule.{holds, held_by_all, KeepsRule}
use Rattle.lock_word.specs.Worlds.{WorldState, IsReachable}
use Rattle.lock_word.specs.Claims.{IsAnnounced, BarIsOfOne}
use Rattle.lock_word.proofs.Holders.{sum_by-slice_set, le-sum_by}
use Rattle.lock_word.proofs.Lists.{other_stays}
use Rattle.lock_word.proofs.Words.{parts_of_word}
use Rattle.lock_word.proofs.Rules.{holds_at, part_of_parties}

abbrev bar_of : Hold → ℕ
bar_of h = bars_of h.announced

-- two parties that have announced themselves have two bars
two_bars : (hs : List Hold) (k j : ℕ) (a b : Hold) → j ≢ k → slice_get hs k ≡ Some a → slice_get hs j ≡ Some b
    → bar_of a + bar_of b ≤ sum_by bar_of hs
two_bars hs k j a b other at_k at_j =
    let less = sum_by-slice_set bar_of hs k a no_hold at_k in
    let left = le-sum_by bar_of (slice_set hs k no_hold) j b (other_stays hs k j no_hold b other at_j) in
    let none : bar_of no_hold ≡ 0 = refl in
    omega arith

-- a party of the list has announced itself
abbrev Found : List WorldParty → Type 0
Found ps = (k : ℕ) × (me : WorldParty) × (slice_get ps k ≡ Some me) × (me.held.announced ≡ true)

found : (ps : List WorldParty) → 0 < sum_by bar_of (holds ps) → Found ps
found [] some = absurd (omega arith)
found (q ∷ ps) some =
    let rest = sum_by-cons bar_of q.held (holds ps) in
    first q ps q.held.announced refl
    (λ none. let bar : bar_of q.held ≡ 0 = ap bars_of none in found ps (omega arith))
  where
    first : (q : WorldParty) (ps : List WorldParty) (b : Bool) → q.held.announced ≡ b
        → (q.held.announced ≡ false → Found ps) → Found (q ∷ ps)
    first q ps true e later = (0, q, refl, e)
    first q ps false e later = let f = later e in (suc f.0, f.1, f.2, f.3)

sole : (limit word : ℕ) (ps : List WorldParty) → KeepsRule limit word ps → (p q : ℕ) → IsAnnounced ps p
    → IsAnnounced ps q → p ≡ q
sole limit word ps rule zero q a b = let none = a.1 in cc
sole limit word ps rule (suc k) zero a b = let none = b.1 in cc
sole limit word ps rule (suc k) (suc j) a b = same (k == j) refl
  where
    same : (t : Bool) → (k == j) ≡ t → suc k ≡ suc j
    same true e = ap suc (eqb-true k j e)
    same false e =
        let two = two_bars (holds ps) k j a.0.held b.0.held (λ h. eqb-false k j e (sym h)) (holds_at ps k a.0 a.1)
        (holds_at ps j b.0 b.1) in
        let first : bar_of a.0.held ≡ 1 = ap bars_of a.2 in
        let second : bar_of b.0.held ≡ 1 = ap bars_of b.2 in
        let one = rule.legal.one_bar in
        absurd (omega arith)

pub announced_shows : (limit word : ℕ) (ps : List WorldParty) (p : ℕ) → KeepsRule limit word ps → IsAnnounced ps p → 2 ^ 34 ≤ word
announced_shows limit word ps zero rule a = let none = a.1 in cc
announced_shows limit word ps (suc k) rule a =
    let part = part_of_parties ps k a.0 a.1 in
    let bar : bar_of a.0.held ≡ 1 = ap bars_of a.2 in
    let coded = rule.coded in
    let some = part.bars in
    omega arith

-- at most one party has announced itself, and the word has 2^34 exactly if one has
pub bar_of_rule : (limit word : ℕ) (ps : List WorldParty) → IsLimit limit → KeepsRule limit word ps → BarIsOfOne word ps
bar_of_rule limit word ps range rule =
    record {
      sole = sole limit word ps rule;
      shown = (
        λ high.
            let parts = parts_of_word limit (held_by_all ps) range.1 rule.legal in
            let bars = parts.bars in
            let coded = rule.coded in
            let f = found ps (omega arith) in
            (suc f.0, (f.1, f.2, f.3)),
        λ a. announced_shows limit word ps a.0 rule a.1,
      );
    }

pub bar_of_reached : (w : WorldState) → IsReachable w → BarIsOfOne w.word w.parties
bar_of_reached w h = bar_of_rule w.readers w.word w.parties h.limit h.rule
