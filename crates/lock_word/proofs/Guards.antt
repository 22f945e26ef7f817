-- A step adds no guard, or it leaves no bar.
use Rattle.std.proofs.Common.{◌≡◌, ℕ, ◌+◌, ◌-◌, ◌^◌, ◌<◌, ◌≤◌, ◌⊎◌, inl, inr, Bool, List, slice_get, Some, IsTrue, ap, ◌∙◌, arith}
use Rattle.lock_modes.specs.Limits.{IsLimit}
use Rattle.lock_modes.specs.Modes.{readers}
use Rattle.lock_modes.specs.Holds.{hold_has}
use Rattle.lock_word.specs.declared.want.ExWant.{ExWant}
use Rattle.lock_word.specs.declared.down.Down.{Down}
use Rattle.lock_word.specs.declared.down.Down.TheVariants as down
use Rattle.lock_word.specs.declared.party.WorldParty.{WorldParty}
use Rattle.lock_word.specs.BarredBags.{BarredBag, IsLegalBarredBag, PermitsLockStep, barred_after}
use Rattle.lock_word.specs.Word.{word_of, guards_of_word, word_admits, word_after, amount, step_of_want, step_of_down}
use Rattle.lock_word.specs.Rule.{held_by_all, KeepsRule}
use Rattle.lock_word.proofs.Holders.{Has}
use Rattle.lock_word.proofs.Words.{parts_of_word, word_after_want, word_before_down, permits_down, stands_after}
use Rattle.lock_word.proofs.Rules.{permits_of_rule, has_of_all}

-- the guards of a bag
abbrev guards : BarredBag → ℕ
guards all = readers all.bag + all.bag.exclusive

guards_of_bag : (limit : ℕ) (all : BarredBag) → limit < 2 ^ 32 → IsLegalBarredBag limit all
    → guards_of_word (word_of all) ≡ guards all
guards_of_bag limit all fits stands =
    let parts = parts_of_word limit all fits stands in
    let low = parts.low in
    let exclusive = parts.exclusive in
    omega arith

-- no guard more, or no bar
abbrev pub GainsNoneOrUnbarred : ℕ → ℕ → Type 0
GainsNoneOrUnbarred word new = (guards_of_word new ≤ guards_of_word word) ⊎ (new < 2 ^ 34)

guards_after_want : (announced : Bool) (limit : ℕ) (all : BarredBag) (want : ExWant) → IsLegalBarredBag limit all
    → PermitsLockStep announced limit all (step_of_want want)
    → (guards (barred_after announced all (step_of_want want)) ≤ guards all)
    ⊎ ((barred_after announced all (step_of_want want)).bars ≡ 0)
guards_after_want x0 x1 x2 x3 x4 x5 = grind arith

guards_after_down : (announced : Bool) (all : BarredBag) (d : Down) → Has all (step_of_down d)
    → guards (barred_after announced all (step_of_down d)) ≤ guards all
guards_after_down announced all down.Shared h = omega arith
guards_after_down announced all down.Exclusive h = omega arith
guards_after_down announced all down.Upgradable h = omega arith
guards_after_down announced all down.ToShared h = omega arith
guards_after_down announced all down.ToUpgradable h = omega arith
guards_after_down announced all down.UpgradableToShared h = omega arith
guards_after_down announced all down.Withdraw h = omega arith

pub guards_of_exchange : (limit word : ℕ) (ps : List WorldParty) (k : ℕ) (me : WorldParty) (want : ExWant) → IsLimit limit
    → KeepsRule limit word ps → slice_get ps k ≡ Some me → IsTrue (word_admits me.held.announced limit word want)
    → GainsNoneOrUnbarred word (word_after word want)
guards_of_exchange limit word ps k me want range rule at admits =
    let all = held_by_all ps in
    let announced = me.held.announced in
    let after = barred_after announced all (step_of_want want) in
    let permitted = permits_of_rule limit word ps k me want range rule at admits in
    let stands = stands_after announced limit all (step_of_want want) range.0 rule.legal permitted in
    let new : word_after word want ≡ word_of after
    = ap (λ w. word_after w want) rule.coded ∙ word_after_want announced limit all want rule.legal permitted in
    let before : guards_of_word word ≡ guards all
    = ap guards_of_word rule.coded ∙ guards_of_bag limit all range.1 rule.legal in
    let now : guards_of_word (word_after word want) ≡ guards after
    = ap guards_of_word new ∙ guards_of_bag limit after range.1 stands in
    let bars = (parts_of_word limit after range.1 stands).bars in
    elim (guards_after_want announced limit all want rule.legal permitted) [
      | inl fewer ↦ inl (omega arith)
      | inr none ↦ inr (omega arith)
    ]

pub guards_of_take : (limit word : ℕ) (ps : List WorldParty) (k : ℕ) (me : WorldParty) (d : Down) → IsLimit limit
    → KeepsRule limit word ps → slice_get ps k ≡ Some me → IsTrue (hold_has me.held (step_of_down d))
    → guards_of_word (word - amount d) ≤ guards_of_word word
guards_of_take limit word ps k me d range rule at has =
    let all = held_by_all ps in
    let announced = me.held.announced in
    let after = barred_after announced all (step_of_down d) in
    let had = has_of_all ps k me (step_of_down d) at has in
    let coded = rule.coded in
    let stands = stands_after announced limit all (step_of_down d) range.0 rule.legal (permits_down announced limit all d had) in
    let sum = word_before_down announced all d had in
    let new : word - amount d ≡ word_of after = omega arith in
    let before : guards_of_word word ≡ guards all = ap guards_of_word coded ∙ guards_of_bag limit all range.1 rule.legal in
    let now : guards_of_word (word - amount d) ≡ guards after
    = ap guards_of_word new ∙ guards_of_bag limit after range.1 stands in
    let fewer = guards_after_down announced all d had in
    omega arith
