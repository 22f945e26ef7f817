-- A word is stored as one number.
use Rattle.std.proofs.Common.{◌≡◌, ℕ, ◌+◌, ◌-◌, ◌%◌, ◌^◌, ◌<◌, ◌≤◌, List, slice_get, Some, IsTrue, inl, inr, ap, ◌∙◌, ltb-true, arith}
use Rattle.std.proofs.lemmas.Nat.{mod-mul-add}
use Rattle.lock_modes.specs.Limits.{IsLimit}
use Rattle.lock_modes.specs.declared.hold.Hold.{Hold}
use Rattle.lock_modes.specs.Holds.{hold_has}
use Rattle.lock_word.specs.declared.down.Down.{Down}
use Rattle.lock_word.specs.declared.down.Down.TheVariants as down
use Rattle.lock_word.specs.Rule.{WordShows}
use Rattle.lock_modes.specs.Modes.{readers}
use Rattle.lock_word.specs.BarredBags.{BarredBag, IsLegalBarredBag}
use Rattle.lock_word.specs.Holders.{all_of}
use Rattle.lock_word.specs.Word.{readers_of_word, amount, step_of_down}
use Rattle.lock_word.proofs.Words.{parts_of_word}
use Rattle.lock_word.proofs.Rules.{amount_within, shows}
use Rattle.lock_one.specs.declared.sleep_view.WordLimits.{WordLimits}
use Rattle.lock_one.specs.declared.sleep_view.SleepView.{SleepView}
use Rattle.lock_one.specs.Rule.{holds_of}
use Rattle.lock_one.specs.Machine.{core_of}
use Rattle.lock_one.specs.Steps.{Keeps}
use Rattle.lock_one.specs.Stored.{stored_of, word_of_stored, stored_amount, StoringKeepsWords}
use Rattle.lock_one.proofs.EachStep.{parties_of, party_of, party_at, rule_of}

pub read_back : (word : ℕ) → word < 2 ^ 37 → word_of_stored (stored_of word) ≡ word
read_back word small = omega arith

pub stored_again : (stored : ℕ) → stored < 2 ^ 37 → stored_of (word_of_stored stored) ≡ stored
stored_again stored small = omega arith

pub few : (limit : ℕ) (all : BarredBag) → IsLegalBarredBag limit all → readers all.bag ≤ limit
few limit all legal = grind arith

in_half : (limits : WordLimits) (word : ℕ) (views : List SleepView) → IsLimit limits.readers → limits.readers < 2 ^ 27
    → Keeps limits word views → stored_of word < 2 ^ 32
in_half limits word views range less keeps =
    let all = all_of (holds_of views) in
    let coded = keeps.kept.coded in
    let parts = parts_of_word limits.readers all range.1 keeps.kept.legal in
    let low : readers_of_word (core_of word) ≡ readers all.bag = ap readers_of_word coded ∙ parts.low in
    let much = few limits.readers all keeps.kept.legal in
    let small = keeps.small in
    omega arith

one_reader : (word : ℕ) → word < 2 ^ 37 → word % 2 ^ 32 < 2 ^ 32 - 1 → stored_of (word + 1) ≡ stored_of word + 32
one_reader word small room = omega arith

-- a subtraction modulo a number takes away, and with the complement of a number it adds
falls : (n k after modulus : ℕ) → n ≡ after + k → n < modulus → (n + (modulus - k)) % modulus ≡ after
falls n k after modulus is small =
    ap (λ m. m % modulus) (omega arith) ∙ mod-mul-add 1 modulus after (omega arith)

rises : (n k after modulus : ℕ) → after ≡ n + k → after < modulus → (n + (modulus - (modulus - k))) % modulus ≡ after
rises n k after modulus is small =
    ap (λ m. m % modulus) (omega arith) ∙ mod-mul-add 0 modulus after small

less : (limit word modulus : ℕ) (own : Hold) (d : Down) → word < 2 ^ 37 → amount d ≤ core_of word → IsTrue (hold_has own (step_of_down d))
    → WordShows limit (core_of word) own → stored_of word < modulus → stored_of (word - amount d) < modulus
    → (stored_of word + (modulus - stored_amount modulus d)) % modulus ≡ stored_of (word - amount d)
less limit word modulus own down.Shared small within has seen before after =
    let one = ltb-true 0 own.bag.shared has in
    let reads = (seen.reads (omega arith)).0 in
    falls (stored_of word) 32 (stored_of (word - amount down.Shared)) modulus (omega arith) before
less limit word modulus own down.Exclusive small within has seen before after =
    falls (stored_of word) 2 (stored_of (word - amount down.Exclusive)) modulus (omega arith) before
less limit word modulus own down.Upgradable small within has seen before after =
    let one = ltb-true 0 own.bag.upgradable has in
    let reads = (seen.reads (omega arith)).0 in
    falls (stored_of word) 33 (stored_of (word - amount down.Upgradable)) modulus (omega arith) before
less limit word modulus own down.ToShared small within has seen before after =
    rises (stored_of word) 30 (stored_of (word - amount down.ToShared)) modulus
    (elim (seen.exclusive (ltb-true 0 own.bag.exclusive has)) [
      | inl alone ↦ omega arith
      | inr barred ↦ omega arith
    ])
    after
less limit word modulus own down.ToUpgradable small within has seen before after =
    rises (stored_of word) 31 (stored_of (word - amount down.ToUpgradable)) modulus
    (elim (seen.exclusive (ltb-true 0 own.bag.exclusive has)) [
      | inl alone ↦ omega arith
      | inr barred ↦ omega arith
    ])
    after
less limit word modulus own down.UpgradableToShared small within has seen before after =
    falls (stored_of word) 1 (stored_of (word - amount down.UpgradableToShared)) modulus (omega arith) before
less limit word modulus own down.Withdraw small within has seen before after =
    falls (stored_of word) 4 (stored_of (word - amount down.Withdraw)) modulus (omega arith) before

subtracts : (limits : WordLimits) (word : ℕ) (views : List SleepView) (k : ℕ) (me : SleepView) (d : Down) (modulus : ℕ) → IsLimit limits.readers
    → Keeps limits word views → slice_get views k ≡ Some me → IsTrue (hold_has me.held (step_of_down d))
    → stored_of word < modulus → stored_of (word - amount d) < modulus
    → (stored_of word + (modulus - stored_amount modulus d)) % modulus ≡ stored_of (word - amount d)
subtracts limits word views k me d modulus range keeps at has before after =
    let rule = rule_of limits.readers (core_of word) views keeps.kept.coded keeps.kept.legal in
    let there = party_at views k me at in
    less limits.readers word modulus me.held d keeps.small (amount_within limits.readers (core_of word) (parties_of views) k (party_of me) d rule there has) has
    (shows limits.readers (core_of word) (parties_of views) k (party_of me) range rule there)
    before after

pub storing_keeps_words : StoringKeepsWords
storing_keeps_words =
    record { read_back = read_back; stored_again = stored_again; in_half = in_half; one_reader = one_reader; subtracts = subtracts }
