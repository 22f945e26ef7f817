-- A word as a lock stores it: the five flags are bits 0 to 4, in their order, and the readers follow.
use Rattle.std.specs.Prelude.{◌≡◌, ℕ, ◌+◌, ◌*◌, ◌/◌, ◌%◌, ◌-◌, ◌^◌, ◌<◌, List, slice_get, Some, IsTrue}
use Rattle.lock_modes.specs.Limits.{IsLimit}
use Rattle.lock_modes.specs.Holds.{hold_has}
use Rattle.lock_word.specs.declared.down.Down.{Down}
use Rattle.lock_word.specs.declared.down.Down.TheVariants as down
use Rattle.lock_word.specs.Word.{amount, step_of_down}
use Rattle.lock_one.specs.declared.sleep_view.WordLimits.{WordLimits}
use Rattle.lock_one.specs.declared.sleep_view.SleepView.{SleepView}
use Rattle.lock_one.specs.Steps.{Keeps}

abbrev pub stored_of : ℕ → ℕ
stored_of word = word / 2 ^ 32 + 32 * (word % 2 ^ 32)

abbrev pub word_of_stored : ℕ → ℕ
word_of_stored stored = stored / 32 + 2 ^ 32 * (stored % 32)

-- what a release subtracts from a stored word that wraps at the modulus. A downgrade that makes a reader of a flag adds
abbrev pub stored_amount : ℕ → Down → ℕ
stored_amount modulus down.Shared = 32
stored_amount modulus down.Exclusive = 2
stored_amount modulus down.Upgradable = 33
stored_amount modulus down.ToShared = modulus - 30
stored_amount modulus down.ToUpgradable = modulus - 31
stored_amount modulus down.UpgradableToShared = 1
stored_amount modulus down.Withdraw = 4

-- THE LAW: each word is stored as one number, and read back as it was. A lock for fewer than 2^27 readers stores 32 bits, so a sleep,
-- which compares 32 bits, compares its whole word
pub record StoringKeepsWords : Type 0 where
  pub read_back : (word : ℕ) → word < 2 ^ 37 → word_of_stored (stored_of word) ≡ word
  pub stored_again : (stored : ℕ) → stored < 2 ^ 37 → stored_of (word_of_stored stored) ≡ stored
  pub in_half : (limits : WordLimits) (word : ℕ) (views : List SleepView) → IsLimit limits.readers → limits.readers < 2 ^ 27
      → Keeps limits word views → stored_of word < 2 ^ 32
  pub one_reader : (word : ℕ) → word < 2 ^ 37 → word % 2 ^ 32 < 2 ^ 32 - 1 → stored_of (word + 1) ≡ stored_of word + 32
  -- of a word that the rule permits, a holder subtracts this number from the stored word, whatever the width that stores both words
  pub subtracts : (limits : WordLimits) (word : ℕ) (views : List SleepView) (k : ℕ) (me : SleepView) (d : Down) (modulus : ℕ) → IsLimit limits.readers
      → Keeps limits word views → slice_get views k ≡ Some me → IsTrue (hold_has me.held (step_of_down d))
      → stored_of word < modulus → stored_of (word - amount d) < modulus
      → (stored_of word + (modulus - stored_amount modulus d)) % modulus ≡ stored_of (word - amount d)
