-- The packed word: the encoding of holds and bar in one number, what a word admits, and the word after each step.
use Rattle.std.specs.Prelude.{◌≡◌, ℕ, ◌+◌, ◌-◌, ◌*◌, ◌/◌, ◌%◌, ◌^◌, Bool, ◌&&◌, ◌||◌, ◌==◌, nat_lt, if◌then◌else◌, Option, Some, None}
use Rattle.lock_modes.specs.declared.mode.Mode.{Mode}
use Rattle.lock_modes.specs.declared.mode.Mode.TheVariants as mode
use Rattle.lock_modes.specs.declared.mode_step.ModeStep.TheVariants.{Acquire, Release, Change}
use Rattle.lock_modes.specs.declared.bag.Bag.{Bag}
use Rattle.lock_modes.specs.declared.lock_step.LockStep.{LockStep}
use Rattle.lock_modes.specs.declared.lock_step.LockStep.TheVariants as step
use Rattle.lock_modes.specs.Modes.{readers}
use Rattle.lock_word.specs.declared.want.ExWant.{ExWant}
use Rattle.lock_word.specs.declared.want.ExWant.TheVariants.{Shared, Exclusive, Upgradable, Upgrade, Announce}
use Rattle.lock_word.specs.declared.down.Down.{Down}
use Rattle.lock_word.specs.declared.down.Down.TheVariants as down
use Rattle.lock_word.specs.BarredBags.{BarredBag, IsLegalBarredBag, bars_of}

-- the readers, 2^32 for an upgradable hold, 2^33 for an exclusive one, and 2^34 for the bar
abbrev pub word_of : BarredBag → ℕ
word_of all = readers all.bag + 2 ^ 32 * all.bag.upgradable + 2 ^ 33 * all.bag.exclusive + 2 ^ 34 * all.bars

abbrev pub readers_of_word : ℕ → ℕ
readers_of_word word = word % 2 ^ 32

-- the guards in a word: its readers, and one for an exclusive hold
abbrev pub guards_of_word : ℕ → ℕ
guards_of_word word = readers_of_word word + (word / 2 ^ 33) % 2

-- whether the loaded word admits what a party wants, which has announced itself or has not
abbrev pub word_admits : Bool → ℕ → ℕ → ExWant → Bool
word_admits announced limit word Shared = nat_lt word (2 ^ 33) && nat_lt (readers_of_word word) limit
word_admits announced limit word Exclusive = (word == 0) || (announced && (word == 2 ^ 34))
word_admits announced limit word Upgradable = nat_lt word (2 ^ 32) && nat_lt (readers_of_word word) limit
word_admits announced limit word Upgrade = (word == 2 ^ 32 + 1) || (word == 2 ^ 34 + 2 ^ 32 + 1)
word_admits announced limit word Announce = nat_lt word (2 ^ 34)

-- the word after the exchange
abbrev pub word_after : ℕ → ExWant → ℕ
word_after word Shared = word + 1
word_after word Exclusive = 2 ^ 33
word_after word Upgradable = word + (2 ^ 32 + 1)
word_after word Upgrade = word + (2 ^ 32 - 1)
word_after word Announce = word + 2 ^ 34

-- the word to exchange for the loaded one, if that admits what is wanted
abbrev pub word_exchanged : Bool → ℕ → ℕ → ExWant → Option ℕ
word_exchanged announced limit loaded want =
    if word_admits announced limit loaded want then Some (word_after loaded want) else None

-- the number that a subtraction subtracts
abbrev pub amount : Down → ℕ
amount down.Shared = 1
amount down.Exclusive = 2 ^ 33
amount down.Upgradable = 2 ^ 32 + 1
amount down.ToShared = 2 ^ 33 - 1
amount down.ToUpgradable = 2 ^ 32 - 1
amount down.UpgradableToShared = 2 ^ 32
amount down.Withdraw = 2 ^ 34

-- the step on modes and bar of an exchange
abbrev pub step_of_want : ExWant → LockStep
step_of_want Shared = step.Modes (Acquire mode.Shared)
step_of_want Exclusive = step.Modes (Acquire mode.Exclusive)
step_of_want Upgradable = step.Modes (Acquire mode.Upgradable)
step_of_want Upgrade = step.Modes (Change mode.Upgradable mode.Exclusive)
step_of_want Announce = step.Announce

-- the step on modes and bar of a subtraction
abbrev pub step_of_down : Down → LockStep
step_of_down down.Shared = step.Modes (Release mode.Shared)
step_of_down down.Exclusive = step.Modes (Release mode.Exclusive)
step_of_down down.Upgradable = step.Modes (Release mode.Upgradable)
step_of_down down.ToShared = step.Modes (Change mode.Exclusive mode.Shared)
step_of_down down.ToUpgradable = step.Modes (Change mode.Exclusive mode.Upgradable)
step_of_down down.UpgradableToShared = step.Modes (Change mode.Upgradable mode.Shared)
step_of_down down.Withdraw = step.Withdraw

-- the exchange that acquires the mode
abbrev pub want_of_mode : Mode → ExWant
want_of_mode mode.Shared = Shared
want_of_mode mode.Exclusive = Exclusive
want_of_mode mode.Upgradable = Upgradable

-- the subtraction that releases the mode
abbrev pub down_of_mode : Mode → Down
down_of_mode mode.Shared = down.Shared
down_of_mode mode.Exclusive = down.Exclusive
down_of_mode mode.Upgradable = down.Upgradable

-- the bag that a packed word encodes
abbrev pub bag_of_word : ℕ → Bag
bag_of_word word =
    record {
      shared = readers_of_word word - (word / 2 ^ 32) % 2;
      exclusive = (word / 2 ^ 33) % 2;
      upgradable = (word / 2 ^ 32) % 2;
    }

-- with the bar
abbrev pub barred_bag_of_word : ℕ → BarredBag
barred_bag_of_word word = record { bag = bag_of_word word; bars = word / 2 ^ 34 }

-- the word with the bar, or without it
abbrev pub word_with_bar : ℕ → Bool → ℕ
word_with_bar word barred = word % 2 ^ 34 + 2 ^ 34 * bars_of barred

-- the number encodes a legal state
pub record IsPacked (limit word : ℕ) : Type 0 where
  pub coded : word ≡ word_of (barred_bag_of_word word)
  pub legal : IsLegalBarredBag limit (barred_bag_of_word word)
