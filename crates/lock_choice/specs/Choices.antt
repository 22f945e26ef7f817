-- What the words after the program's name choose.
use Rattle.std.specs.Prelude.{◌≡◌, ◌≢◌, ◌⊎◌, ◌↔◌, [], ◌∷◌, ℕ, List, String, string_bytes, codes, IsTrue, All}
use Rattle.std.specs.Global.{Global}
use Rattle.lock_choice.specs.declared.choice.Choice.{Choice}
use Rattle.lock_choice.specs.declared.choice.RawChoice.{RawChoice}
use Rattle.lock_choice.specs.declared.choice.RawChoice.TheVariants.{Word, Table, Timed, Recording, Fair, TimedFair, Wrong}
use Rattle.lock_choice.specs.declared.wrong.mistake.Mistake.{Mistake}
use Rattle.lock_choice.specs.declared.wrong.mistake.Mistake.TheVariants.{ExtraReader, UpgradeAmongReaders, RefusalAdmits, KeptToken, FairKeptToken, HalfBump, TimedRefusal}
use Rattle.lock_conform.specs.declared.manner.ParkBy.TheVariants.{Unlocked}

-- the word of a mistake
abbrev pub mistake_word : Mistake → List ℕ
mistake_word ExtraReader = codes "extra_reader"
mistake_word UpgradeAmongReaders = codes "upgrade_among_readers"
mistake_word RefusalAdmits = codes "refusal_admits"
mistake_word KeptToken = codes "kept_token"
mistake_word FairKeptToken = codes "fair_kept_token"
mistake_word HalfBump = codes "half_bump"
mistake_word TimedRefusal = codes "timed_refusal"

-- the word of a raw lock
abbrev pub raw_word : RawChoice → List ℕ
raw_word Word = codes "word"
raw_word Table = codes "table"
raw_word Timed = codes "timed"
raw_word Recording = codes "recording"
raw_word (Wrong mistake) = mistake_word mistake
raw_word Fair = codes "fair"
raw_word TimedFair = codes "timed_fair"

abbrev pub IsOption : List ℕ → Type 0
IsOption word = (word ≡ codes "within") ⊎ ((word ≡ codes "arc") ⊎ (word ≡ codes "calls"))

-- not each of the words is another word
abbrev pub HasWord : List (String Global) → List ℕ → Type 0
HasWord words word = ¬ All (λ it. string_bytes it ≢ word) words

-- the first word is the raw lock's, and the options are the others, in any order
pub record IsChosen (first : List ℕ) (options : List (String Global)) (choice : Choice) : Type 0 where
  pub raw : first ≡ raw_word choice.raw
  pub known : All (λ it. IsOption (string_bytes it)) options
  pub within : (choice.manner.park_by ≡ Unlocked) ↔ HasWord options (codes "within")
  pub arc : IsTrue choice.manner.is_arc ↔ HasWord options (codes "arc")
  pub calls : IsTrue choice.prints_calls ↔ HasWord options (codes "calls")

abbrev pub IsChoice : List (String Global) → Choice → Type 0
IsChoice [] choice = ⊥
IsChoice (first ∷ options) choice = IsChosen (string_bytes first) options choice
