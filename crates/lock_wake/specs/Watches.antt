-- What a thread parks for.
use Rattle.std.specs.Prelude.{ℕ}
use Rattle.lock_wake.specs.declared.watched.Watched.{Watched}

-- this number at the word
abbrev pub watching : ℕ → ℕ → Watched
watching word number = record { word = word; number = number }

abbrev pub word_of : Watched → ℕ
word_of watched = watched.word

abbrev pub number_of : Watched → ℕ
number_of watched = watched.number
