-- The rule: what holds of the word and of all parties between any two atomic steps.
use Rattle.std.specs.Prelude.{◌≡◌, ◌≢◌, ℕ, ◌+◌, ◌-◌, ◌%◌, ◌^◌, ◌<◌, ◌≤◌, List, map, sum_by, slice_get, Some, ◌⊎◌}
use Rattle.lock_modes.specs.declared.hold.Hold.{Hold}
use Rattle.lock_modes.specs.Modes.{readers}
use Rattle.lock_word.specs.declared.party.WorldParty.{WorldParty}
use Rattle.lock_word.specs.BarredBags.{BarredBag, IsLegalBarredBag, bars_of}
use Rattle.lock_word.specs.Holders.{all_of, IsPart}
use Rattle.lock_word.specs.Word.{word_of, readers_of_word}

-- what each party holds
abbrev pub holds : List WorldParty → List Hold
holds parties = map (λ (q : WorldParty). q.held) parties

-- what all parties hold together
abbrev pub held_by_all : List WorldParty → BarredBag
held_by_all parties = all_of (holds parties)

abbrev pub all_wins : List WorldParty → ℕ
all_wins parties = sum_by (λ (q : WorldParty). q.wins) parties

-- the wins of the other parties
abbrev pub others_wins : List WorldParty → WorldParty → ℕ
others_wins parties me = all_wins parties - me.wins

-- a party's fails are at most the others' wins, and fewer if the word is no longer its open load
pub record IsBehind (others word : ℕ) (me : WorldParty) : Type 0 where
  pub bounded : me.fails ≤ others
  pub open_load : (loaded : ℕ) → me.loaded ≡ Some loaded → word ≢ loaded → me.fails < others

-- the word encodes what all parties hold, which is legal, and each party's fails are behind the others' wins
pub record KeepsRule (limit word : ℕ) (parties : List WorldParty) : Type 0 where
  pub coded : word ≡ word_of (held_by_all parties)
  pub legal : IsLegalBarredBag limit (held_by_all parties)
  pub behind : (k : ℕ) (me : WorldParty) → slice_get parties k ≡ Some me → IsBehind (others_wins parties me) word me

-- what a word says to a party with this hold: it encodes a legal sum of holds, and this hold is part of the sum
pub record WordShows (limit word : ℕ) (own : Hold) : Type 0 where
  pub all : BarredBag
  pub legal : IsLegalBarredBag limit all
  pub part : IsPart own all
  pub coded : word ≡ word_of all
  -- so an exclusive holder is alone, a reader excludes an exclusive holder, and a party that announced itself finds the
  -- bar
  pub exclusive : 0 < own.bag.exclusive → (word ≡ 2 ^ 33) ⊎ (word ≡ 2 ^ 34 + 2 ^ 33)
  pub reads : 0 < readers own.bag → (0 < readers_of_word word) × (word % 2 ^ 34 < 2 ^ 33)
  pub announced : 0 < bars_of own.announced → 2 ^ 34 ≤ word
