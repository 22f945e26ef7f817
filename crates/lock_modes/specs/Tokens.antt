-- The held tokens of a raw state as a bag: a list of tokens with their modes, whose order means nothing.
use Rattle.std.specs.Prelude.{◌≡◌, ℕ, ◌+◌, Bool, List, [], ◌∷◌, IsTrue, if◌then◌else◌}
use Rattle.lock_modes.specs.declared.mode.Mode.{Mode}
use Rattle.lock_modes.specs.declared.bag.Bag.{Bag}
use Rattle.lock_modes.specs.Modes.{bag_of, is_move}

-- how many members pass the test
abbrev pub count : {X : Type 0} → (X → Bool) → List X → ℕ
count test [] = 0
count test (x ∷ xs) = (if test x then 1 else 0) + count test xs

-- two lists are the same bag: every test passes as many members of the one as of the other
pub record SameBag {X : Type 0} (xs ys : List X) : Type 0 where
  pub counts : (test : X → Bool) → count test xs ≡ count test ys

module _ {K : Type 0} where
  abbrev pub modes_of : List (K × Mode) → List Mode
  modes_of [] = []
  modes_of (t ∷ ts) = t.1 ∷ modes_of ts

  -- how many tokens of each mode are held
  abbrev pub bag_of_tokens : List (K × Mode) → Bag
  bag_of_tokens ts = bag_of (modes_of ts)

  -- the token is held in this mode, and these are the other tokens
  abbrev pub IsOutIn : List (K × Mode) → K → Mode → List (K × Mode) → Type 0
  IsOutIn tokens token mode others = SameBag tokens ((token, mode) ∷ others)

  -- the token is held in this mode
  abbrev pub IsOutAs : List (K × Mode) → K → Mode → Type 0
  IsOutAs tokens token mode = (others : List (K × Mode)) × IsOutIn tokens token mode others

  -- the token is held, in some mode
  abbrev pub IsOut : List (K × Mode) → K → Type 0
  IsOut tokens token = (mode : Mode) × IsOutAs tokens token mode

  -- one token more is held than before
  abbrev pub Adds : List (K × Mode) → List (K × Mode) → K → Mode → Type 0
  Adds old new token mode = IsOutIn new token mode old

  -- the token is no longer held, and the others are
  abbrev pub Removes : List (K × Mode) → List (K × Mode) → K → Type 0
  Removes old new token =
      (mode : Mode) (others : List (K × Mode)) → IsOutIn old token mode others → SameBag new others

  -- the token is held in a mode that can change to this one
  abbrev pub CanChange : List (K × Mode) → K → Mode → Type 0
  CanChange tokens token to =
      (from : Mode) × (IsTrue (is_move from to) × IsOutAs tokens token from)

  -- the next token replaces the old one in this mode, and the others stay
  abbrev pub Replaces : List (K × Mode) → List (K × Mode) → K → K → Mode → Type 0
  Replaces old new token next to =
      (from : Mode) (others : List (K × Mode)) → IsOutIn old token from others → IsOutIn new next to others
