-- The guards that exist: a list of entries by rising guard numbers.
use Rattle.std.specs.Prelude.{ℕ, Bool, true, false, ◌&&◌, ◌||◌, ◌==◌, if◌then◌else◌, List, [], ◌∷◌, length, Option, Some, None}
use Rattle.lock_modes.specs.declared.mode.Mode.{Mode}
use Rattle.lock_modes.specs.declared.bag.Bag.{Bag}
use Rattle.lock_modes.specs.Modes.{bag_of}

-- a guard: its party, its mode, and whether it is held. A parked guard keeps its mode and holds nothing
pub record Entry : Type 0 where
  pub party : ℕ
  pub mode : Mode
  pub held : Bool

abbrev pub parked_entry : Entry → Entry
parked_entry e = record e { held = false }

abbrev pub resumed_entry : Entry → Entry
resumed_entry e = record e { held = true }

abbrev pub in_mode : Mode → Entry → Entry
in_mode mode e = record e { mode = mode }

-- the entry under the number
abbrev pub find : ℕ → List (ℕ × Entry) → Option Entry
find number [] = None
find number (e ∷ es) = if e.0 == number then Some e.1 else find number es

-- the list without the number
abbrev pub without : ℕ → List (ℕ × Entry) → List (ℕ × Entry)
without number [] = []
without number (e ∷ es) = if e.0 == number then es else e ∷ without number es

-- the list with the number's entry changed
abbrev pub update : ℕ → (Entry → Entry) → List (ℕ × Entry) → List (ℕ × Entry)
update number change [] = []
update number change (e ∷ es) = if e.0 == number then (e.0, change e.1) ∷ es else e ∷ update number change es

-- the held entries

abbrev pub held_entries : List (ℕ × Entry) → List Entry
held_entries [] = []
held_entries (e ∷ es) = if e.1.held then e.1 ∷ held_entries es else held_entries es

abbrev pub held_count : List (ℕ × Entry) → ℕ
held_count es = length (held_entries es)

abbrev pub modes_of_entries : List Entry → List Mode
modes_of_entries [] = []
modes_of_entries (e ∷ es) = e.mode ∷ modes_of_entries es

-- how many of each mode are held
abbrev pub held_bag : List (ℕ × Entry) → Bag
held_bag es = bag_of (modes_of_entries (held_entries es))

-- whether each of these entries belongs to the party
abbrev pub all_of_party : ℕ → List Entry → Bool
all_of_party party [] = true
all_of_party party (e ∷ es) = (e.party == party) && all_of_party party es

-- whether one of these entries belongs to the party
abbrev pub some_of_party : ℕ → List Entry → Bool
some_of_party party [] = false
some_of_party party (e ∷ es) = (e.party == party) || some_of_party party es
