-- Legal registers.
use Rattle.std.specs.Prelude.{ℕ, ◌<◌, ◌≤◌, Bool, true, false, List, [], ◌∷◌, length, IsTrue}
use Rattle.lock_modes.specs.Modes.{AreCompatible}
use Rattle.lock_modes.specs.Kind.{is_reentrant}
use Rattle.lock_machine.specs.Entries.{Entry, held_entries, held_bag, held_count, all_of_party}
use Rattle.lock_machine.specs.Register.{Register}

-- the levels of a reentrant lock have one owner and are within the limit; the modes of any other lock are compatible
abbrev pub AreLegallyHeld : Bool → ℕ → List (ℕ × Entry) → Type 0
AreLegallyHeld true limit es =
    ((party : ℕ) × IsTrue (all_of_party party (held_entries es))) × (held_count es ≤ limit)
AreLegallyHeld false limit es = AreCompatible limit (held_bag es)

-- the numbers rise from above `low`, and none is above `last`
abbrev pub AreNumbered : ℕ → ℕ → List (ℕ × Entry) → Type 0
AreNumbered low last [] = low ≤ last
AreNumbered low last (e ∷ es) = (low < e.0) × AreNumbered e.0 last es

pub record IsLegal (r : Register) : Type 0 where
  pub held : AreLegallyHeld (is_reentrant r.kind) r.limit r.entries
  pub numbered : AreNumbered 0 r.last r.entries
  pub room : length r.entries ≤ r.places
