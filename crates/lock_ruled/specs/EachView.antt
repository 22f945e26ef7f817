-- What holds of each of the users' views.
use Rattle.std.specs.Prelude.{List, [], ◌∷◌}

abbrev pub Each : {V : Type 0} → (V → Type 0) → List V → Type 0
Each fits [] = Unit {0}
Each fits (view ∷ views) = fits view × Each fits views
