-- A packed word as a raw state: a token is its mode.
use Rattle.std.specs.Prelude.{ℕ, Bool, List, ◌++◌, replicate}
use Rattle.lock_modes.specs.declared.mode.Mode.{Mode}
use Rattle.lock_modes.specs.declared.mode.Mode.TheVariants.{Shared, Exclusive, Upgradable}
use Rattle.lock_modes.specs.declared.bag.Bag.{Bag}
use Rattle.lock_states.specs.declared.word.PackedToken.{PackedToken}

-- the held modes, the two limits, and whether the bar is set
pub record Packed : Type 0 where
  pub bag : Bag
  pub places : ℕ
  pub readers : ℕ
  pub bar : Bool

-- the token of a mode, in its mode
abbrev pub token_of : Mode → PackedToken × Mode
token_of mode = (record { mode = mode }, mode)

-- as many tokens of each mode as in the bag
abbrev pub tokens_in : Bag → List (PackedToken × Mode)
tokens_in b =
    replicate b.shared (token_of Shared)
    ++ (replicate b.exclusive (token_of Exclusive) ++ replicate b.upgradable (token_of Upgradable))
