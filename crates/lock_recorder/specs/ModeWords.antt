-- The words for modes.
use Rattle.std.specs.Prelude.{ℕ, List, codes}
use Rattle.lock_modes.specs.declared.mode.Mode.{Mode}
use Rattle.lock_modes.specs.declared.mode.Mode.TheVariants.{Shared, Exclusive, Upgradable}

abbrev pub word_of : Mode → List ℕ
word_of Shared = codes "shared"
word_of Exclusive = codes "exclusive"
word_of Upgradable = codes "upgradable"
