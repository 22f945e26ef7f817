-- Whether two modes are the same, as `==` decides it.
use Rattle.std.proofs.Common.{◌≡◌, Bool, true, refl, rules}
use Rattle.lock_modes.specs.declared.mode.Mode.{Mode}
use Rattle.lock_modes.specs.declared.mode.Mode.TheVariants.{Shared, Exclusive, Upgradable}
use Rattle.lock_modes.specs.contracts.mode.Mode.{the_type}
use denote.Enum.Bare.{sameb, same_true}

abbrev pub same_mode : Mode → Mode → Bool
same_mode m mode = sameb the_type m mode

pub same_mode-true : (m mode : Mode) → same_mode m mode ≡ true → m ≡ mode
same_mode-true m mode e = same_true the_type (search rules) _ _ e

pub same_mode-same : (mode : Mode) → same_mode mode mode ≡ true
same_mode-same Shared = refl
same_mode-same Exclusive = refl
same_mode-same Upgradable = refl
