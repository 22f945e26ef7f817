-- The token of a monitor.
use Rattle.std.specs.Prelude.{Bool}
use Rattle.lock_modes.specs.declared.mode.Mode.{Mode}
use Rattle.lock_modes.specs.declared.mode.Mode.TheVariants.{Shared, Exclusive, Upgradable}
use Rattle.lock_modes.specs.Modes.{is_shared, is_exclusive, is_upgradable}
use Rattle.lock_raws_monitor.specs.declared.monitor.steps.mode_token.ModeToken.{ModeToken}

-- whether the modes are the same
abbrev pub same_mode : Mode → Mode → Bool
same_mode Shared mode = is_shared mode
same_mode Exclusive mode = is_exclusive mode
same_mode Upgradable mode = is_upgradable mode

-- the mode that the arbiter made the token for
abbrev pub mode_of : {K : Type 0} → ModeToken K → Mode
mode_of token = token.mode.value
