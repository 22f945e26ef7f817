-- Which changes of a token's mode are downgrades.
use Rattle.std.specs.Prelude.{Bool, ◌&&◌, not}
use Rattle.lock_modes.specs.declared.mode.Mode.{Mode}
use Rattle.lock_modes.specs.Modes.{is_exclusive, is_move}

-- a move that is no upgrade
abbrev pub is_downgrade : Mode → Mode → Bool
is_downgrade from to = is_move from to && not (is_exclusive to)
