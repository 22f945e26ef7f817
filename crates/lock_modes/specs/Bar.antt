-- The bar: the pending-writer flag, and the party that set it.
use Rattle.std.specs.Prelude.{ℕ, Bool, false, ◌&&◌, ◌||◌, ◌==◌, not, if◌then◌else◌, Option, Some, None, is_some}
use Rattle.lock_modes.specs.declared.mode.Mode.{Mode}
use Rattle.lock_modes.specs.Modes.{is_exclusive}

-- whether the bar lets a party acquire the mode: any mode if the bar is not set, exclusively if the party set it
abbrev pub passes_bar : (is_barred is_own : Bool) → Mode → Bool
passes_bar is_barred is_own mode = not is_barred || (is_exclusive mode && is_own)

-- whether the party set the bar
abbrev pub has_announced : Option ℕ → ℕ → Bool
has_announced None party = false
has_announced (Some announced) party = announced == party

-- whether the bar of a register lets the party acquire the mode
abbrev pub bar_lets_pass : Option ℕ → ℕ → Mode → Bool
bar_lets_pass bar party mode = passes_bar (is_some bar) (has_announced bar party) mode

-- the bar after an admitted acquisition: an exclusive one clears it
abbrev pub bar_after : Option ℕ → Mode → Option ℕ
bar_after bar mode = if is_exclusive mode then None else bar
