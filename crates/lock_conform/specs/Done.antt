-- How far a script has run on a lock.
use Rattle.std.specs.Prelude.{ℕ, length, is_some, if◌then◌else◌}
use Rattle.lock_conform.specs.declared.comparison.Comparison.{Comparison}

-- the number of lines that are done: the answered ones, or all after a difference
abbrev pub lines_done : Comparison → ℕ
lines_done c = if is_some c.difference then length c.lines.replies.items else length c.entries.items
