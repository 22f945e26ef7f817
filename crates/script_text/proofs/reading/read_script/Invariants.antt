-- The script is what was read so far.
use Rattle.std.proofs.Common.{◌≤◌, vec_len}
use Rattle.std.specs.Io.KnownBytes.{Consumes}
use Rattle.script_text.proofs.reading.read_script.Given as goal

abbrev pub invariant-loop : goal.invariant-loop
invariant-loop g l =
    (vec_len l.script ≤ 1048576) × Consumes (g.R.Read.remaining l.initial.reader) (g.R.Read.remaining l.reader) l.script.items
