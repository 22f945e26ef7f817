-- The lines of the calls so far and those of the rest are all further lines, the number is that of the next, good lines of
-- the rest make a good script, and a bad line of the rest is the first of all.
use Rattle.std.proofs.Common.{◌≡◌, ℕ, ◌+◌, ◌∷◌, ◌++◌, length, map, vec_len}
use Rattle.std.specs.List.{AllByRecursion}
use Rattle.script_text.specs.Lines.{fields_of, lines_of}
use Rattle.lock_script.specs.Lines.{AreLines, IsFirstBad, IsFirstOther, IsLine}
use Rattle.script_text.specs.Parts.{bytes_of}
use Rattle.lock_script.proofs.script.parse.Given as goal

abbrev pub invariant-loop-rest : goal.invariant-loop-rest
invariant-loop-rest g l = record {
  lines : g.M.ScriptLine.fields l.maker ∷ (map g.C.ScriptLine.fields l.calls.items ++ map fields_of (lines_of (bytes_of l.rest))) ≡ map fields_of (lines_of l.bytes);
  count : vec_len l.calls + (1 + length (lines_of (bytes_of l.rest))) ≡ length (lines_of l.bytes);
  next : l.number ≡ vec_len l.calls + 2;
  good : AllByRecursion (IsLine g.C.ScriptLine.makes) (lines_of (bytes_of l.rest)) → AreLines g.M.ScriptLine.makes g.C.ScriptLine.makes (lines_of l.bytes);
  first : (bad : ℕ) → IsFirstOther g.C.ScriptLine.makes (lines_of (bytes_of l.rest)) l.number bad → IsFirstBad g.M.ScriptLine.makes g.C.ScriptLine.makes (lines_of l.bytes) bad;
}

abbrev pub decreases-loop-rest : goal.decreases-loop-rest
decreases-loop-rest g l = length (bytes_of l.rest)
