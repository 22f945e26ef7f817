-- A failed write keeps what was written.
use Rattle.std.specs.Io.KnownBytes.{Keeps}
use Rattle.script_text.proofs.writing.write_once.Given as goal

abbrev pub invariant-loop : goal.invariant-loop
invariant-loop g l = Keeps (g.W.Write.contents l.initial.writer) (g.W.Write.contents l.writer)
