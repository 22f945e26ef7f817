use Rattle.std.proofs.Common.{arith}
use Rattle.std.proofs.lemmas.Grind.{common_steps}
use Rattle.script_text.proofs.Lines.{lines_of-first}
use Rattle.script_text.specs.Parts.{bytes_of}
use Rattle.script_text.proofs.part.Part.first_line.Goals as goal

pub returns-in_default-clause-lines : goal.returns-in_default-clause-lines
returns-in_default-clause-lines c = grind (arith, common_steps, lines_of-first (bytes_of c.args.self) c.requires)
