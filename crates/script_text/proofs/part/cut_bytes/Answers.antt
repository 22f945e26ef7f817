use Rattle.script_text.proofs.Lines.{lines_of-rest}
use Rattle.script_text.proofs.part.cut_bytes.Goals as goal

pub returns-clause-lines : goal.returns-clause-lines
returns-clause-lines c = lines_of-rest c.args.bytes.now c.args.at c.requires
