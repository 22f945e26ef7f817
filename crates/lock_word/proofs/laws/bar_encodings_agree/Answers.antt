use Rattle.lock_word.proofs.AlikeBars.{bar_encodings_agree}
use Rattle.lock_word.proofs.laws.bar_encodings_agree.Goals as goal

pub returns : goal.returns
returns c = bar_encodings_agree
