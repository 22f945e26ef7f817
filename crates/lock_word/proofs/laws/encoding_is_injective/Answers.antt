use Rattle.lock_word.proofs.Words.{encoding_is_injective}
use Rattle.lock_word.proofs.laws.encoding_is_injective.Goals as goal

pub returns : goal.returns
returns c = encoding_is_injective
