-- A token owns what its seat owns.
use denote.Param.Send.{IsSend, view_send}
use Rattle.lock_one_word.proofs.Sent.{inside_send}
use Rattle.lock_one_word.specs.contracts.word_lock.steps.token.WordToken.{the_row, the_view, the_invariant}
use Rattle.lock_one_word.specs.contracts.word_lock.steps.token.WordToken.TheInside as inside
use Rattle.lock_one_word.specs.declared.word_lock.steps.token.WordToken.{WordToken, the_code}

pub send : IsSend the_row
send = view_send inside.the_row WordToken the_code the_view the_invariant inside_send
