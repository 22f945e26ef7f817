-- A reference to a token holds a share of what the token owns.
use denote.Param.Send.{IsSync, part_keyless, view_sync}
use Rattle.lock_one_word.proofs.Sent.{inside_send}
use Rattle.lock_one_word.specs.contracts.word_lock.steps.token.WordToken.{the_row, the_view, the_invariant}
use Rattle.lock_one_word.specs.contracts.word_lock.steps.token.WordToken.TheInside as inside
use Rattle.lock_one_word.specs.declared.word_lock.steps.token.WordToken.{WordToken, the_code}

pub sync : IsSync the_row
sync = view_sync inside.the_row WordToken the_code the_view the_invariant (record { shared = λ d b o ν q. part_keyless inside.the_row inside_send q d b o })
