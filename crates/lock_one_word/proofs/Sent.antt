-- A token may be sent to another thread, since its seat may.
use denote.Builtin.{unit}
use denote.Param.Send.{IsSend, sendable, owning_send}
use Rattle.atomic_table.proofs.shared.Seat.TheSendSync as seat
use Rattle.lock_one_word.specs.contracts.rule.OneView as known
use Rattle.lock_one_word.specs.contracts.word_lock.steps.token.WordToken.TheInside as inside

pub inside_send : IsSend inside.the_row
inside_send = owning_send inside.the_type (seat.the_send unit known.the_row (search sendable), tt) (λ d. tt) (λ k d w. (tt, tt))
