use Rattle.std.proofs.Common.{rules, sym, subst}
use Rattle.lock_one.specs.Machine.{next_of}
use Rattle.lock_one_word.specs.Seats.{IsGoing}
use Rattle.lock_one_word.proofs.Seats.{loads}
use Rattle.lock_one_word.proofs.word_lock.WordLock.load_word.Goals as goal

pub load-requires : goal.load-requires
load-requires c = (search rules, search rules, loads _ _ _ _)

pub returns-clause-goes : goal.returns-clause-goes
returns-clause-goes c call before task on goes =
    subst (λ w. IsGoing (next_of w call) before task c.load.new.seat.me.0) (sym c.from_stored.ensures)
    (c.load.ensures.2.3.2 call before task on goes)
