use Rattle.lock_one_word.specs.Seats.{KeepsSeat}
use Rattle.lock_one_word.specs.Drives.{at, unreleased_at, rank, IsReleasing, LeadsTo}
use Rattle.lock_one_word.proofs.word_lock.WordLock.take_on.Given as goal

abbrev pub invariant-loop : goal.invariant-loop
invariant-loop l =
    KeepsSeat l.initial.seat.seat l.seat.seat
    × IsReleasing (at l.pending) l.seat.seat.me × LeadsTo (unreleased_at l.fn.call) l.initial.seat.seat.me (at l.pending) l.seat.seat.me

abbrev pub decreases-loop : goal.decreases-loop
decreases-loop l = rank l.pending.call
