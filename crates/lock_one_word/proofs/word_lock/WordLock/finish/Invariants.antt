use Rattle.std.proofs.Common.{◌≡◌, true}
use Rattle.lock_one_word.specs.Seats.{KeepsSeat}
use Rattle.lock_one_word.specs.Drives.{at, unacquired_at, CanGo, LeadsTo, IsInTime}
use Rattle.lock_one_word.proofs.word_lock.WordLock.finish.Given as goal

abbrev pub invariant-loop : goal.invariant-loop
invariant-loop g l =
    (goal.iterator-loop g).can_next l.iterator' × (goal.iterator-loop g).is_finite l.iterator'
    × KeepsSeat l.initial.seat.seat l.seat.seat
    × CanGo (at l.pending) l.seat.seat.me × LeadsTo (unacquired_at l.fn.call) l.initial.seat.seat.me (at l.pending) l.seat.seat.me × (l.pending.call.blocks ≡ true)
    × IsInTime g.U.Until.has_end l.pending.call
