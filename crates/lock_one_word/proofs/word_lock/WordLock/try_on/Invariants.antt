use Rattle.std.proofs.Common.{◌-◌, ◌^◌}
use Rattle.lock_one_word.specs.Seats.{KeepsSeat}
use Rattle.lock_one_word.specs.Drives.{at, unacquired_at, CanGo, LeadsTo, IsTrying}
use Rattle.lock_one_word.proofs.word_lock.WordLock.try_on.Given as goal

abbrev pub invariant-loop-old : goal.invariant-loop-old
invariant-loop-old l =
    KeepsSeat l.initial.seat.seat l.seat.seat
    × CanGo (at l.pending) l.seat.seat.me × IsTrying (at l.pending) × LeadsTo (unacquired_at l.fn.call) l.initial.seat.seat.me (at l.pending) l.seat.seat.me

abbrev pub decreases-loop-old : goal.decreases-loop-old
decreases-loop-old l = 2 ^ 64 - 1 - l.pending.exchanges
