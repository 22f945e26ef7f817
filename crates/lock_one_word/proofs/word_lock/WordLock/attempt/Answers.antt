use Rattle.std.proofs.Common.{true, false, MatchResult, subst}
use Rattle.lock_one_word.specs.Calls.{IsTry}
use Rattle.lock_one_word.specs.Seats.{to_acquire}
use Rattle.lock_one_word.proofs.Rests.{acquired_end}
use Rattle.lock_one_word.proofs.Straight.{try_started}
use Rattle.lock_one_word.proofs.word_lock.WordLock.attempt.Goals as goal

pub try_on-requires-clause-going : goal.try_on-requires-clause-going
try_on-requires-clause-going c =
    let now = c.requires.going in
    let on = c.in-Err.ensures.goes_on in
    ((now.0, now.1, on.0 now.0 now.1 now.2), on.1 c.requires.tries)

pub returns-in-Ok-clause-tried : goal.returns-in-Ok-clause-tried
returns-in-Ok-clause-tried c before wish clean awaited going =
    let end = c.in-Ok.ensures.acquired.1 before (to_acquire wish) going in
    acquired_end end.0 before wish c.start.new.seat.seat.me.0 clean awaited end.1

pub returns-in-Ok-clause-ended : goal.returns-in-Ok-clause-ended
returns-in-Ok-clause-ended c before wish going =
    try_started c.args.looked c.args.seat.now.seat.me.0 before wish c.in-Ok.ended going c.requires.tries c.in-Ok.ensures.acquired.0

pub returns-in-Err-clause-tried : goal.returns-in-Err-clause-tried
returns-in-Err-clause-tried c before wish clean awaited going =
    c.try_on.ensures.tried before wish clean awaited (c.in-Err.ensures.goes_on.0 before (to_acquire wish) going)

pub returns-in-Err-clause-ended : goal.returns-in-Err-clause-ended
returns-in-Err-clause-ended c before wish going =
    subst (λ n. MatchResult c.try_on.result (IsTry n wish true) (IsTry n wish false)) c.start.ensures.table.2
    (c.try_on.ensures.ended before wish (c.in-Err.ensures.goes_on.0 before (to_acquire wish) going))
