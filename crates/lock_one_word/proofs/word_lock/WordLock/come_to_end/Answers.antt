use Rattle.std.proofs.Common.{sym, subst, ◌∙◌}
use Rattle.std.proofs.lemmas.Bool.{true≢false}
use Rattle.lock_one_word.specs.Calls.{TimesOut}
use Rattle.lock_one_word.specs.Seats.{to_acquire}
use Rattle.lock_one_word.proofs.Causes.{if_err}
use Rattle.lock_one_word.proofs.word_lock.WordLock.come_to_end.Goals as goal

pub finish-requires-clause-going : goal.finish-requires-clause-going
finish-requires-clause-going g c =
    let now = c.requires.going in
    (now.0, now.1, c.in-Err.ensures.goes_on.0 now.0 now.1 now.2)

pub finish-requires-clause-in_time : goal.finish-requires-clause-in_time
finish-requires-clause-in_time g c late = absurd (true≢false (sym late ∙ c.in-Err.ensures.goes_on.3))

pub returns-in-Err-clause-ended : goal.returns-in-Err-clause-ended
returns-in-Err-clause-ended g c before task going = c.finish.ensures.ended before task (c.in-Err.ensures.goes_on.0 before task going)

pub returns-in-Err-clause-refused : goal.returns-in-Err-clause-refused
returns-in-Err-clause-refused g c =
    if_err c.finish.result _ _ c.finish.ensures.refused
    (λ e late before wish going.
    let is_late = late before wish (c.in-Err.ensures.goes_on.0 before (to_acquire wish) going) in
    (subst (λ n. TimesOut n e) c.start.ensures.table.2 is_late.0, is_late.1))
