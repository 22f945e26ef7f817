use Rattle.lock_one_word.proofs.word_lock.WordLock.sleep.Goals as goal

pub returns : goal.returns
returns g c = (c.answer_of_sleep-found.result, c.go_on.ensures.goes, λ late. c.is_over-is_late.ensures (c.answer_of_sleep-found.ensures late))
