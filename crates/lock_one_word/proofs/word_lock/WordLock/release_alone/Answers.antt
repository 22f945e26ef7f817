use Rattle.std.proofs.Common.{◌-◌, refl, sym, ap, ◌∙◌}
use Rattle.lock_one.specs.declared.action.Action.TheVariants.{Exchange}
use Rattle.lock_one.specs.Machine.{taking, next_of}
use Rattle.lock_one.proofs.Answers.{first_steps}
use Rattle.lock_one_word.proofs.Straight.{may_make, first_release, has_released}
use Rattle.lock_one_word.proofs.word_lock.WordLock.release_alone.Goals as goal

pub exchange_word-found-requires-clause-going : goal.exchange_word-found-requires-clause-going
exchange_word-found-requires-clause-going c =
    let r = c.args.releasing in
    may_make r.readers r.down c.args.seat.now.seat.me (Exchange c.alone_word-word.result (c.alone_word-word.result - c.amount.result)) c.requires.readers c.requires.has
    (first_steps.releases r.readers r.down c.requires.alone ∙ (λ i. Exchange (sym c.alone_word-word.ensures i) (sym c.alone_word-word.ensures i - sym c.amount.ensures i)))

pub returns-then-found-word-clause-ended : goal.returns-then-found-word-clause-ended
returns-then-found-word-clause-ended c =
    let r = c.args.releasing in
    let found = c.exchange_word-found.result in
    let next = next_of found (taking r.readers r.down).0 in
    has_released next c.args.seat.now.seat.me.0.held r.down c.exchange_word-found.new.seat.seat.me.0
    (ap (λ n. (next_of n (taking r.readers r.down).0).1) (c.if-found-word.true ∙ c.alone_word-word.ensures) ∙ first_steps.released r.readers r.down c.requires.alone)
    (first_release r.readers r.down c.args.seat.now.seat.me c.exchange_word-found.new.seat.seat.me (Exchange c.alone_word-word.result (c.alone_word-word.result - c.amount.result)) found
    c.requires.readers c.requires.has
    (first_steps.releases r.readers r.down c.requires.alone ∙ (λ i. Exchange (sym c.alone_word-word.ensures i) (sym c.alone_word-word.ensures i - sym c.amount.ensures i)))
    refl c.exchange_word-found.ensures.goes)

pub returns-clause-goes_on : goal.returns-clause-goes_on
returns-clause-goes_on c =
    let r = c.args.releasing in
    let found = c.exchange_word-found.result in
    first_release r.readers r.down c.args.seat.now.seat.me c.exchange_word-found.new.seat.seat.me (Exchange c.alone_word-word.result (c.alone_word-word.result - c.amount.result)) found
    c.requires.readers c.requires.has
    (first_steps.releases r.readers r.down c.requires.alone ∙ (λ i. Exchange (sym c.alone_word-word.ensures i) (sym c.alone_word-word.ensures i - sym c.amount.ensures i)))
    refl c.exchange_word-found.ensures.goes
