use Rattle.std.proofs.Common.{refl, subst, ap, ◌∙◌}
use Rattle.lock_one.specs.declared.action.Action.{Action}
use Rattle.lock_one.specs.declared.action.Action.TheVariants.{Exchange}
use Rattle.lock_one.specs.Machine.{Progress, next_of}
use Rattle.lock_one_word.specs.Seats.{IsGoing}
use Rattle.lock_one_word.proofs.Passing.{passes_on_word}
use Rattle.lock_one_word.proofs.word_lock.WordLock.exchange.Goals as goal

pub exchange_word-found-requires-clause-going : goal.exchange_word-found-requires-clause-going
exchange_word-found-requires-clause-going c =
    let call = c.args.pending.now.call in
    let before = c.requires.going.0 in
    let task = c.requires.going.1 in
    (call, before, task, subst (λ (x : Action). IsGoing (call, x) before task c.args.seat.now.seat.me.0) c.requires.action c.requires.going.2)

pub returns-clause-goes : goal.returns-clause-goes
returns-clause-goes c =
    let found = c.exchange_word-found.result in
    passes_on_word c.args.pending.now c.go_on.new.self (Exchange c.args.old c.args.new) c.args.seat.now.seat.me c.exchange_word-found.new.seat.seat.me found found c.requires.action refl refl
    (c.go_on.ensures.goes ∙ ap (λ (p : Progress). next_of found p.0) c.count.ensures.same) c.exchange_word-found.ensures.goes
