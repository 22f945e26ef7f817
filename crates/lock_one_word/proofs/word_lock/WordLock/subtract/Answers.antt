use Rattle.std.proofs.Common.{refl, subst}
use Rattle.lock_one.specs.declared.action.Action.{Action}
use Rattle.lock_one.specs.declared.action.Action.TheVariants.{Subtract}
use Rattle.lock_one_word.specs.Seats.{IsGoing}
use Rattle.lock_one_word.proofs.Passing.{passes_on_word}
use Rattle.lock_one_word.proofs.word_lock.WordLock.subtract.Goals as goal

pub subtract_from_word-found-requires-clause-going : goal.subtract_from_word-found-requires-clause-going
subtract_from_word-found-requires-clause-going c =
    let call = c.args.pending.now.call in
    let before = c.requires.going.0 in
    let task = c.requires.going.1 in
    (call, before, task, subst (λ (x : Action). IsGoing (call, x) before task c.args.seat.now.seat.me.0) c.requires.action c.requires.going.2)

pub returns-clause-goes : goal.returns-clause-goes
returns-clause-goes c =
    let found = c.subtract_from_word-found.result in
    passes_on_word c.args.pending.now c.go_on.new.self (Subtract c.args.down) c.args.seat.now.seat.me c.subtract_from_word-found.new.seat.seat.me found found
    c.requires.action refl refl c.go_on.ensures.goes c.subtract_from_word-found.ensures.goes
