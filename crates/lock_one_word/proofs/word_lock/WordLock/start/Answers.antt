use Rattle.std.proofs.Common.{◌≡◌, true, refl, subst, ◌∙◌}
use Rattle.lock_one.specs.declared.action.Action.{Action}
use Rattle.lock_one.specs.declared.action.Action.TheVariants.{Exchange, End}
use Rattle.lock_one.specs.Machine.{next_of}
use Rattle.lock_one_word.specs.Drives.{looked_at, IsTrying}
use Rattle.lock_one_word.specs.Seats.{IsGoing}
use Rattle.lock_one_word.proofs.Blocks.{still_blocks, looked_blocks}
use Rattle.lock_one_word.proofs.Deadlines.{looked_in_time, still_in_time}
use Rattle.lock_one_word.proofs.Straight.{goes, asks, acquires, tries}
use Rattle.lock_one_word.proofs.TryEnds.{tries_again}
use Rattle.lock_one_word.proofs.word_lock.WordLock.start.Goals as goal

pub exchange_word-found-requires-clause-going : goal.exchange_word-found-requires-clause-going
exchange_word-found-requires-clause-going c =
    let l = c.args.looked in
    let now = c.requires.going in
    let is = asks l c.in-Some.left c.in-Some.ensures in
    ((looked_at l).0, now.0, now.1, subst (λ (a : Action). IsGoing ((looked_at l).0, a) now.0 now.1 c.args.seat.now.seat.me.0) is now.2)

pub returns-in_default-clause-goes_on : goal.returns-in_default-clause-goes_on
returns-in_default-clause-goes_on c =
    (λ before task going. going, λ never. tries c.args.looked never, looked_blocks c.args.looked, looked_in_time c.args.looked)

pub returns-then-found-word-clause-acquired : goal.returns-then-found-word-clause-acquired
returns-then-found-word-clause-acquired c =
    let l = c.args.looked in
    let found = c.exchange_word-found.result in
    let admits = c.in-Some.ensures in
    let next = next_of found (looked_at l).0 in
    let ends : next.1 ≡ End true = acquires l c.in-Some.left found admits c.if-found-word.true in (
      c.end.ensures,
      λ before task going. (
        next.0,
        subst (λ (a : Action). IsGoing (next.0, a) before task c.exchange_word-found.new.seat.seat.me.0) ends
            (goes (looked_at l) (Exchange l.word c.in-Some.left) c.args.seat.now.seat.me c.exchange_word-found.new.seat.seat.me found before task
            (asks l c.in-Some.left admits) refl c.exchange_word-found.ensures.goes going),
      ),
    )

pub returns-clause-goes_on : goal.returns-clause-goes_on
returns-clause-goes_on c =
    let l = c.args.looked in
    let left = c.in-Some.left in
    let found = c.exchange_word-found.result in
    let is = asks l left c.in-Some.ensures in
    let now = c.requires.going in (
      λ before task going.
          goes (looked_at l) (Exchange l.word left) c.args.seat.now.seat.me c.exchange_word-found.new.seat.seat.me found before task is refl c.exchange_word-found.ensures.goes going,
      λ never.
          tries_again found l.word left (looked_at l).0 c.args.seat.now.seat.me.0 now.0 now.1
          (subst (λ (a : Action). IsGoing ((looked_at l).0, a) now.0 now.1 c.args.seat.now.seat.me.0) is now.2)
          (subst (λ (a : Action). IsTrying ((looked_at l).0, a)) is (tries l never)),
      still_blocks found (looked_at l).0 ∙ looked_blocks l,
      still_in_time found l.word left (looked_at l).0 c.args.seat.now.seat.me.0 now.0 now.1
          (subst (λ (a : Action). IsGoing ((looked_at l).0, a) now.0 now.1 c.args.seat.now.seat.me.0) is now.2) (looked_in_time l),
    )
