use Rattle.std.proofs.Common.{refl, subst}
use Rattle.lock_one.specs.declared.action.Action.{Action}
use Rattle.lock_one.specs.declared.action.Action.TheVariants.{Load, Subtract}
use Rattle.lock_one.specs.Machine.{taking, next_of}
use Rattle.lock_one.proofs.Answers.{first_steps}
use Rattle.lock_one_word.specs.Seats.{to_release, IsGoing}
use Rattle.lock_one_word.proofs.Straight.{goes, first_release, has_released}
use Rattle.lock_one_word.proofs.word_lock.WordLock.remove_reader.Goals as goal

pub returns-then-looked-ge-SLEEPERS-clause-goes_on : goal.returns-then-looked-ge-SLEEPERS-clause-goes_on
returns-then-looked-ge-SLEEPERS-clause-goes_on c =
    let r = c.args.releasing in
    first_release r.readers r.down c.args.seat.now.seat.me c.load_word-looked.new.seat.seat.me Load c.load_word-looked.result c.requires.readers c.requires.has
    (first_steps.looks r.readers r.down c.requires.removes) refl c.load_word-looked.ensures.goes

pub subtract_from_word-found-requires-clause-going : goal.subtract_from_word-found-requires-clause-going
subtract_from_word-found-requires-clause-going c =
    let r = c.args.releasing in
    let after = c.load_word-looked.new.seat.seat.me in
    let looked = next_of c.load_word-looked.result (taking r.readers r.down).0 in
    let going = first_release r.readers r.down c.args.seat.now.seat.me after Load c.load_word-looked.result c.requires.readers c.requires.has
    (first_steps.looks r.readers r.down c.requires.removes) refl c.load_word-looked.ensures.goes in (
      looked.0,
      c.args.seat.now.seat.me.0.held,
      to_release r.down,
      subst (λ (a : Action). IsGoing (looked.0, a) c.args.seat.now.seat.me.0.held (to_release r.down) after.0)
          (first_steps.removes r.readers c.load_word-looked.result r.down c.requires.removes c.if-looked-ge-SLEEPERS.false) going,
    )

pub returns-then-found-lt-SLEEPERS-clause-ended : goal.returns-then-found-lt-SLEEPERS-clause-ended
returns-then-found-lt-SLEEPERS-clause-ended c =
    let r = c.args.releasing in
    let held = c.args.seat.now.seat.me.0.held in
    let after = c.load_word-looked.new.seat.seat.me in
    let last = c.subtract_from_word-found.new.seat.seat.me in
    let looked = next_of c.load_word-looked.result (taking r.readers r.down).0 in
    let going = first_release r.readers r.down c.args.seat.now.seat.me after Load c.load_word-looked.result c.requires.readers c.requires.has
    (first_steps.looks r.readers r.down c.requires.removes) refl c.load_word-looked.ensures.goes in
    has_released (next_of c.subtract_from_word-found.result looked.0) held r.down last.0
    (first_steps.removed r.readers c.load_word-looked.result c.subtract_from_word-found.result r.down c.requires.removes c.if-looked-ge-SLEEPERS.false c.if-found-lt-SLEEPERS.true)
    (goes looked (Subtract r.down) after last c.subtract_from_word-found.result held (to_release r.down)
    (first_steps.removes r.readers c.load_word-looked.result r.down c.requires.removes c.if-looked-ge-SLEEPERS.false) refl c.subtract_from_word-found.ensures.goes going)

pub returns-clause-goes_on : goal.returns-clause-goes_on
returns-clause-goes_on c =
    let r = c.args.releasing in
    let held = c.args.seat.now.seat.me.0.held in
    let after = c.load_word-looked.new.seat.seat.me in
    let last = c.subtract_from_word-found.new.seat.seat.me in
    let looked = next_of c.load_word-looked.result (taking r.readers r.down).0 in
    let going = first_release r.readers r.down c.args.seat.now.seat.me after Load c.load_word-looked.result c.requires.readers c.requires.has
    (first_steps.looks r.readers r.down c.requires.removes) refl c.load_word-looked.ensures.goes in
    goes looked (Subtract r.down) after last c.subtract_from_word-found.result held (to_release r.down)
    (first_steps.removes r.readers c.load_word-looked.result r.down c.requires.removes c.if-looked-ge-SLEEPERS.false) refl c.subtract_from_word-found.ensures.goes going
