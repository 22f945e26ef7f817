use Rattle.std.proofs.Common.{refl}
use Rattle.lock_one.specs.declared.action.Action.TheVariants.{Load}
use Rattle.lock_one_word.proofs.Passing.{passes_on_word}
use Rattle.lock_one_word.proofs.word_lock.WordLock.look.Goals as goal

pub returns-clause-goes : goal.returns-clause-goes
returns-clause-goes c =
    passes_on_word c.args.pending.now c.go_on.new.self Load c.args.seat.now.seat.me c.load_word-found.new.seat.seat.me c.load_word-found.result c.load_word-found.result c.requires.action refl refl
    c.go_on.ensures.goes c.load_word-found.ensures.goes
