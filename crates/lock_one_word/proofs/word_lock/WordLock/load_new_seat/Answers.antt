use Rattle.std.proofs.Common.{[], rules, sym, ap, subst, ◌∙◌}
use Rattle.lock_one.specs.declared.action.Action.TheVariants.{Load}
use Rattle.lock_one.specs.Machine.{next_of}
use Rattle.lock_one_word.specs.Calls.{WordLockView}
use Rattle.lock_one_word.specs.Seats.{Self, newcomer, IsGoing}
use Rattle.lock_one_word.proofs.Seats.{enters}
use Rattle.lock_one_word.proofs.word_lock.WordLock.load_new_seat.Goals as goal

pub load_new_seat-stored-requires : goal.load_new_seat-stored-requires
load_new_seat-stored-requires c = (search rules, enters _ _)

pub returns-clause-new : goal.returns-clause-new
returns-clause-new c =
    c.load_new_seat-stored.ensures.2.0
    ∙ ap (λ n. let me : Self = (newcomer n, []) in me) (c.self.invariant.1 ∙ ap (λ (l : WordLockView). l.readers) c.self.view_is)

pub returns-clause-goes : goal.returns-clause-goes
returns-clause-goes c call before task on goes =
    let me = c.load_new_seat-stored.result.1.me in
    let told = c.load_new_seat-stored.ensures.2 in
    subst (λ w. IsGoing (next_of w call) before task me.0) (sym c.from_stored.ensures)
    (told.3.2 call before task on (subst (λ (m : Self). IsGoing (call, Load) before task m.0) told.0 goes))
