use Rattle.std.proofs.Common.{◌≡◌, true, IsTrue, refl, sym, ap, subst, ◌∙◌}
use Rattle.lock_modes.specs.Holds.{no_hold, hold_has}
use Rattle.lock_word.specs.Word.{step_of_want}
use Rattle.lock_one.specs.Machine.{acquiring, next_of}
use Rattle.lock_one_word.specs.Calls.{WordLockView}
use Rattle.lock_one_word.specs.Seats.{Self, to_acquire, IsGoing}
use Rattle.lock_one_word.proofs.Begins.{first_look}
use Rattle.lock_one_word.proofs.word_lock.WordLock.begin.Goals as goal

pub returns-clause-going : goal.returns-clause-going
returns-clause-going c =
    let word = c.load_new_seat-word.result.0 in
    let me = c.load_new_seat-word.result.1.seat.me in
    let new = c.load_new_seat-word.ensures.new in
    let fresh : me.0.held ≡ no_hold = ap (λ (m : Self). m.0.held) new in
    let begun = acquiring c.self.inside.readers c.args.want c.args.blocks true in
    subst (λ h. IsGoing (next_of word begun.0) h (to_acquire c.args.want) me.0) fresh
    (first_look c.self.inside.readers word c.args.want c.args.blocks me begun (next_of word begun.0) (ap (λ (l : WordLockView). l.readers) c.self.view_is ∙ sym (ap (λ (m : Self). m.0.readers) new))
    (ap (λ (m : Self). m.0.held.announced) new) refl c.requires.awaited
    (subst (λ h. IsTrue (hold_has h (step_of_want c.args.want))) (sym fresh) c.requires.has) c.load_new_seat-word.ensures.goes refl)
