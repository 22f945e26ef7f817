use Rattle.std.proofs.Common.{◌==◌, refl, sym, ap, subst, ◌∙◌}
use Rattle.std.proofs.lemmas.Bool.{true≢false}
use Rattle.lock_one.specs.declared.action.Action.TheVariants.{Sleep, Spin, Yield}
use Rattle.lock_one_word.specs.Drives.{Pending, GoesOn, IsInTime}
use Rattle.lock_one_word.specs.Seats.{Self}
use Rattle.lock_one_word.proofs.Deadlines.{keeps_time, on_lock}
use Rattle.lock_one_word.proofs.Rests.{rests_on}
use Rattle.lock_one_word.proofs.word_lock.WordLock.make.Goals as goal

pub returns-then-make_on_lock-clause-made : goal.returns-then-make_on_lock-clause-made
returns-then-make_on_lock-clause-made g c none = (c.make_on_lock.ensures.made c.if-make_on_lock.true).1

pub returns-in-Sleep-clause-made : goal.returns-in-Sleep-clause-made
returns-in-Sleep-clause-made g c none =
    let other = c.make_on_lock.ensures.other c.if-make_on_lock.false in
    let p = c.make_on_lock.new.pending in
    let q = c.sleep.new.pending in
    let me = c.make_on_lock.new.seat.seat.me in
    let went = rests_on p q me c.sleep.ensures.0 (Sleep c.in-Sleep.number c.in-Sleep.class c.in-Sleep.is_brief) (sym c.action.ensures ∙ c.in-Sleep.is) refl refl c.sleep.ensures.1 in
    subst (λ (m : Self). GoesOn c.args.pending.now m q me) other.1 (subst (λ (x : Pending). GoesOn x me q me) other.2 went)

pub returns-in-Spin-clause-made : goal.returns-in-Spin-clause-made
returns-in-Spin-clause-made g c none =
    let other = c.make_on_lock.ensures.other c.if-make_on_lock.false in
    let p = c.make_on_lock.new.pending in
    let q = c.spin.new.pending in
    let me = c.make_on_lock.new.seat.seat.me in
    let went = rests_on p q me 0 (Spin c.in-Spin.times) (sym c.action.ensures ∙ c.in-Spin.is) refl refl c.spin.ensures in
    subst (λ (m : Self). GoesOn c.args.pending.now m q me) other.1 (subst (λ (x : Pending). GoesOn x me q me) other.2 went)

pub returns-in-Yield-clause-made : goal.returns-in-Yield-clause-made
returns-in-Yield-clause-made g c none =
    let other = c.make_on_lock.ensures.other c.if-make_on_lock.false in
    let p = c.make_on_lock.new.pending in
    let q = c.rest.new.pending in
    let me = c.make_on_lock.new.seat.seat.me in
    let went = rests_on p q me c.rest.ensures.0 Yield (sym c.action.ensures ∙ c.in-Yield.is) refl refl c.rest.ensures.1 in
    subst (λ (m : Self). GoesOn c.args.pending.now m q me) other.1 (subst (λ (x : Pending). GoesOn x me q me) other.2 went)

pub returns-then-make_on_lock-clause-in_time : goal.returns-then-make_on_lock-clause-in_time
returns-then-make_on_lock-clause-in_time g c =
    let made = c.make_on_lock.ensures.made c.if-make_on_lock.true in
    on_lock g.U.Until.has_end c.args.pending.now c.make_on_lock.new.pending c.args.seat.now.seat.me c.requires.going made.0 made.1.0 c.requires.in_time

pub returns-in-Sleep-clause-in_time : goal.returns-in-Sleep-clause-in_time
returns-in-Sleep-clause-in_time g c =
    let p = c.make_on_lock.new.pending in
    let same = (c.make_on_lock.ensures.other c.if-make_on_lock.false).2 in
    keeps_time g.U.Until.has_end c.sleep.ensures.0 p c.sleep.new.pending c.sleep.ensures.1 (λ _. c.sleep.ensures.2)
    (subst (λ (x : Pending). IsInTime g.U.Until.has_end x.call) (sym same) c.requires.in_time)

pub returns-in-Spin-clause-in_time : goal.returns-in-Spin-clause-in_time
returns-in-Spin-clause-in_time g c =
    let p = c.make_on_lock.new.pending in
    let same = (c.make_on_lock.ensures.other c.if-make_on_lock.false).2 in
    keeps_time g.U.Until.has_end 0 p c.spin.new.pending c.spin.ensures (λ _ late. absurd (true≢false (ap (λ n. n == 0) late)))
    (subst (λ (x : Pending). IsInTime g.U.Until.has_end x.call) (sym same) c.requires.in_time)

pub returns-in-Yield-clause-in_time : goal.returns-in-Yield-clause-in_time
returns-in-Yield-clause-in_time g c =
    let p = c.make_on_lock.new.pending in
    let same = (c.make_on_lock.ensures.other c.if-make_on_lock.false).2 in
    keeps_time g.U.Until.has_end c.rest.ensures.0 p c.rest.new.pending c.rest.ensures.1 (λ _. c.rest.ensures.2)
    (subst (λ (x : Pending). IsInTime g.U.Until.has_end x.call) (sym same) c.requires.in_time)
