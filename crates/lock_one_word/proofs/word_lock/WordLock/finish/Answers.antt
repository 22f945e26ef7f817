use Rattle.std.proofs.Common.{Bool, sym, ap, subst, ◌∙◌}
use Rattle.lock_one.specs.declared.action.Action.{Action}
use Rattle.lock_one.specs.declared.action.Action.TheVariants.{End}
use Rattle.lock_one_word.specs.Calls.{Ending, TimesOut}
use Rattle.lock_one_word.specs.Drives.{Pending, at}
use Rattle.lock_one_word.specs.Seats.{Self, to_acquire, IsGoing}
use Rattle.lock_one_word.proofs.Blocks.{keeps_blocks}
use Rattle.lock_one_word.proofs.Causes.{times_out, if_no}
use Rattle.lock_one_word.proofs.word_lock.WordLock.finish.Goals as goal

pub loop-preserved : goal.loop-preserved
loop-preserved g c =
    let now = c.loop.invariant.3 in
    let made = c.make.ensures.made c.in_default.is in (
      tt,
      tt,
      (c.make.ensures.table.0 ∙ c.loop.invariant.2.0, c.make.ensures.table.1 ∙ c.loop.invariant.2.1, c.make.ensures.table.2 ∙ c.loop.invariant.2.2),
      (now.0, now.1, made.1 now.0 now.1 now.2),
      λ before task going. made.1 before task (c.loop.invariant.4 before task going),
      keeps_blocks made.0.0 c.loop.pending c.make.new.pending made.0.1 ∙ c.loop.invariant.5,
      c.make.ensures.in_time,
    )

pub returns-in-Some-make-clause-ended : goal.returns-in-Some-make-clause-ended
returns-in-Some-make-clause-ended g c before task going =
    let ended = c.in-Some-make.ensures.ended in (
      c.loop.pending.call,
      subst (λ (b : Bool). IsGoing (c.loop.pending.call, End b) before task c.make.new.seat.seat.me.0) (sym c.answer.ensures.answer)
          (subst (λ (m : Self). IsGoing (c.loop.pending.call, End c.in-Some-make.answer) before task m.0) (sym {A = Self} ended.1)
          (subst (λ (a : Action). IsGoing (c.loop.pending.call, a) before task c.loop.seat.seat.me.0) ended.0 (c.loop.invariant.4 before task going))),
    )

pub returns-in-Some-make-clause-refused : goal.returns-in-Some-make-clause-refused
returns-in-Some-make-clause-refused g c =
    let ended = c.in-Some-make.ensures.ended in
    let last = c.make.new.pending in
    let me = c.loop.seat.seat.me.0 in
    if_no c.answer.result c.in-Some-make.answer _ _ _ c.answer.ensures.answer c.answer.ensures.end
    (λ off e is before wish going.
    let late = times_out last.call me before wish e
    (subst (λ (a : Action). IsGoing (last.call, a) before (to_acquire wish) me) (ap (λ (p : Pending). p.action) ended.2 ∙ (ended.0 ∙ ap (λ b. End b) off))
    (subst (λ (p : Pending). IsGoing (at p) before (to_acquire wish) me) (sym ended.2) (c.loop.invariant.4 before (to_acquire wish) going)))
    (ap (λ (p : Pending). p.call.blocks) ended.2 ∙ c.loop.invariant.5) c.answer.ensures.has_cause (ap (λ (x : Ending). x.readers) is) (ap (λ (x : Ending). x.word) is) (ap (λ (x : Ending). x.late) is) in
    (subst (λ n. TimesOut n e) c.loop.invariant.2.2 late, c.make.ensures.in_time (sym (ap (λ (x : Ending). x.late) is) ∙ late.1)))
