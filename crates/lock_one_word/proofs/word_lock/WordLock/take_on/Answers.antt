use Rattle.std.proofs.Common.{◌<◌, true, sym, ap, subst, ◌∙◌, inl}
use Rattle.lock_one.specs.declared.action.Action.{Action}
use Rattle.lock_one.specs.Machine.{Progress}
use Rattle.lock_one.specs.Steps.{ends}
use Rattle.lock_one_word.specs.Seats.{Self, IsGoing, to_release}
use Rattle.lock_one_word.specs.Drives.{Pending, at, MayEnd, rank}
use Rattle.lock_one_word.proofs.Ranks.{smaller, has_ended}
use Rattle.lock_one_word.proofs.Rests.{released_end}
use Rattle.lock_one_word.proofs.word_lock.WordLock.take_on.Goals as goal

pub loop-smaller : goal.loop-smaller
loop-smaller c =
    let made = c.make_on_lock.ensures.made c.loop-test.true in
    let now = c.loop.invariant.1 in
    let turns = made.1.0 in
    subst (λ (p : Progress). rank p.0 < rank c.loop.pending.call) (sym turns.1)
    (smaller turns.0 c.loop.pending.call c.loop.pending.action now.0 now.1 c.loop.seat.seat.me.0 made.0 now.2)

pub loop-preserved : goal.loop-preserved
loop-preserved c =
    let made = c.make_on_lock.ensures.made c.loop-test.true in
    let now = c.loop.invariant.1 in (
      (c.make_on_lock.ensures.table.0 ∙ c.loop.invariant.0.0, c.make_on_lock.ensures.table.1 ∙ c.loop.invariant.0.1, c.make_on_lock.ensures.table.2 ∙ c.loop.invariant.0.2),
      (now.0, now.1, made.1.1 now.0 (to_release now.1) now.2),
      λ before task going. made.1.1 before task (c.loop.invariant.2 before task going),
    )

pub end-requires : goal.end-requires
end-requires c =
    let off = c.make_on_lock.ensures.other c.loop-test.false in
    let now = c.loop.invariant.1 in
    subst (λ (p : Pending). MayEnd (at p)) (sym off.2)
    (inl (ap ends (has_ended c.loop.pending.call c.loop.pending.action now.0 now.1 c.loop.seat.seat.me.0 off.0 now.2)))

pub returns-clause-ended : goal.returns-clause-ended
returns-clause-ended c before d going =
    let off = c.make_on_lock.ensures.other c.loop-test.false in
    let p = c.loop.pending in
    let here = c.loop.invariant.2 before (to_release d) going in
    let is = has_ended p.call p.action before d c.loop.seat.seat.me.0 off.0 here in
    ap (λ (m : Self). m.0.held) off.1
    ∙ released_end p.call before d true c.loop.seat.seat.me.0 (subst (λ (a : Action). IsGoing (p.call, a) before (to_release d) c.loop.seat.seat.me.0) is here)
