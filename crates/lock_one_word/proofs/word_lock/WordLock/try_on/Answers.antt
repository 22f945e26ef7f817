use Rattle.std.proofs.Common.{true, false, is_ok, sym, ap, subst, ◌∙◌}
use Rattle.lock_one.specs.declared.action.Action.{Action}
use Rattle.lock_one.specs.declared.action.Action.TheVariants.{End}
use Rattle.lock_one_word.specs.Calls.{IsTry}
use Rattle.lock_one_word.specs.Drives.{IsTrying, ended_with, is_tried, is_exchange, says_yes}
use Rattle.lock_one_word.specs.Seats.{to_acquire, IsGoing}
use Rattle.lock_one_word.proofs.TryEnds.{tries_again, tried, no_exchange, asks_end}
use Rattle.lock_one_word.proofs.Causes.{try_ended, try_spent, by_answer}
use Rattle.lock_one_word.proofs.word_lock.WordLock.try_on.Goals as goal

pub loop-old-preserved : goal.loop-old-preserved
loop-old-preserved c =
    let now = c.loop-old.invariant.1 in
    let is = sym c.action.ensures ∙ c.in-Exchange.is in
    let going = subst (λ (a : Action). IsGoing (c.loop-old.pending.call, a) now.0 now.1 c.loop-old.seat.seat.me.0) is now.2 in
    let trying = subst (λ (a : Action). IsTrying (c.loop-old.pending.call, a)) is c.loop-old.invariant.2 in
    let turns = c.exchange.ensures.goes.0 in (
      (c.exchange.ensures.table.0 ∙ c.loop-old.invariant.0.0, c.exchange.ensures.table.1 ∙ c.loop-old.invariant.0.1, c.exchange.ensures.table.2 ∙ c.loop-old.invariant.0.2),
      (now.0, now.1, c.exchange.ensures.goes.1 now.0 now.1 now.2),
      subst IsTrying (sym turns.1) (tries_again turns.0 c.in-Exchange.old c.in-Exchange.new c.loop-old.pending.call c.loop-old.seat.seat.me.0 now.0 now.1 going trying),
      λ before task goes. c.exchange.ensures.goes.1 before task (c.loop-old.invariant.3 before task goes),
    )

pub returns-then-is_spent-clause-tried : goal.returns-then-is_spent-clause-tried
returns-then-is_spent-clause-tried c before wish clean awaited going =
    let is = sym c.action.ensures ∙ c.in-Exchange.is in
    tried c.loop-old.pending.call c.loop-old.pending.action c.loop-old.seat.seat.me.0 before wish clean awaited (c.loop-old.invariant.3 before (to_acquire wish) going)
    c.loop-old.invariant.2 (ap is_tried is) false (sym (ap says_yes is))

pub returns-then-is_spent-clause-ended : goal.returns-then-is_spent-clause-ended
returns-then-is_spent-clause-ended c before wish going =
    let p = c.loop-old.pending in
    let unacquired = ap says_yes (sym c.action.ensures ∙ c.in-Exchange.is) in
    subst (λ n. IsTry n wish false c.end.result) c.loop-old.invariant.0.2
    (try_spent p c.loop-old.seat.seat.me.0 before wish c.end.result (c.loop-old.invariant.3 before (to_acquire wish) going) c.loop-old.invariant.2.tries
    (c.is_spent.ensures.spent c.if-is_spent.true) (c.end.ensures.end ∙ ap (λ b. ended_with p b) unacquired))

pub answer-requires : goal.answer-requires
answer-requires c =
    let now = c.loop-old.invariant.1 in
    let none = sym (ap is_exchange c.action.ensures) ∙ no_exchange c.action.result (λ x y h. c.in_default.not-Exchange x y h) in
    let over = c.wake_readers.ensures now.0 now.1 c.loop-old.seat.seat.me.0 now.2 c.loop-old.invariant.2 none in
    asks_end c.wake_readers.new.pending.action over.2 over.3 ∙ ap (λ b. End b) (sym (c.says_yes-acquired.ensures ∙ ap says_yes c.action-2.ensures))

pub returns : goal.returns
returns c =
    let p = c.loop-old.pending in
    let q = c.wake_readers.new.pending in
    let me = c.loop-old.seat.seat.me.0 in
    let now = c.loop-old.invariant.1 in
    let none = sym (ap is_exchange c.action.ensures) ∙ no_exchange c.action.result (λ x y h. c.in_default.not-Exchange x y h) in
    let over = c.wake_readers.ensures in
    let yes_ = c.says_yes-acquired.ensures ∙ ap says_yes c.action-2.ensures in record {
      table = c.loop-old.invariant.0;
      tried = λ before wish clean awaited going.
          let there = over before (to_acquire wish) me (c.loop-old.invariant.3 before (to_acquire wish) going) c.loop-old.invariant.2 none in
          tried q.call q.action me before wish clean awaited there.0 there.1 there.2
          (is_ok c.answer.result) (c.answer.ensures.answer ∙ yes_);
      ended = λ before wish going.
          let there = over before (to_acquire wish) me (c.loop-old.invariant.3 before (to_acquire wish) going) c.loop-old.invariant.2 none in
          by_answer c.answer.result c.says_yes-acquired.result _ _ _ _ c.answer.ensures.answer c.answer.ensures.end
          (λ on e is. subst (λ n. IsTry n wish true e) c.loop-old.invariant.0.2
          (try_ended q me before wish true e there.0 (asks_end q.action there.2 there.3 ∙ ap (λ b. End b) (sym yes_ ∙ on)) there.1.tries
          c.answer.ensures.has_cause is))
          (λ off e is. subst (λ n. IsTry n wish false e) c.loop-old.invariant.0.2
          (try_ended q me before wish false e there.0 (asks_end q.action there.2 there.3 ∙ ap (λ b. End b) (sym yes_ ∙ off)) there.1.tries
          c.answer.ensures.has_cause is));
    }
