use Rattle.std.proofs.Common.{◌≡◌, ◌∙◌, true, false, sym, ap, subst}
use Rattle.lock_raws_fair.specs.Tickets.{Line, Makes, may_leave}
use Rattle.lock_raws_fair.specs.declared.line.step.LineStep.TheVariants.{Leave}
use Rattle.lock_raws_fair.proofs.Steps.{may, may_not_before, may_not_after, may_not_far, may_not_left, leaves, line_of}
use Rattle.lock_raws_fair.proofs.Reached.{reached_more}
use Rattle.lock_raws_fair.proofs.line.Line.leave.Goals as goal
use Rattle.lock_raws_fair.proofs.line.Line.leave.Goals.{then-number-self-via-then-number-self, then-number-self-via-else-number-self+then-self-number, then-place-ge-TIMED_SPAN-via-then-place-ge-TIMED_SPAN, then-place-ge-TIMED_SPAN-via-else-place-ge-TIMED_SPAN+then-has_left}

pub returns-then-number-self-clause-may : goal.returns-then-number-self-clause-may
returns-then-number-self-clause-may c =
    let next = c.self.inside.next in
    let first = c.self.inside.head in
    let left = c.self.inside.left in
    let number = c.number-number.result in
    subst (λ (line : Line). false ≡ may_leave 64 line c.args.ticket) c.self.view_is
    ((elim c.then-number-self.branch [
      | then-number-self-via-then-number-self w ↦ may_not_before next first left number w.if-number-self.true
      | then-number-self-via-else-number-self+then-self-number w ↦ may_not_after next first left number c.self.invariant.2 c.self.invariant.0 w.if-self-number.true
    ]) ∙ ap (may_leave 64 (line_of next first left)) c.number-number.ensures)

pub returns-then-place-ge-TIMED_SPAN-clause-may : goal.returns-then-place-ge-TIMED_SPAN-clause-may
returns-then-place-ge-TIMED_SPAN-clause-may c =
    let next = c.self.inside.next in
    let first = c.self.inside.head in
    let left = c.self.inside.left in
    let number = c.number-number.result in
    subst (λ (line : Line). false ≡ may_leave 64 line c.args.ticket) c.self.view_is
    ((elim c.then-place-ge-TIMED_SPAN.branch [
      | then-place-ge-TIMED_SPAN-via-then-place-ge-TIMED_SPAN w ↦ may_not_far next first left number c.self.invariant.2 c.self.invariant.0 c.if-number-self.false w.if-place-ge-TIMED_SPAN.true
      | then-place-ge-TIMED_SPAN-via-else-place-ge-TIMED_SPAN+then-has_left w ↦ may_not_left next first left number c.self.invariant.2 c.self.invariant.0 c.if-number-self.false (sym w.has_left.ensures ∙ w.if-has_left.true)
    ]) ∙ ap (may_leave 64 (line_of next first left)) c.number-number.ensures)

pub returns-clause-may : goal.returns-clause-may
returns-clause-may c =
    let next = c.self.inside.next in
    let first = c.self.inside.head in
    let left = c.self.inside.left in
    let number = c.number-number.result in
    subst (λ (line : Line). true ≡ may_leave 64 line c.args.ticket) c.self.view_is
    (may next first left number c.self.invariant.2 c.self.invariant.0 c.if-number-self.false c.if-self-number.false c.if-place-ge-TIMED_SPAN.false (sym c.has_left.ensures ∙ c.if-has_left.false)
    ∙ ap (may_leave 64 (line_of next first left)) c.number-number.ensures)

pub returns-clause-gone : goal.returns-clause-gone
returns-clause-gone c =
    let next = c.self.inside.next in
    let first = c.self.inside.head in
    let left = c.self.inside.left in
    let number = c.number-number.result in
    subst (λ t. Makes c.args.self.now (Leave t) (line_of next c.skip_left.result.0 c.skip_left.result.1)) c.number-number.ensures
    (subst (λ (line : Line). Makes line (Leave number) (line_of next c.skip_left.result.0 c.skip_left.result.1)) c.self.view_is
    (leaves next first left c.skip_left.result.0 c.skip_left.result.1 c.mark.result number c.self.invariant.2 c.self.invariant.0 c.if-number-self.false c.if-self-number.false
    (sym c.has_left.ensures ∙ c.if-has_left.false) c.mark.ensures.marked c.mark.ensures.others c.skip_left.ensures.same))

pub invariant_of-self : goal.invariant_of-self
invariant_of-self c =
    let next = c.self.inside.next in
    let first = c.self.inside.head in
    let left = c.self.inside.left in (
      c.skip_left.ensures.within,
      c.skip_left.ensures.none_behind,
      c.skip_left.ensures.stays,
      reached_more c.self.invariant.3
          (leaves next first left c.skip_left.result.0 c.skip_left.result.1 c.mark.result c.number-number.result c.self.invariant.2 c.self.invariant.0 c.if-number-self.false c.if-self-number.false
          (sym c.has_left.ensures ∙ c.if-has_left.false) c.mark.ensures.marked c.mark.ensures.others c.skip_left.ensures.same),
    )
