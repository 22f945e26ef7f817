use Rattle.std.proofs.Common.{◌≡◌, ◌+◌, ◌-◌, suc, arith, subst}
use Rattle.lock_raws_fair.specs.Tickets.{Line, Makes}
use Rattle.lock_raws_fair.specs.declared.line.step.LineStep.TheVariants.{Enter}
use Rattle.lock_raws_fair.proofs.Staying.{none_behind_half}
use Rattle.lock_raws_fair.proofs.Steps.{led, leads_is, enters, line_of}
use Rattle.lock_raws_fair.specs.LineLaws.{IsEarliest}
use Rattle.lock_raws_fair.proofs.Reached.{reached_more, first_is_earliest}
use Rattle.lock_raws_fair.proofs.line.Line.enter.Goals as goal

pub skip_left-requires-clause-none_behind : goal.skip_left-requires-clause-none_behind
skip_left-requires-clause-none_behind c =
    let next = c.self.inside.next in
    let first = c.self.inside.head in
    let left = c.self.inside.left in
    let kept = c.self.invariant in
    let leading = led c.args.ticket c.self.view_is c.requires.first in
    let is = leads_is (next - first) first left c.args.ticket kept.2 leading in
    let e : next - first ≡ suc (next - (first + 1)) = omega (arith, is.1) in
    none_behind_half _ _ left e kept.1

pub returns-clause-entered : goal.returns-clause-entered
returns-clause-entered c =
    let next = c.self.inside.next in
    let first = c.self.inside.head in
    let left = c.self.inside.left in
    let kept = c.self.invariant in
    let leading = led c.args.ticket c.self.view_is c.requires.first in
    subst (λ (line : Line). Makes line (Enter c.args.ticket) (line_of next c.skip_left.result.0 c.skip_left.result.1)) c.self.view_is
    (enters next first left c.skip_left.result.0 c.skip_left.result.1 c.args.ticket kept.2 leading c.skip_left.ensures.same)

pub returns-clause-earliest : goal.returns-clause-earliest
returns-clause-earliest c =
    let next = c.self.inside.next in
    let first = c.self.inside.head in
    let left = c.self.inside.left in
    let leading = led c.args.ticket c.self.view_is c.requires.first in
    subst (λ (line : Line). IsEarliest line c.args.ticket) c.self.view_is
    (first_is_earliest (line_of next first left) c.args.ticket c.self.invariant.3 leading)

pub invariant_of-self : goal.invariant_of-self
invariant_of-self c =
    let next = c.self.inside.next in
    let first = c.self.inside.head in
    let left = c.self.inside.left in
    let kept = c.self.invariant in
    let leading = led c.args.ticket c.self.view_is c.requires.first in (
      c.skip_left.ensures.within,
      c.skip_left.ensures.none_behind,
      c.skip_left.ensures.stays,
      reached_more kept.3 (enters next first left c.skip_left.result.0 c.skip_left.result.1 c.args.ticket kept.2 leading c.skip_left.ensures.same),
    )
