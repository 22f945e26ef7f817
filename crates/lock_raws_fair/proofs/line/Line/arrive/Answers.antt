use Rattle.std.proofs.Common.{◌+◌, ◌-◌, ap, arith, subst, ◌∙◌}
use Rattle.lock_raws_fair.specs.Tickets.{Line, Makes}
use Rattle.lock_raws_fair.specs.declared.line.step.LineStep.TheVariants.{Arrive}
use Rattle.lock_raws_fair.proofs.Steps.{arrives, line_of}
use Rattle.lock_raws_fair.proofs.Reached.{reached_more}
use Rattle.lock_raws_fair.proofs.line.Line.arrive.Goals as goal

pub returns-clause-ticket : goal.returns-clause-ticket
returns-clause-ticket c =
    let next = c.self.inside.next in
    let first = c.self.inside.head in
    let left = c.self.inside.left in
    let kept = c.self.invariant in (
      c.numbered.ensures ∙ ap (λ (line : Line). line.issued) c.self.view_is,
      subst (λ (line : Line). Makes line Arrive (line_of (next + 1) first left)) c.self.view_is
          (arrives next first left kept.0 (kept.1 (next - first) (omega arith))),
    )

pub invariant_of-self : goal.invariant_of-self
invariant_of-self c =
    let next = c.self.inside.next in
    let first = c.self.inside.head in
    let kept = c.self.invariant in (
      omega (arith, kept.0),
      λ i behind. kept.1 i (omega arith),
      kept.2,
      reached_more kept.3 (arrives next first c.self.inside.left kept.0 (kept.1 (next - first) (omega arith))),
    )
