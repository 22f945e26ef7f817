use Rattle.std.proofs.Common.{◌≡◌, ◌∙◌, length, map, refl}
use Rattle.lock_plan.specs.Points.{no_view, shown, tables_shown, row_at}
use Rattle.lock_plan.proofs.CircleLook.{circles_here}
use Rattle.lock_plan.proofs.NextNodes.{row_is, few_in_row}
use Rattle.lock_plan.proofs.PlayedSteps.{all_have, plan_circle}
use Rattle.lock_plan.proofs.plan.Plan.has_circle_at.Goals as goal
use Rattle.lock_plan.proofs.plan.Plan.has_circle_at.Goals.{After-as_slice-row}

-- the points of all rows
row_of : (c : After-as_slice-row)
    → map (λ p. shown p.now) c.as_slice-row.result.now ≡ row_at no_view (tables_shown c.args.self.now.tables.items) c.args.node
row_of c =
    row_is c.as_slice.result.now c.args.self.now.tables.items c.in_ok-points.points.items c.as_slice-row.result.now c.args.node
    c.as_slice-row.ensures.value c.as_slice.ensures.value c.in_ok-points.ensures

pub has_circle-requires-clause-fits : goal.has_circle-requires-clause-fits
has_circle-requires-clause-fits c =
    few_in_row c.args.self.now c.as_slice-row.result.now c.args.node (row_of (goal.at.has_circle-requires-clause-fits c).After-as_slice-row)

pub has_circle-requires-clause-all : goal.has_circle-requires-clause-all
has_circle-requires-clause-all c =
    let row = c.as_slice-row.result.now in
    all_have c.args.self.now.locks.items row c.in_ok-all.all.items (length row) refl (c.in_ok-all.ensures.items_if_clones_equal (λ y e. e))

pub returns : goal.returns
returns c =
    c.has_circle.ensures
    ∙ circles_here c.args.self.now c.as_slice-row.result.now c.args.node (row_of (goal.at.returns c).After-as_slice-row)
    ∙ plan_circle c.args.self.now c.args.node
