-- Circles never move, and are the sets that the search looks for.
use Rattle.std.proofs.Common.{◌≡◌, ℕ, true, length, sym, ◌∙◌, subst}
use Rattle.std.proofs.lemmas.List.{length-map}
use Rattle.lock_plan.specs.Worlds.{Stand, acts_of}
use Rattle.lock_plan.specs.Circles.{is_circle_by, some_set}
use Rattle.lock_plan.proofs.CircleSets.{some_set_from, some_set_at, of_ring}
use Rattle.lock_plan.proofs.StillCircles.{holds_of, circle_ring, runs_still, none_still}
use Rattle.lock_plan_laws.specs.Circles.{CirclesNeverMove, CirclesAreSets}

pub circles_still : CirclesNeverMove
circles_still locks members w v steps long e there =
    let it = runs_still locks members steps w v (circle_ring locks members w long e) there in
    record {
      same = it.same;
      none = none_still locks members v it.ring;
      circle = of_ring locks (acts_of v) (holds_of v) members it.ring;
    }

pub circles_are_sets : CirclesAreSets
circles_are_sets locks w =
    let held = length-map w (λ (s : Stand). s.holds) in (
      λ e.
          let it = some_set_at (is_circle_by locks (acts_of w) (holds_of w)) (length (holds_of w)) e in
          (it.set, it.long ∙ held, it.has),
      λ (members, long, e).
          subst (λ (n : ℕ). some_set (is_circle_by locks (acts_of w) (holds_of w)) n ≡ true) (long ∙ sym held)
          (some_set_from (is_circle_by locks (acts_of w) (holds_of w)) members e),
    )
