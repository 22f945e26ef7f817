use Rattle.std.proofs.Common.{rules, IsTrue, refl, sym, ap, subst, ◌∙◌}
use Rattle.lock_events.specs.declared.call.EventCall.{EventCall}
use Rattle.lock_events.specs.declared.stage.EventStage.{EventStage}
use Rattle.lock_events.specs.Kept.{is_registered}
use Rattle.lock_wake.proofs.EventKeeps.{leaves}
use Rattle.lock_wake.proofs.sleepers.event_count.EventCount.count_away.Goals as goal

pub fetch_sub-requires : goal.fetch_sub-requires
fetch_sub-requires c = (
  search rules,
  search rules,
  leaves _ _ _ (subst (λ (x : EventStage). IsTrue (is_registered x)) (sym (ap (λ (e : EventCall). e.stage) c.call.invariant.0 ∙ c.in-Unlock.is)) refl),
)
