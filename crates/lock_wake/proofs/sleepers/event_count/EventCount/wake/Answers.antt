use Rattle.std.proofs.Common.{rules, ap, ◌∙◌}
use Rattle.lock_events.specs.declared.call.EventCall.{EventCall}
use Rattle.lock_wake.specs.EventCalls.{EventCallView}
use Rattle.lock_wake.proofs.EventKeeps.{wakes}
use Rattle.lock_wake.proofs.sleepers.event_count.EventCount.wake.Goals as goal

pub load-requires : goal.load-requires
load-requires c = (
  search rules,
  search rules,
  wakes _ _ _ (ap (λ (e : EventCall). e.stage) c.call.invariant.0 ∙ ap (λ (v : EventCallView). v.call.stage) c.call.view_is ∙ c.requires.wakes),
)
