use Rattle.std.proofs.Common.{rules, ap, ◌∙◌}
use Rattle.lock_events.specs.Events.{action_of}
use Rattle.lock_wake.specs.EventCalls.{EventCallView}
use Rattle.lock_wake.proofs.EventKeeps.{exchanges}
use Rattle.lock_wake.proofs.sleepers.event_count.EventCount.exchange.Goals as goal

pub compare_exchange-found-requires : goal.compare_exchange-found-requires
compare_exchange-found-requires c = (
  search rules,
  search rules,
  exchanges _ _ _ _ _ (ap action_of c.call.invariant.0 ∙ ap (λ (v : EventCallView). action_of v.call) c.call.view_is ∙ c.requires.asks),
)
