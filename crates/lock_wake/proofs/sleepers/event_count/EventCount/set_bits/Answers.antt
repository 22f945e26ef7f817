use Rattle.std.proofs.Common.{rules, ap, ◌∙◌}
use Rattle.lock_events.specs.Events.{action_of}
use Rattle.lock_wake.specs.EventCalls.{EventCallView}
use Rattle.lock_wake.proofs.EventKeeps.{sets_bits}
use Rattle.lock_wake.proofs.sleepers.event_count.EventCount.set_bits.Goals as goal

pub fetch_or-found-requires : goal.fetch_or-found-requires
fetch_or-found-requires c = (
  search rules,
  search rules,
  sets_bits _ _ _ _ (ap action_of c.call.invariant.0 ∙ ap (λ (v : EventCallView). action_of v.call) c.call.view_is ∙ c.requires.asks),
)
