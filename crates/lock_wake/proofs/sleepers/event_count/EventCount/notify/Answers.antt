use Rattle.std.proofs.Common.{sym, ap, subst, ◌∙◌}
use Rattle.lock_events.specs.Events.{action_of}
use Rattle.lock_wake.specs.EventCalls.{EventCallView}
use Rattle.lock_wake.proofs.Notifications.{by_exchange, by_bits, wake_stage, IsReady}
use Rattle.lock_wake.proofs.sleepers.event_count.EventCount.notify.Goals as goal
use Rattle.lock_wake.proofs.sleepers.event_count.EventCount.notify.Goals.{in-Or, in_default-action}

pub loop-old-smaller : goal.loop-old-smaller
loop-old-smaller c =
    (by_exchange _ _ c.loop-old.call _ _ _ c.loop-old.invariant.0 c.loop-old.invariant.1 (sym c.action.ensures ∙ c.in-Exchange.is) c.exchange.ensures).smaller

pub loop-old-preserved : goal.loop-old-preserved
loop-old-preserved c =
    let by = by_exchange _ _ c.loop-old.call _ _ _ c.loop-old.invariant.0 c.loop-old.invariant.1 (sym c.action.ensures ∙ c.in-Exchange.is) c.exchange.ensures in
    (by.same, by.notifies)

pub wake-requires : goal.wake-requires
wake-requires c =
    let call = c.loop-old.call in
    let by = c.loop-old.invariant.1 in
    let ready : IsReady c.args.self.now c.args.all c.match-action-2.call
    = elim c.match-action-2.branch [
      | in-Or w ↦
          subst (IsReady c.args.self.now c.args.all) (sym w.call-is)
          (by_bits _ _ call _ _ c.loop-old.invariant.0 by (sym c.action-2.ensures ∙ w.in-Or.is) w.set_bits.ensures)
      | in_default-action w ↦
          subst (IsReady c.args.self.now c.args.all) (sym w.call-is) record {
            same = c.loop-old.invariant.0;
            notifies = by;
            wakes = wake_stage call.call.stage call.call by.stage (λ old new is. c.in_default.not-Exchange old new (c.action.ensures ∙ is))
                (λ bits is. w.in_default-action.not-Or bits (c.action-2.ensures ∙ is))
                (λ some is. c.in_default-action-2.not-End some (c.action-3.ensures ∙ (ap (λ (v : EventCallView). action_of v.call) w.call-is ∙ is)));
          }
    ] in
    record { events = ready.same; notifies = ready.notifies; wakes = ready.wakes; owed = c.owed-owed.ensures }
