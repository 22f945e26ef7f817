use Rattle.lock_plan.proofs.plan.Plan.place_never_waits.Goals as goal

pub act_never_waits-requires-clause-within : goal.act_never_waits-requires-clause-within
act_never_waits-requires-clause-within c call e = c.requires.within _ call c.in-Some.is e
