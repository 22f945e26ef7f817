use Rattle.std.proofs.Common.{inl, inr, refl}
use Rattle.lock_script.proofs.call.of_guard.Goals as goal

pub returns-in-unlock_fair-clause-words : goal.returns-in-unlock_fair-clause-words
returns-in-unlock_fair-clause-words c = (λ _. inr (inl c.in-unlock_fair.is), λ _. refl)

pub returns-in-into_arc_fair-clause-words : goal.returns-in-into_arc_fair-clause-words
returns-in-into_arc_fair-clause-words c = (λ _. inr (inr (inr (inl c.in-into_arc_fair.is))), λ _. refl)
