use Rattle.std.proofs.Common.{inl, inr, refl}
use Rattle.lock_script.proofs.call.of_party.Goals as goal

pub returns-in-try_write_until-clause-words : goal.returns-in-try_write_until-clause-words
returns-in-try_write_until-clause-words c =
    (λ _. inr (inr (inr (inr (inr (inr (inr (inr (inr (inr (inr (inl c.in-try_write_until.is))))))))))), λ _. refl)
