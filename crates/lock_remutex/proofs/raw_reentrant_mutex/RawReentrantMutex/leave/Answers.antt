use Rattle.std.proofs.Common.{◌≡◌, true, rules}
use Rattle.lock_modes.specs.Party.{id_of}
use Rattle.lock_remutex.proofs.Losses.{leave_lost}
use Rattle.lock_remutex.proofs.raw_reentrant_mutex.RawReentrantMutex.leave.Goals as goal

pub returns-in-Ok-clause-lost : goal.returns-in-Ok-clause-lost
returns-in-Ok-clause-lost g c =
    let call = c.leave-answer in
    record {
      call = call.result.1;
      on = search rules;
      lost =
          leave_lost (λ token. g.R.RawMutex.is_own c.args.self.now token ≡ true) (id_of c.args.party) c.in-Ok.last call.result.1.step
          (search rules) (search rules) (search rules);
    }
