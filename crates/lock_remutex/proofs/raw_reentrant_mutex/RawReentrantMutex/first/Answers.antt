use Rattle.std.proofs.Common.{rules}
use Rattle.lock_modes.specs.Party.{id_of}
use Rattle.lock_remutex.proofs.Tries.{found_owner}
use Rattle.lock_remutex.proofs.raw_reentrant_mutex.RawReentrantMutex.first.Goals as goal

pub returns-in-Some-clause-owned : goal.returns-in-Some-clause-owned
returns-in-Some-clause-owned g c = λ none.
    found_owner c.args.self.now (id_of c.args.party) c.args.token c.in-Some.token c.first-back.result.1 (search rules) (search rules)
