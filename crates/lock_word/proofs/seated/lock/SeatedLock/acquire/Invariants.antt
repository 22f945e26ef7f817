use Rattle.lock_word.specs.Attempts.{Tried}
use Rattle.lock_word.proofs.seated.lock.SeatedLock.acquire.Given as goal

abbrev pub invariant-loop : goal.invariant-loop
invariant-loop g l = Tried l.initial.party l.party
