use Rattle.lock_one_word.proofs.Causes.{goes_on}
use Rattle.lock_one_word.proofs.word_lock.steps.pending.Pending.go_on.Goals as goal

pub invariant_of-self : goal.invariant_of-self
invariant_of-self c = goes_on c.args.found _ _ _ c.self.invariant c.next-self-inside.ensures
