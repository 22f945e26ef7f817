-- There are as many replies as calls.
use Rattle.std.proofs.Common.{[], ◌∷◌, refl, ap, suc}
use Rattle.lock_machine.specs.Operation.{Operation}
use Rattle.lock_machine.specs.Steps.{step}
use Rattle.lock_machine.specs.Replies.{RepliesAreAsMany}

pub length-replies : {O T A : Type 0} (meaning : O → Operation T A) → RepliesAreAsMany meaning
length-replies meaning m [] = refl
length-replies meaning m (call ∷ calls) = ap suc (length-replies meaning (step meaning m call).machine calls)
