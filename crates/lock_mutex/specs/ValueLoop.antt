-- The condition loop of one who sees a value, and nothing else of what it waits on.
use Rattle.std.specs.Prelude.{Bool, false, Option, IsSome}
use Rattle.std.specs.Borrow.{MutBor}
use Rattle.std.specs.Fn.{Mut}
use Rattle.lock_mutex.specs.declared.condition_loop.LoopEnd.{LoopEnd}
use Rattle.lock_mutex.specs.ConditionLoop.{ConditionLoop}

-- a wait may leave any value, and there is always one more
abbrev pub LeavesAny : {X : Type 0} → X → Option Bool → X → Type 0
LeavesAny before answer after = IsSome answer

-- the condition loop that waits on the value itself
abbrev pub ValueLoop : {F X : Type 0} → Mut F (MutBor X × Unit {0}) (Bool × (MutBor X × Unit {0}))
    → F → X → LoopEnd → X → Type 0
ValueLoop calls condition value end after =
    ConditionLoop calls (λ x. x) (λ x left. left) LeavesAny false condition value end after
