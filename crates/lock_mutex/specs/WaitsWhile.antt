-- A wait for a condition, as the guard of a mutex shows it.
use Rattle.std.specs.Prelude.{◌≡◌, Bool, Option, Some, if◌then◌else◌}
use Rattle.std.specs.Borrow.{MutBor}
use Rattle.std.specs.Fn.{Mut}
use Rattle.lock_mutex.specs.declared.wait_timeout_result.WaitTimeoutResult.{WaitTimeoutResult}
use Rattle.lock_mutex.specs.declared.condition_loop.LoopEnd.{LoopEnd}
use Rattle.lock_mutex.specs.declared.condition_loop.LoopEnd.TheVariants.{False, TimedOut}
use Rattle.lock_mutex.specs.ValueLoop.{ValueLoop}

-- whether the wait timed out
abbrev pub has_timed_out : WaitTimeoutResult → Bool
has_timed_out result = result.timed_out

-- how the loop of a wait ended
abbrev pub end_of : Bool → LoopEnd
end_of timed_out = if timed_out then TimedOut else False

-- the condition loop from the value that was held to the value that is held, which ends timed out or with a false
-- condition
abbrev pub WaitsWhile : {F X : Type 0} → Mut F (MutBor X × Unit {0}) (Bool × (MutBor X × Unit {0}))
    → F → Option X → Bool → Option X → Type 0
WaitsWhile {F} {X} calls condition before timed_out after =
    (value : X) × (left : X) × (before ≡ Some value) × (after ≡ Some left)
    × ValueLoop calls condition value (end_of timed_out) left
