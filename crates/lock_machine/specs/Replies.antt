-- The number of replies.
use Rattle.std.specs.Prelude.{◌≡◌, List, length}
use Rattle.lock_machine.specs.declared.call.Call.{Call}
use Rattle.lock_machine.specs.Operation.{Operation}
use Rattle.lock_machine.specs.Machine.{Machine}
use Rattle.lock_machine.specs.Steps.{replies}

abbrev pub RepliesAreAsMany : {O T A : Type 0} → (O → Operation T A) → Type 0
RepliesAreAsMany {O} {T} meaning =
    (m : Machine T) (calls : List (Call O)) → length (replies meaning m calls) ≡ length calls
