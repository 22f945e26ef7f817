-- Definitions of a user's own over the types of lock_api.
use Rattle.std.specs.Prelude.{◌≡◌, Option, None, Some}
use Rattle.lock_api.specs.Held.{held_value}
use Rattle.lock_api.specs.MutexGuard.{held_of}
use Rattle.lock_api.specs.declared.guard.Guard.{Guard}
use Rattle.lock_api.specs.declared.model.Reply.{Reply}

-- the guard shows this value
abbrev pub Shows : {L V K W X : Type 0} {r : _} {g : _} → (V → X) → X → Guard L V K W X r g → Type 0
Shows value_of value guard = held_value value_of (held_of guard) ≡ Some value

-- the answer of an operation, where the reply is one
abbrev pub answer_of : {A : Type 0} → Reply A → Option A
answer_of (Reply.Guard number) = None
answer_of Reply.NoGuard = None
answer_of Reply.Done = None
answer_of (Reply.Answer answer) = Some answer
answer_of (Reply.Bool b) = None
answer_of (Reply.Count n) = None
answer_of (Reply.Refused fault) = None
