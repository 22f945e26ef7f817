-- A script of waits.
use Rattle.std.specs.Prelude.{◌≡◌, Bool, Option, None, Some, List, [], ◌∷◌}
use Rattle.std.specs.Vec.Iter.{into_iter_items}
use Rattle.lock_mutex.specs.declared.condition_loop.script.Script.{Script}

module _ {X : Type 0} where
  abbrev pub present_value : Script X → X
  present_value script = script.value

  abbrev pub with_present_value : Script X → X → Script X
  with_present_value script value = record script { value = value }

  -- for each wait to come the value that it leaves, and whether it times out
  abbrev pub waits_to_come : Script X → List (X × Bool)
  waits_to_come script = into_iter_items script.waits

  -- a wait goes to the next pair, and there is one; or none is left
  abbrev pub WaitGives : Script X → Option Bool → Script X → Type 0
  WaitGives before None after =
      (waits_to_come before ≡ []) × (waits_to_come after ≡ []) × (present_value after ≡ present_value before)
  WaitGives before (Some timed_out) after = waits_to_come before ≡ (present_value after, timed_out) ∷ waits_to_come after
