-- A wait on a condition variable, and the mutex that it releases and acquires again.
use Rattle.std.specs.Prelude.{◌≡◌, ℕ, Bool, true, false, List, [], ◌∷◌, ⊤}
use Rattle.lock_events.specs.declared.action.EventAction.{EventAction}
use Rattle.lock_events.specs.declared.action.EventAction.TheVariants as action
use Rattle.lock_events.specs.declared.call.EventCall.{EventCall}
use Rattle.lock_events.specs.Events.{waiting, action_of, event_next}

-- a wait, and whether it holds its mutex
pub record Holding : Type 0 where
  pub call : EventCall
  pub held : Bool

abbrev pub held_after : EventAction → Bool → Bool
held_after action.Unlock held = false
held_after action.Lock held = true
held_after other held = held

-- the wait after these answers to its actions
abbrev pub after_answers : Holding → List ℕ → Holding
after_answers w [] = w
after_answers w (found ∷ more) = after_answers (record { call = event_next found w.call; held = held_after (action_of w.call) w.held }) more

-- a wait sleeps or yields without its mutex and ends with it, releases what it holds and acquires what it does not
abbrev pub HoldsAt : EventAction → Bool → Type 0
HoldsAt (action.Park epoch) held = held ≡ false
HoldsAt action.Yield held = held ≡ false
HoldsAt action.Unlock held = held ≡ true
HoldsAt action.Lock held = held ≡ false
HoldsAt (action.End in_time) held = held ≡ true
HoldsAt other held = ⊤

-- THE LAW: whatever the actions of a wait are answered
abbrev pub WaitsHandOverTheMutex : Type 0
WaitsHandOverTheMutex =
    (answers : List ℕ) → let w = after_answers (record { call = waiting; held = true }) answers in HoldsAt (action_of w.call) w.held
