-- Each wait sleeps without its mutex, and ends with it.
use Rattle.std.proofs.Common.{◌≡◌, ℕ, Bool, true, false, ◌==◌, List, [], ◌∷◌, if◌then◌else◌, refl}
use Rattle.lock_events.specs.declared.call.EventCall.{EventCall}
use Rattle.lock_events.specs.declared.stage.EventStage.{EventStage}
use Rattle.lock_events.specs.declared.stage.EventStage.TheVariants as stage
use Rattle.lock_events.specs.Words.{decoded, takes_in, with_wait}
use Rattle.lock_events.specs.Events.{action_at, event_to, event_at, wait_at}
use Rattle.lock_events.specs.Mutexes.{Holding, held_after, after_answers, HoldsAt, WaitsHandOverTheMutex}

-- a wait holds its mutex at these stages
abbrev IsHeldAt : EventStage → Bool → Type 0
IsHeldAt stage.Look held = held ≡ true
IsHeldAt stage.CountIn held = held ≡ true
IsHeldAt stage.Unlock held = held ≡ true
IsHeldAt stage.UnlockAway held = held ≡ true
IsHeldAt stage.Waited held = held ≡ true
IsHeldAt stage.FindWaits held = ⊥
IsHeldAt stage.EndEpoch held = ⊥
IsHeldAt stage.EndAllEpochs held = ⊥
IsHeldAt stage.Wake held = ⊥
IsHeldAt stage.Notified held = ⊥
IsHeldAt stage.Skipped held = ⊥
IsHeldAt other held = held ≡ false

either : (P : EventCall → Type 0) (b : Bool) (one other : EventCall) → P one → P other → P (if b then one else other)
either P true one other hit miss = hit
either P false one other hit miss = miss

looks : (found : ℕ) (call : EventCall) (held : Bool) → held ≡ true → IsHeldAt (wait_at found call).stage held
looks found call held is =
    either (λ c. IsHeldAt c.stage held) (takes_in (decoded found)) (event_to stage.CountIn (record call { loaded = found; epoch = (with_wait (decoded found)).epoch }))
    (event_to stage.UnlockAway call) is is

next : (st : EventStage) (found : ℕ) (call : EventCall) (held : Bool) → IsHeldAt st held
    → IsHeldAt (event_at st found call).stage (held_after (action_at st call) held)
next stage.Look found call held is = looks found call held is
next stage.CountIn found call held is =
    either (λ c. IsHeldAt c.stage held) (found == call.loaded) (event_to stage.Unlock call) (wait_at found call) is (looks found call held is)
next stage.Unlock found call held is = refl
next stage.Sleep found call held is = is
next stage.Leave found call held is = is
next stage.UnlockAway found call held is = refl
next stage.YieldAway found call held is = is
next stage.Lock found call held is = refl
next stage.Waited found call held is = is
next other found call held is = absurd is

holds : (st : EventStage) (call : EventCall) (held : Bool) → IsHeldAt st held → HoldsAt (action_at st call) held
holds stage.Unlock call held is = is
holds stage.Sleep call held is = is
holds stage.UnlockAway call held is = is
holds stage.YieldAway call held is = is
holds stage.Lock call held is = is
holds stage.Waited call held is = is
holds stage.Look call held is = tt
holds stage.CountIn call held is = tt
holds stage.Leave call held is = tt
holds other call held is = absurd is

after : (answers : List ℕ) (w : Holding) → IsHeldAt w.call.stage w.held
    → HoldsAt (action_at (after_answers w answers).call.stage (after_answers w answers).call) (after_answers w answers).held
after [] w is = holds w.call.stage w.call w.held is
after (found ∷ more) w is =
    after more (record { call = event_at w.call.stage found w.call; held = held_after (action_at w.call.stage w.call) w.held })
    (next w.call.stage found w.call w.held is)

pub waits_hand_over_the_mutex : WaitsHandOverTheMutex
waits_hand_over_the_mutex = λ answers. after answers _ refl
