-- How a notification comes to its wake-up.
use Rattle.std.proofs.Common.{◌≡◌, ℕ, ◌+◌, ◌-◌, ◌<◌, ◌≤◌, ◌==◌, ◌||◌, Bool, true, false, nat_lt, if◌then◌else◌, refl, sym, subst, arith}
use Rattle.std.proofs.lemmas.Bool.{eqb-true, ltb-true, false≢true}
use Rattle.atomic_table.specs.Seated.{TableId}
use Rattle.lock_events.specs.declared.action.EventAction.TheVariants as action
use Rattle.lock_events.specs.declared.call.EventCall.{EventCall}
use Rattle.lock_events.specs.declared.stage.EventStage.{EventStage}
use Rattle.lock_events.specs.declared.stage.EventStage.TheVariants as stage
use Rattle.lock_events.specs.Words.{decoded, last_epoch, has_none}
use Rattle.lock_events.specs.Events.{most_lost, action_at, action_of, event_to, event_at, event_next, notify_at, ended_epoch, after_loss}
use Rattle.lock_events.specs.Runs.{wake_of}
use Rattle.lock_events.proofs.Steps.{chosen}
use Rattle.lock_wake.specs.EventCalls.{EventCallView}
use Rattle.lock_wake.specs.EventPlays.{is_notifying, NotifiesAs, left_at, lost_left}

either_true : (a b : Bool) → a ≡ true → (a || b) ≡ true
either_true true b is = refl
either_true false b is = absurd (false≢true is)

none_counted : (all : Bool) (found : ℕ) → has_none all (decoded found) ≡ true → all ≡ true → (decoded found).count ≡ 0
none_counted true found none is = eqb-true _ _ none
none_counted false found none is = absurd (false≢true is)

-- a notification that looks at the word
pub looks : (all : Bool) (found : ℕ) (call : EventCall) → (all ≡ true → call.all ≡ true) → call.lost ≤ most_lost
    → NotifiesAs all (notify_at found call) × (lost_left (notify_at found call) ≤ most_lost + 1 - call.lost)
looks all found call wide few =
    let skipped : EventCall = event_to stage.Skipped (record call { loaded = found }) in
    let ending : EventCall = event_to stage.EndEpoch (record call { loaded = found; epoch = (decoded found).epoch + 1 }) in
    let waking : EventCall = event_to stage.Wake (record call { loaded = found; epoch = (decoded found).epoch }) in
    chosen (λ (c : EventCall). NotifiesAs all c × (lost_left c ≤ most_lost + 1 - call.lost)) (has_none call.all (decoded found)) skipped
    (if nat_lt (decoded found).epoch last_epoch then ending else waking)
    (λ none. (record { stage = refl; wide = wide; none = λ _ is. none_counted call.all found none (wide is); few = few }, omega arith))
    (λ _.
    chosen (λ (c : EventCall). NotifiesAs all c × (lost_left c ≤ most_lost + 1 - call.lost)) (nat_lt (decoded found).epoch last_epoch) ending waking
    (λ _. (record { stage = refl; wide = wide; none = λ skips. cc; few = few }, omega arith))
    (λ _. (record { stage = refl; wide = wide; none = λ skips. cc; few = few }, omega arith)))

-- after the exchange that it asked for
exchanged : (all : Bool) (found : ℕ) (call : EventCall) → NotifiesAs all call
    → NotifiesAs all (event_at stage.EndEpoch found call) × (lost_left (event_at stage.EndEpoch found call) < most_lost + 1 - call.lost)
exchanged all found call by =
    let few = by.few in
    let last : EventCall = event_to stage.EndAllEpochs (record call { all = true; epoch = last_epoch }) in
    chosen (λ (c : EventCall). NotifiesAs all c × (lost_left c < most_lost + 1 - call.lost)) (found == call.loaded) (ended_epoch call) (after_loss found call)
    (λ _. (record { stage = refl; wide = λ is. either_true call.all (call.epoch == last_epoch) (by.wide is); none = λ skips. cc; few = few }, omega arith))
    (λ _.
    chosen (λ (c : EventCall). NotifiesAs all c × (lost_left c < most_lost + 1 - call.lost)) (nat_lt call.lost most_lost)
    (notify_at found (record call { lost = call.lost + 1 })) last
    (λ more.
    let less : call.lost < most_lost = ltb-true _ _ more in
    let then_looks = looks all found (record call { lost = call.lost + 1 }) by.wide (omega arith) in
    let left = then_looks.1 in
    (then_looks.0, omega arith))
    (λ _. (record { stage = refl; wide = λ is. refl; none = λ skips. cc; few = few }, omega arith)))

-- which stage asks for what
exchange_stage : (at : EventStage) (call : EventCall) (old new : ℕ) → is_notifying at ≡ true → action_at at call ≡ action.Exchange old new → at ≡ stage.EndEpoch
exchange_stage stage.EndEpoch call old new is asks = refl
exchange_stage stage.EndAllEpochs call old new is asks = cc
exchange_stage stage.Skipped call old new is asks = cc
exchange_stage stage.Wake call old new is asks = either call.all asks
  where
    either : (all : Bool) → wake_of all ≡ action.Exchange old new → stage.Wake ≡ stage.EndEpoch
    either true e = cc
    either false e = cc
exchange_stage other call old new is asks = absurd (false≢true is)

bits_stage : (at : EventStage) (call : EventCall) (bits : ℕ) → is_notifying at ≡ true → action_at at call ≡ action.Or bits → at ≡ stage.EndAllEpochs
bits_stage stage.EndAllEpochs call bits is asks = refl
bits_stage stage.EndEpoch call bits is asks = cc
bits_stage stage.Skipped call bits is asks = cc
bits_stage stage.Wake call bits is asks = either call.all asks
  where
    either : (all : Bool) → wake_of all ≡ action.Or bits → stage.Wake ≡ stage.EndAllEpochs
    either true e = cc
    either false e = cc
bits_stage other call bits is asks = absurd (false≢true is)

pub wake_stage : (at : EventStage) (call : EventCall) → is_notifying at ≡ true → ((old new : ℕ) → action_at at call ≡ action.Exchange old new → ⊥)
    → ((bits : ℕ) → action_at at call ≡ action.Or bits → ⊥) → ((some : Bool) → action_at at call ≡ action.End some → ⊥) → at ≡ stage.Wake
wake_stage stage.Wake call is exchanges bits ends = refl
wake_stage stage.EndEpoch call is exchanges bits ends = absurd (exchanges _ _ refl)
wake_stage stage.EndAllEpochs call is exchanges bits ends = absurd (bits _ refl)
wake_stage stage.Skipped call is exchanges bits ends = absurd (ends _ refl)
wake_stage other call is exchanges bits ends = absurd (false≢true is)

abbrev After : EventCallView → EventCallView → Type 0
After old new = (found : ℕ) × (new ≡ record old { call = event_next found old.call })

pub record IsSmaller (events : TableId) (all : Bool) (old new : EventCallView) : Type 0 where
  pub same : new.events ≡ events
  pub notifies : NotifiesAs all new.call
  pub smaller : lost_left new.call < lost_left old.call

pub by_exchange : (events : TableId) (all : Bool) (old new : EventCallView) (first second : ℕ) → old.events ≡ events → NotifiesAs all old.call
    → action_of old.call ≡ action.Exchange first second → After old new → IsSmaller events all old new
by_exchange events all old new first second same by asks after =
    let at : old.call.stage ≡ stage.EndEpoch = exchange_stage old.call.stage old.call first second by.stage asks in
    let goes : NotifiesAs all (event_next after.0 old.call) × (lost_left (event_next after.0 old.call) < lost_left old.call)
    = subst (λ x. NotifiesAs all (event_at x after.0 old.call) × (lost_left (event_at x after.0 old.call) < left_at x old.call.lost)) (sym at)
    (exchanged all after.0 old.call by) in
    subst (λ (v : EventCallView). IsSmaller events all old v) (sym after.1) record { same = same; notifies = goes.0; smaller = goes.1 }

pub record IsReady (events : TableId) (all : Bool) (new : EventCallView) : Type 0 where
  pub same : new.events ≡ events
  pub notifies : NotifiesAs all new.call
  pub wakes : new.call.stage ≡ stage.Wake

pub by_bits : (events : TableId) (all : Bool) (old new : EventCallView) (bits : ℕ) → old.events ≡ events → NotifiesAs all old.call
    → action_of old.call ≡ action.Or bits → After old new → IsReady events all new
by_bits events all old new bits same by asks after =
    let at : old.call.stage ≡ stage.EndAllEpochs = bits_stage old.call.stage old.call bits by.stage asks in
    let few = by.few in
    let goes : NotifiesAs all (event_next after.0 old.call) × ((event_next after.0 old.call).stage ≡ stage.Wake)
    = subst (λ x. NotifiesAs all (event_at x after.0 old.call) × ((event_at x after.0 old.call).stage ≡ stage.Wake)) (sym at)
    (record { stage = refl; wide = by.wide; none = λ skips. cc; few = few }, refl) in
    subst (λ (v : EventCallView). IsReady events all v) (sym after.1) record { same = same; notifies = goes.0; wakes = goes.1 }
