-- Every wait on a condition variable is reached by each notification that began after it registered.
use Rattle.std.proofs.Common.{◌≡◌, ℕ, ◌+◌, ◌-◌, ◌^◌, ◌<◌, ◌≤◌, min, Bool, true, false, ◌==◌, ◌||◌, nat_lt, List, [], ◌∷◌, slice_get, Option, Some, None, if◌then◌else◌, ◌⊎◌, inl, inr, IsTrue, refl, sym, subst, ◌∙◌, arith}
use Rattle.std.proofs.lemmas.Bool.{eqb-false, ltb-true, false≢true, cases_lt}
use Rattle.std.proofs.lemmas.Option.{same_Some}
use Rattle.lock_events.specs.declared.action.EventAction.TheVariants as action
use Rattle.lock_events.specs.declared.act.Begun.{Begun}
use Rattle.lock_events.specs.declared.act.EventAct.{EventAct}
use Rattle.lock_events.specs.declared.act.EventAct.TheVariants as act
use Rattle.lock_events.specs.declared.call.EventCall.{EventCall}
use Rattle.lock_events.specs.declared.stage.EventStage.{EventStage}
use Rattle.lock_events.specs.declared.stage.EventStage.TheVariants as stage
use Rattle.lock_events.specs.declared.word.EventWord.{EventWord}
use Rattle.lock_events.specs.Words.{last_epoch, many, decoded, encoded, unclaimed_in, takes_in, has_none, with_wait, in_next_epoch}
use Rattle.lock_events.specs.Events.{waiting, notifying, action_at, action_of, event_to, event_at, wait_at, notify_at, ended_epoch, after_loss, most_lost, is_notified}
use Rattle.lock_events.specs.Kept.{is_registered, Knows, IsKept}
use Rattle.lock_events.specs.Runs.{parks_at, EventsInUse, new_events, step_of_call, after_event, after_events, wake_of, WaitsAreReached, EveryWaitIsReached}
use Rattle.lock_events.proofs.Steps.{chosen, step_kept, joined, next_small, ended}
use Rattle.lock_events.proofs.WordLemmas.{back, unclaimed_small, word_small, zero_word}

abbrev IsKeptIn : EventsInUse → Type 0
IsKeptIn s = IsKept (decoded s.word) s.calls

stepped_by : (s : EventsInUse) → IsKeptIn s → (k told : ℕ) (o : Option Begun) → slice_get s.calls k ≡ o → IsKeptIn (step_of_call s k told o)
stepped_by s h k told None at = h
stepped_by s h k told (Some b) at = step_kept s.word s.calls h k b at told

kept_after_event : (s : EventsInUse) → IsKeptIn s → (a : EventAct) → IsKeptIn (after_event s a)
kept_after_event s h act.Wait = joined (decoded s.word) s.calls h waiting refl tt (λ watched some early claims. tt)
kept_after_event s h (act.Notify all) = joined (decoded s.word) s.calls h (notifying all) refl tt (λ watched some early claims. tt)
kept_after_event s h (act.Step k told) = stepped_by s h k told (slice_get s.calls k) refl

kept_after_events : (s : EventsInUse) → IsKeptIn s → (acts : List EventAct) → IsKeptIn (after_events s acts)
kept_after_events s h [] = h
kept_after_events s h (a ∷ acts) = kept_after_events (after_event s a) (kept_after_event s h a) acts

kept_at_start : IsKeptIn new_events
kept_at_start =
    subst (λ v. IsKept v []) (sym zero_word) record {
      counted = refl;
      claimed = λ few. omega arith;
      fits = omega arith;
      each = λ k b is. cc;
      reached = λ i n wait note iw inn registered less. cc;
    }

-- only at two stages a call asks for the release of its mutex
unlocking : (at : EventStage) (found : ℕ) (call : EventCall) → action_at at call ≡ action.Unlock
    → IsTrue (is_registered at) ⊎ (action_of (event_at at found call) ≡ action.Yield)
unlocking stage.Unlock found call is = inl refl
unlocking stage.UnlockAway found call is = inr refl
unlocking stage.Wake found call is = either call.all is
  where
    either : (all : Bool) → wake_of all ≡ action.Unlock → IsTrue false ⊎ (action_of (event_to stage.Notified call) ≡ action.Yield)
    either true e = cc
    either false e = cc
unlocking stage.Sleep found call is = inl refl
unlocking stage.Leave found call is = inl refl
unlocking other found call is = cc

-- only at one stage a call parks, and at its epoch
record ParksAt (at : EventStage) (call : EventCall) (epoch : ℕ) : Type 0 where
  registered : IsTrue (is_registered at)
  same : call.epoch ≡ epoch

parked : (at : EventStage) (call : EventCall) (epoch : ℕ) → parks_at (action_at at call) ≡ Some epoch → ParksAt at call epoch
parked stage.Sleep call epoch is = record { registered = refl; same = same_Some call.epoch epoch is }
parked stage.Wake call epoch is = either call.all is
  where
    either : (all : Bool) → parks_at (wake_of all) ≡ Some epoch → ParksAt stage.Wake call epoch
    either true e = cc
    either false e = cc
parked other call epoch is = cc

wakes_next : (at : EventStage) (found : ℕ) (call : EventCall) → at ≡ stage.EndEpoch → found ≡ call.loaded
    → action_of (event_at at found call) ≡ wake_of (call.all || (call.epoch == last_epoch))
wakes_next at found call is hit =
    subst (λ x. action_of (event_at x found call) ≡ wake_of (call.all || (call.epoch == last_epoch))) (sym is)
    (chosen (λ (c : EventCall). action_of c ≡ wake_of (call.all || (call.epoch == last_epoch))) (found == call.loaded) (ended_epoch call) (after_loss found call)
    (λ _. refl) (λ misses. absurd (eqb-false _ _ misses hit)))

wakes_last_next : (at : EventStage) (found : ℕ) (call : EventCall) → at ≡ stage.FindWaits → has_none call.all (decoded found) ≡ false
    → last_epoch ≤ (decoded found).epoch → action_of (event_at at found call) ≡ wake_of call.all
wakes_last_next at found call is some late =
    let skipped : EventCall = event_to stage.Skipped (record call { loaded = found }) in
    let ending : EventCall = event_to stage.EndEpoch (record call { loaded = found; epoch = (decoded found).epoch + 1 }) in
    let waking : EventCall = event_to stage.Wake (record call { loaded = found; epoch = (decoded found).epoch }) in
    subst (λ x. action_of (event_at x found call) ≡ wake_of call.all) (sym is)
    (chosen (λ (c : EventCall). action_of c ≡ wake_of call.all) (has_none call.all (decoded found)) skipped
    (if nat_lt (decoded found).epoch last_epoch then ending else waking) (λ none. absurd (false≢true (sym some ∙ none)))
    (λ _. chosen (λ (c : EventCall). action_of c ≡ wake_of call.all) (nat_lt (decoded found).epoch last_epoch) ending waking
    (λ early. absurd (let b = ltb-true (decoded found).epoch last_epoch early in omega arith)) (λ _. refl)))

-- a notification skips by one test alone
skips_at : (found : ℕ) (call : EventCall) → (notify_at found call).stage ≡ stage.Skipped → has_none call.all (decoded found) ≡ true
skips_at found call skips =
    let skipped : EventCall = event_to stage.Skipped (record call { loaded = found }) in
    let ending : EventCall = event_to stage.EndEpoch (record call { loaded = found; epoch = (decoded found).epoch + 1 }) in
    let waking : EventCall = event_to stage.Wake (record call { loaded = found; epoch = (decoded found).epoch }) in
    let other = if nat_lt (decoded found).epoch last_epoch then ending else waking in
    chosen (λ (c : EventCall). (c.stage ≡ stage.Skipped → has_none call.all (decoded found) ≡ true)) (has_none call.all (decoded found)) skipped other
    (λ none _. none)
    (λ _. chosen (λ (c : EventCall). (c.stage ≡ stage.Skipped → has_none call.all (decoded found) ≡ true)) (nat_lt (decoded found).epoch last_epoch) ending waking
    (λ _ is. cc) (λ _ is. cc)) skips

wait_skips : (found : ℕ) (call : EventCall) → (wait_at found call).stage ≡ stage.Skipped → has_none call.all (decoded found) ≡ true
wait_skips found call is =
    chosen (λ (c : EventCall). (c.stage ≡ stage.Skipped → has_none call.all (decoded found) ≡ true)) (takes_in (decoded found))
    (event_to stage.CountIn (record call { loaded = found; epoch = (with_wait (decoded found)).epoch })) (event_to stage.UnlockAway call) (λ _ skips. cc) (λ _ skips. cc) is

skips_next : (at : EventStage) (found : ℕ) (call : EventCall) → is_notified at ≡ false → (event_at at found call).stage ≡ stage.Skipped
    → has_none call.all (decoded found) ≡ true
skips_next stage.FindWaits found call going is = skips_at found call is
skips_next stage.EndEpoch found call going is =
    chosen (λ (c : EventCall). (c.stage ≡ stage.Skipped → has_none call.all (decoded found) ≡ true)) (found == call.loaded) (ended_epoch call)
    (after_loss found call) (λ _ skips. cc)
    (λ _ skips.
    chosen (λ (c : EventCall). (c.stage ≡ stage.Skipped → has_none call.all (decoded found) ≡ true)) (nat_lt call.lost most_lost)
    (notify_at found (record call { lost = call.lost + 1 })) (event_to stage.EndAllEpochs (record call { all = true; epoch = last_epoch }))
    (λ _ skips_then. skips_at found (record call { lost = call.lost + 1 }) skips_then) (λ _ skips_then. cc) skips) is
skips_next stage.Look found call going is = wait_skips found call is
skips_next stage.CountIn found call going is =
    chosen (λ (c : EventCall). (c.stage ≡ stage.Skipped → has_none call.all (decoded found) ≡ true)) (found == call.loaded) (event_to stage.Unlock call)
    (wait_at found call) (λ _ skips. cc) (λ _ skips. wait_skips found call skips) is
skips_next stage.Notified found call going is = absurd (false≢true (sym going))
skips_next stage.Skipped found call going is = absurd (false≢true (sym going))
skips_next other found call going is = cc

-- the numbers of an exchange
same_exchange : (a b c d : ℕ) → action.Exchange a b ≡ action.Exchange c d → (a ≡ c) × (b ≡ d)
same_exchange a b c d e = ((cc), (cc))

one_less_by_one : (v : EventWord) → v.unclaimed < 2 ^ 8 → unclaimed_in v ≤ unclaimed_in (in_next_epoch false v) + 1
one_less_by_one v small =
    chosen (λ n. unclaimed_in v ≤ min v.count n + 1) (nat_lt (unclaimed_in v) many) (unclaimed_in v - 1) many (λ few. let less = ltb-true _ _ few in omega arith) (λ _. omega arith)

-- what the exchange of a notification of one leaves
claims_next : (at : EventStage) (call : EventCall) (old new : ℕ) → at ≡ stage.EndEpoch → Knows at call → call.all ≡ false
    → action_at at call ≡ action.Exchange old new
    → ((decoded new).count ≡ (decoded old).count) × (unclaimed_in (decoded old) ≤ unclaimed_in (decoded new) + 1)
    × ((decoded new).epoch ≡ (decoded old).epoch + 1)
claims_next at call old new is knows one asks =
    let known = subst (λ x. Knows x call) is knows in
    let early : (decoded call.loaded).epoch < last_epoch = known.1 in
    let words = same_exchange call.loaded (encoded (in_next_epoch call.all (decoded call.loaded))) old new
    (subst (λ x. action_at x call ≡ action.Exchange old new) is asks) in
    let after : decoded new ≡ in_next_epoch false (decoded old)
    = subst (λ x. decoded x ≡ in_next_epoch false (decoded old)) words.1
    (subst (λ x. decoded (encoded (in_next_epoch call.all (decoded x))) ≡ in_next_epoch false (decoded old)) (sym words.0)
    (subst (λ all. decoded (encoded (in_next_epoch all (decoded old))) ≡ in_next_epoch false (decoded old)) (sym one)
    (back (in_next_epoch false (decoded old)) (next_small false (decoded old)) (subst (λ x. (decoded x).epoch + 1 < 2 ^ 32) words.0 (omega arith))))) in
    subst (λ (v : EventWord). (v.count ≡ (decoded old).count) × (unclaimed_in (decoded old) ≤ unclaimed_in v + 1) × (v.epoch ≡ (decoded old).epoch + 1))
    (sym after) (refl, one_less_by_one (decoded old) (unclaimed_small old), refl)

reached : (s : EventsInUse) → IsKeptIn s → WaitsAreReached s
reached s h =
    record {
      reached = h.reached;
      sleeps = λ k n wait note iw inn parks over.
          elim (cases_lt n wait.before) [
            | inl earlier ↦ earlier
            | inr later ↦
                absurd
                (let there = parked wait.call.stage wait.call (decoded s.word).epoch parks in
                let now = there.same in
                let past = ended note.call.stage (decoded s.word).epoch wait.call.epoch note.call.epoch (decoded note.call.loaded).count over
                (h.reached k n wait note iw inn there.registered later) in
                omega arith)
          ];
      unlocks = λ k found wait is asks. unlocking wait.call.stage found wait.call asks;
      early = λ k wait is registered. (h.each k wait is).early registered;
      wakes = λ n found note is ends hit. wakes_next note.call.stage found note.call ends hit;
      wakes_last = λ n found note is looks some late. wakes_last_next note.call.stage found note.call looks some late;
      skips = λ n found note is going skips. skips_next note.call.stage found note.call going skips;
      claims = λ n old new note is ends one asks. claims_next note.call.stage note.call old new ends (h.each n note is).knows one asks;
      claimed = h.claimed;
      counted = h.counted;
      fits = word_small s.word h.fits;
    }

pub every_wait_is_reached : EveryWaitIsReached
every_wait_is_reached acts = reached (after_events new_events acts) (kept_after_events new_events kept_at_start acts)
