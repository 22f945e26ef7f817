-- What the steps of a call mean: whatever all other calls do, each step keeps the rule by which no sleeper is forgotten.
use Rattle.std.specs.Prelude.{◌≡◌, ℕ, ◌%◌, ◌+◌, ◌-◌, ◌^◌, ◌<◌, Bool, true, false, not, ◌&&◌, ◌==◌, if◌then◌else◌, ◌⊎◌, List, [], ◌∷◌, ◌≤◌, ⊤, IsTrue}
use Rattle.lock_modes.specs.declared.hold.Hold.{Hold}
use Rattle.lock_modes.specs.Holds.{hold_has, hold_after}
use Rattle.lock_word.specs.Word.{amount, step_of_want, step_of_down}
use Rattle.lock_word.specs.declared.want.ExWant.{ExWant}
use Rattle.lock_word.specs.Unblocking.{is_awaited}
use Rattle.lock_one.specs.declared.action.Action.{Action}
use Rattle.lock_one.specs.declared.action.Action.TheVariants.{Load, Exchange, Subtract, WakeOne, WakeAll, WakeNext, WakeTurn, Spin, Yield, End}
use Rattle.lock_one.specs.declared.action.Action.TheVariants as action
use Rattle.lock_one.specs.declared.call.WordCall.{WordCall}
use Rattle.lock_one.specs.declared.stage.Stage.{Stage}
use Rattle.lock_one.specs.declared.stage.Stage.TheVariants as stage
use Rattle.lock_one.specs.declared.sleep_view.WordLimits.{WordLimits}
use Rattle.lock_one.specs.declared.sleep_view.SleepView.{SleepView}
use Rattle.lock_one.specs.declared.sleep_view.SleepState.TheVariants.{Awake, Asleep}
use Rattle.lock_one.specs.declared.sleep_view.Debt.{Debt}
use Rattle.lock_one.specs.declared.sleep_view.Debt.TheVariants as debt
use Rattle.lock_one.specs.Rule.{is_asleep, is_woken, is_shared, KeepsSleepers}
use Rattle.lock_one.specs.Machine.{Progress, core_of, has_turn, has_sleepers, sleepers, admits_word, wakes_one, has_slept, is_due, is_exclusive, sets_turn, sleep_of, after_try, word_marked, word_withdrawn, word_released, next_of}

-- the word after an action that is made in one atomic step
abbrev pub made : Action → ℕ → ℕ
made Load w = w
made (Exchange a b) w = if w == a then b else w
made (Subtract d) w = w - amount d
made (action.Sleep n c b) w = w
made WakeOne w = w
made WakeAll w = w
made WakeNext w = w
made WakeTurn w = w
made (Spin n) w = w
made Yield w = w
made (End b) w = w

-- whether an action reads or writes the word. A wake-up uses its address alone
abbrev pub touches : Action → Bool
touches Load = true
touches (Exchange a b) = true
touches (Subtract d) = true
touches (action.Sleep n c b) = true
touches WakeOne = false
touches WakeAll = false
touches WakeNext = false
touches WakeTurn = false
touches (Spin n) = false
touches Yield = false
touches (End b) = false

abbrev pub ends : Action → Bool
ends Load = false
ends (Exchange a b) = false
ends (Subtract d) = false
ends (action.Sleep n c b) = false
ends WakeOne = false
ends WakeAll = false
ends WakeNext = false
ends WakeTurn = false
ends (Spin n) = false
ends Yield = false
ends (End b) = true

-- the actions of a call from here on, up to its end, where its steps are answered by these numbers
abbrev pub actions_from : Progress → List ℕ → List Action
actions_from p [] = p.1 ∷ []
actions_from p (found ∷ answers) = p.1 ∷ (if ends p.1 then [] else actions_from (next_of found p.0) answers)

abbrev pub touches_none : List Action → Bool
touches_none [] = true
touches_none (a ∷ actions) = not (touches a) && touches_none actions

-- THE LAW OF THE LAST ACCESS: once the exchange of a release, of an acquisition or of a withdrawal has succeeded, no action of
-- the call reads or writes the word, whatever it is answered
pub record LastAccess : Type 0 where
  pub release : (call : WordCall) (answers : List ℕ) → call.stage ≡ stage.Release
      → touches_none (actions_from (next_of call.loaded call) answers) ≡ true
  pub subtraction : (call : WordCall) (found : ℕ) (answers : List ℕ) → call.stage ≡ stage.Subtract
      → touches_none (actions_from (next_of found call) answers) ≡ true
  pub acquisition : (call : WordCall) (answers : List ℕ) → call.stage ≡ stage.Try
      → touches_none (actions_from (next_of call.loaded call) answers) ≡ true
  pub withdrawal : (call : WordCall) (answers : List ℕ) → call.stage ≡ stage.Withdraw
      → touches_none (actions_from (next_of call.loaded call) answers) ≡ true

abbrev pub limits_of : WordCall → WordLimits
limits_of call = record { readers = call.readers; wakes_one = wakes_one call }

-- whether the loaded word admits what the call wants
abbrev pub is_admitted : WordCall → Bool
is_admitted call = admits_word call.announced call.readers call.loaded call.want

-- the party acquires what the call wants: it holds what the exchange takes, its bar is as said, it owes nothing, it is awake, and
-- if it was woken, the call has slept. A call that has set the bar was due to, and one that has set T is a reader
pub record Acquires (want : ExWant) (announced turned slept blocks due : Bool) (v : SleepView) : Type 0 where
  pub awaited : IsTrue (is_awaited want)
  pub has : IsTrue (hold_has v.held (step_of_want want))
  pub bar : announced ≡ v.held.announced
  pub owes_none : v.debt ≡ debt.Nothing
  pub woken : IsTrue (is_woken v.sleep) → slept ≡ true
  pub tries : blocks ≡ false → (slept ≡ false) × (announced ≡ false) × (turned ≡ false)
  pub patient : announced ≡ true → due ≡ true
  pub writer : announced ≡ true → is_exclusive want ≡ true
  pub reader : turned ≡ true → is_shared want ≡ true

abbrev pub Acquiring : WordCall → SleepView → Type 0
Acquiring call v = Acquires call.want call.announced call.turned (has_slept call) call.blocks (is_due call) v

abbrev pub Awaits : WordCall → SleepView → Type 0
Awaits call v = Acquiring call v × (is_asleep v.sleep ≡ false)

abbrev pub IsPause : Action → Type 0
IsPause (Spin n) = ⊤
IsPause other = ⊥

abbrev pub IsWake : Debt → Action → Type 0
IsWake debt.Nothing a = ⊥
IsWake debt.One a = a ≡ WakeOne
IsWake debt.All a = a ≡ WakeAll
IsWake debt.Next a = a ≡ WakeNext
IsWake debt.Turn a = a ≡ WakeTurn

abbrev pub AtRest : SleepView → Type 0
AtRest v = (v.sleep ≡ Awake) × (v.debt ≡ debt.Nothing)

-- the party is where its call awaits the answer to this action
abbrev pub IsAt : Stage → WordCall → SleepView → Action → Type 0
IsAt stage.Look call v a = Awaits call v × (a ≡ Load)
IsAt stage.Try call v a = Awaits call v × (is_admitted call ≡ true) × (a ≡ Exchange call.loaded (after_try call call.loaded))
IsAt stage.Pause call v a = Awaits call v × IsPause a
IsAt stage.Mark call v a = Awaits call v × (is_admitted call ≡ false) × (call.blocks ≡ true) × (call.left ≡ word_marked call) × (a ≡ Exchange call.loaded (word_marked call))
-- a writer that announces itself and is due sleeps on a word with a bar, its own or another's, or with T; and a call that would set T
-- has set it
IsAt stage.Sleep call v a =
    Acquires call.want call.announced call.turned true call.blocks (is_due call) v × (is_admitted call ≡ false) × (call.blocks ≡ true) × (has_sleepers call.loaded ≡ true) × (IsTrue (is_asleep v.sleep) → v.sleep ≡ Asleep call.want)
    × (a ≡ sleep_of call) × (call.announces ≡ true → is_exclusive call.want ≡ true → is_due call ≡ true → 2 ^ 34 ≤ call.loaded % sleepers) × (sets_turn call ≡ false)
IsAt stage.Withdraw call v a = Awaits call v × (is_admitted call ≡ false) × ((call.announced ≡ true) ⊎ ((call.turned ≡ true) × (has_turn call.loaded ≡ true))) × (call.late ≡ true) × (a ≡ Exchange call.loaded (word_withdrawn call))
IsAt stage.Leave call v a = Awaits call v × (is_admitted call ≡ false) × (call.announced ≡ false) × (call.loaded < sleepers) × (a ≡ Exchange call.loaded (call.loaded + sleepers)) × IsTrue (wakes_one call)
IsAt stage.LookToRemove call v a = IsTrue (hold_has v.held (step_of_down call.down)) × AtRest v × (a ≡ Load)
IsAt stage.Subtract call v a = IsTrue (hold_has v.held (step_of_down call.down)) × AtRest v × (a ≡ Subtract call.down)
IsAt stage.Release call v a = IsTrue (hold_has v.held (step_of_down call.down)) × AtRest v × (a ≡ Exchange call.loaded (word_released call.readers call.loaded call.down))
IsAt stage.Wake call v a = (v.sleep ≡ Awake) × IsWake v.debt a
IsAt stage.WakeRefused call v a = (v.sleep ≡ Awake) × (v.debt ≡ debt.All) × (a ≡ WakeAll)
IsAt stage.WakeAcquired call v a =
    (v.sleep ≡ Awake) × (v.debt ≡ debt.All) × (a ≡ WakeAll) × (v.held.announced ≡ false)
IsAt stage.Acquired call v a = AtRest v × (a ≡ End true) × (v.held.announced ≡ false)
IsAt stage.Refused call v a = AtRest v × (a ≡ End false)
IsAt stage.Ended call v a = AtRest v × (a ≡ End true)

-- whether the action at this stage is a step on the word, or a pause. Sleeps and wake-ups are not: they concern others
abbrev pub is_step : Stage → Bool
is_step stage.Look = true
is_step stage.Try = true
is_step stage.Pause = true
is_step stage.Mark = true
is_step stage.Withdraw = true
is_step stage.Leave = true
is_step stage.LookToRemove = true
is_step stage.Subtract = true
is_step stage.Release = true
is_step other = false

-- a word and parties that keep the rule
pub record Keeps (limits : WordLimits) (word : ℕ) (views : List SleepView) : Type 0 where
  pub small : word < 2 ^ 37
  pub kept : KeepsSleepers limits (core_of word) (has_turn word) (has_sleepers word) views

-- what the party holds whose call is at this stage, if it held this when the call began
abbrev pub hold_at : Stage → WordCall → Hold → Hold
hold_at stage.Acquired call before = hold_after (record before { announced = call.announced }) (step_of_want call.want)
hold_at stage.WakeAcquired call before = hold_after (record before { announced = call.announced }) (step_of_want call.want)
hold_at stage.LookToRemove call before = before
hold_at stage.Subtract call before = before
hold_at stage.Release call before = before
hold_at stage.Wake call before = hold_after before (step_of_down call.down)
hold_at stage.Ended call before = hold_after before (step_of_down call.down)
hold_at stage.Refused call before = record before { announced = false }
hold_at stage.WakeRefused call before = record before { announced = false }
hold_at waiting call before = record before { announced = call.announced }
