-- What a driver knows of a call between two of its actions.
use Rattle.std.specs.Prelude.{◌≡◌, ℕ, ◌+◌, ◌-◌, ◌<◌, Bool, true, false, if◌then◌else◌, ◌⊎◌, IsTrue, Option, Some, None, Result, IfErr, MatchResult}
use Rattle.lock_modes.specs.declared.hold.Hold.{Hold}
use Rattle.lock_modes.specs.Holds.{hold_after}
use Rattle.lock_word.specs.declared.want.ExWant.{ExWant}
use Rattle.lock_word.specs.Unblocking.{is_awaited}
use Rattle.lock_word.specs.declared.down.Down.{Down}
use Rattle.lock_word.specs.Word.{step_of_want, step_of_down, word_admits, word_after}
use Rattle.lock_one.specs.declared.action.Action.{Action}
use Rattle.lock_one.specs.declared.action.Action.TheVariants.{Load, Exchange, Subtract, WakeOne, WakeAll, WakeNext, WakeTurn, End}
use Rattle.lock_one.specs.declared.call.WordCall.{WordCall}
use Rattle.lock_one.specs.declared.stage.Stage.{Stage}
use Rattle.lock_one.specs.declared.stage.Stage.TheVariants as stage
use Rattle.lock_one.specs.Machine.{Progress, acquiring, taking, next_of, turn}
use Rattle.lock_one.specs.Rule.{is_upgrade}
use Rattle.lock_one.specs.Steps.{ends}
use Rattle.lock_one_word.specs.declared.rule.OneView.{OneView}
use Rattle.lock_one_word.specs.declared.word_lock.steps.looked.Looked.{Looked}
use Rattle.lock_one_word.specs.declared.word_lock.steps.unacquired.Unacquired.{Unacquired}
use Rattle.lock_one_word.specs.declared.word_lock.steps.unreleased.Unreleased.{Unreleased}
use Rattle.lock_one_word.specs.Calls.{IsTry, TimesOut}
use Rattle.lock_one_word.specs.Seals.{Ending, ending}
use Rattle.lock_one_word.specs.Seats.{Self, Task, to_acquire, to_release, IsGoing}

-- an action on the word, or a wake-up by its address
abbrev pub touches_lock : Action → Bool
touches_lock Load = true
touches_lock (Exchange x y) = true
touches_lock (Subtract d) = true
touches_lock WakeOne = true
touches_lock WakeAll = true
touches_lock WakeNext = true
touches_lock WakeTurn = true
touches_lock other = false

-- the party is in a call whose next action is this one
abbrev pub CanGo : Progress → Self → Type 0
CanGo next me = (before : Hold) × (task : Task) × IsGoing next before task me.0

-- a call, its next action, and how many exchanges it has made
pub record Pending : Type 0 where
  pub call : WordCall
  pub action : Action
  pub exchanges : ℕ

-- a call, and its next action
abbrev pub at : Pending → Progress
at p = (p.call, p.action)

-- the call goes on, if its action was answered
abbrev pub after_found : Option ℕ → Progress → Progress
after_found None p = p
after_found (Some found) p = next_of found p.0

-- a call that acquires, at its action after its first load
abbrev pub looked_at : Looked → Progress
looked_at l = next_of l.word (acquiring l.readers l.want l.blocks true).0

-- after it, or after the exchange that found another word
abbrev pub unacquired_at : Unacquired → Progress
unacquired_at u = after_found u.found (looked_at u.looked)

-- a release after its load and the subtraction, or after one step alone
abbrev pub unreleased_at : Unreleased → Progress
unreleased_at u = next_of u.found (after_found u.looked (taking u.releasing.readers u.releasing.down)).0

-- the loaded word has neither T nor the bit of sleepers and admits the call, whose exchange leaves this word
abbrev pub Admits : Looked → ℕ → Type 0
Admits l left = (left ≡ word_after l.word l.want) × (l.word < turn) × (word_admits false l.readers l.word l.want ≡ true)

-- the party is in a call that asks for this action
abbrev pub CanMake : Action → Self → Type 0
CanMake a me = (call : WordCall) × (before : Hold) × (task : Task) × IsGoing (call, a) before task me.0

-- the end of a call with this answer
abbrev pub ended_with : Pending → Bool → Ending
ended_with p answer = ending p.call.readers (is_upgrade p.call.want) p.call.blocks answer p.call.loaded p.call.late p.exchanges

-- the end of a call that acquires by its first exchange
abbrev pub first_end : Looked → Ending
first_end l = ending l.readers (is_upgrade l.want) l.blocks true l.word false 1

-- the call asks for its end, or it is a try before its exchange, of which nobody knows
abbrev pub MayEnd : Progress → Type 0
MayEnd next = (ends next.1 ≡ true) ⊎ ((next.0.blocks ≡ false) × (next.0.stage ≡ stage.Try))

-- the action is made, and the call goes on with what it found
abbrev pub GoesOn : Pending → Self → Pending → Self → Type 0
GoesOn p me q after =
    ((found : ℕ) × (at q ≡ next_of found p.call)) × ((before : Hold) (task : Task) → IsGoing (at p) before task me.0 → IsGoing (at q) before task after.0)

-- the call has come from the first of these actions to the last
abbrev pub LeadsTo : Progress → Self → Progress → Self → Type 0
LeadsTo first me last after = (before : Hold) (task : Task) → IsGoing first before task me.0 → IsGoing last before task after.0

-- the call has ended with this answer
abbrev pub EndsWith : Progress → Self → Bool → Self → Type 0
EndsWith first me answer after =
    (before : Hold) (task : Task) → IsGoing first before task me.0 → (call : WordCall) × IsGoing (call, End answer) before task after.0

-- the call is late only if its wait has an end
abbrev pub IsInTime : Bool → WordCall → Type 0
IsInTime has_end call = call.late ≡ true → has_end ≡ true

-- the call goes on with the answer of its sleep, which calls it late only if its wait has an end
abbrev pub HasRested : Bool → Pending → Pending → Type 0
HasRested has_end p q = (found : ℕ) × (at q ≡ next_of found p.call) × (found ≡ 1 → has_end ≡ true)

-- if the call was refused, then after its deadline, so its wait has an end
abbrev pub IsRefusedLate : Bool → Progress → Self → Result Ending Ending → Type 0
IsRefusedLate has_end first me r =
    IfErr r (λ (end : Ending). (before : Hold) (wish : ExWant) → IsGoing first before (to_acquire wish) me.0 → TimesOut me.0.readers end × (has_end ≡ true))

-- a try after its load: it asks for an exchange, or has ended, or owes the wake-up of a reader that took the turn
pub record IsTrying (next : Progress) : Type 0 where
  pub tries : next.0.blocks ≡ false
  pub stage : (next.0.stage ≡ stage.Try) ⊎ ((next.0.stage ≡ stage.Acquired) ⊎ ((next.0.stage ≡ stage.Refused) ⊎ (next.0.stage ≡ stage.WakeAcquired)))

abbrev pub says_yes : Action → Bool
says_yes (End b) = b
says_yes other = false

-- a try asks for an exchange, or ends, but for its wake-up
abbrev pub is_tried : Action → Bool
is_tried (Exchange x y) = true
is_tried (End b) = true
is_tried other = false

abbrev pub is_exchange : Action → Bool
is_exchange (Exchange x y) = true
is_exchange other = false

-- a try that asks for no exchange has made the wake-up that it owed, if it owed one
abbrev pub HasWoken : Pending → Pending → Type 0
HasWoken p q =
    (before : Hold) (task : Task) (v : OneView) → IsGoing (at p) before task v → IsTrying (at p) → is_exchange p.action ≡ false
    → IsGoing (at q) before task v × IsTrying (at q) × (is_tried q.action ≡ true) × (is_exchange q.action ≡ false)

-- the try has acquired, or it has changed nothing
abbrev pub Tried : Progress → Bool → Self → Self → Type 0
Tried first acquired me after =
    (before : Hold) (wish : ExWant) → before.announced ≡ false → IsTrue (is_awaited wish) → IsGoing first before (to_acquire wish) me.0
    → after.0.held ≡ (if acquired then hold_after before (step_of_want wish) else before)

-- the try has ended as its answer says
abbrev pub TriesEnd : Progress → Self → Result Ending Ending → Type 0
TriesEnd first me r =
    (before : Hold) (wish : ExWant) → IsGoing first before (to_acquire wish) me.0 → MatchResult r (IsTry me.0.readers wish true) (IsTry me.0.readers wish false)

-- the party releases
abbrev pub IsReleasing : Progress → Self → Type 0
IsReleasing next me = (before : Hold) × (d : Down) × IsGoing next before (to_release d) me.0

-- the release has ended
abbrev pub EndsRelease : Progress → Self → Self → Type 0
EndsRelease first me after = (before : Hold) (d : Down) → IsGoing first before (to_release d) me.0 → after.0.held ≡ hold_after before (step_of_down d)

-- how many actions of a release are left at most: its load, exchanges, subtraction and wake-up
abbrev pub rank_at : Stage → ℕ → ℕ
rank_at stage.LookToRemove failed = 12
rank_at stage.Release failed = 3 + (8 - failed)
rank_at stage.Subtract failed = 2
rank_at stage.Wake failed = 1
rank_at other failed = 0

abbrev pub rank : WordCall → ℕ
rank call = rank_at call.stage call.pauses
