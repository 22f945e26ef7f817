-- What the answer of a call means, and the first steps of an uncontended call.
use Rattle.std.specs.Prelude.{◌≡◌, ◌≢◌, ℕ, ◌-◌, ◌<◌, Bool, true, false, ◌⊎◌, ⊤}
use Rattle.lock_modes.specs.declared.hold.Hold.{Hold}
use Rattle.lock_modes.specs.Holds.{hold_after}
use Rattle.lock_word.specs.declared.want.ExWant.{ExWant}
use Rattle.lock_word.specs.declared.down.Down.{Down}
use Rattle.lock_word.specs.Word.{word_admits, word_after, amount, step_of_want, step_of_down}
use Rattle.lock_one.specs.declared.action.Action.TheVariants.{Load, Exchange, Subtract, End}
use Rattle.lock_one.specs.declared.call.WordCall.{WordCall}
use Rattle.lock_one.specs.declared.stage.Stage.{Stage}
use Rattle.lock_one.specs.declared.stage.Stage.TheVariants as stage
use Rattle.lock_one.specs.declared.sleep_view.SleepView.{SleepView}
use Rattle.lock_one.specs.Machine.{turn, sleepers, admits_word, acquiring, removes_reader, alone, taking, next_of}
use Rattle.lock_one.specs.Steps.{IsAt, hold_at}

-- whether a call at this stage releases. One that acquires is at none of these stages up to its end
abbrev pub releases_at : Stage → Bool
releases_at stage.LookToRemove = true
releases_at stage.Subtract = true
releases_at stage.Release = true
releases_at stage.Wake = true
releases_at stage.Ended = true
releases_at acquiring = false

-- THE LAW OF ANSWERS
pub record AnswersMatchHolds : Type 0 where
  -- a refused call has changed nothing that its party holds, and has left no bar
  pub refused_holds_as_before : (call : WordCall) (v : SleepView) (before : Hold) → before.announced ≡ false
      → IsAt call.stage call v (End false) → v.held ≡ hold_at call.stage call before → v.held ≡ before
  -- a call that acquires, and was not refused, holds what it wanted
  pub acquired_has_taken : (call : WordCall) (v : SleepView) (before : Hold) → releases_at call.stage ≡ false → IsAt call.stage call v (End true)
      → v.held ≡ hold_at call.stage call before → v.held ≡ hold_after (record before { announced = call.announced }) (step_of_want call.want)
  -- one that releases has given its down
  pub released_has_given : (call : WordCall) (v : SleepView) (before : Hold) → releases_at call.stage ≡ true → IsAt call.stage call v (End true)
      → v.held ≡ hold_at call.stage call before → v.held ≡ hold_after before (step_of_down call.down)
  -- a call acquires or releases from its begin to its end
  pub acquires : (readers : ℕ) (wish : ExWant) (blocks announces : Bool) → releases_at (acquiring readers wish blocks announces).0.stage ≡ false
  pub releases : (readers : ℕ) (down : Down) → releases_at (taking readers down).0.stage ≡ true
  pub goes_on : (found : ℕ) (call : WordCall) → call.stage ≢ stage.Acquired → call.stage ≢ stage.Refused
      → releases_at (next_of found call).0.stage ≡ releases_at call.stage
  -- a try is refused only by a word that refuses it
  pub word_refuses : (call : WordCall) (found : ℕ) → (call.stage ≡ stage.Look) ⊎ (call.stage ≡ stage.Try)
      → (next_of found call).1 ≡ End false → admits_word call.announced call.readers found call.want ≡ false

-- the call blocks, and its deadline has passed
abbrev pub IsLate : WordCall → Type 0
IsLate call = (call.blocks ≡ true) × (call.late ≡ true)

-- what must hold at a stage that leads to a refusal: the loaded word refuses a try, and the deadline of a call that blocks has passed
abbrev pub CauseAt : Stage → WordCall → Type 0
CauseAt stage.Mark call = call.blocks ≡ true
CauseAt stage.Withdraw call = IsLate call
CauseAt stage.Leave call = IsLate call
CauseAt stage.WakeRefused call = IsLate call
CauseAt stage.Refused call = ((call.blocks ≡ false) × (admits_word false call.readers call.loaded call.want ≡ false)) ⊎ IsLate call
CauseAt other call = ⊤

pub record HasCause (call : WordCall) : Type 0 where
  pub unannounced : call.blocks ≡ false → (call.announced ≡ false) × (call.turned ≡ false)
  pub cause : CauseAt call.stage call

-- THE LAW OF REFUSALS: whatever its steps are answered, a try is refused by a word alone, and a call that blocks by its deadline alone
pub record RefusalsHaveCauses : Type 0 where
  pub acquires : (readers : ℕ) (wish : ExWant) (blocks announces : Bool) → HasCause (acquiring readers wish blocks announces).0
  pub releases : (readers : ℕ) (down : Down) → HasCause (taking readers down).0
  pub goes_on : (found : ℕ) (call : WordCall) → HasCause call → HasCause (next_of found call).0
  -- a call begins in time, and is late only after its sleep was answered so
  pub begins_in_time : (readers : ℕ) (wish : ExWant) (blocks announces : Bool) → (acquiring readers wish blocks announces).0.late ≡ false
  pub late : (found : ℕ) (call : WordCall) → (next_of found call).0.late ≡ true → (call.late ≡ true) ⊎ ((call.stage ≡ stage.Sleep) × (found ≡ 1))

-- THE LAW OF FIRST STEPS: on a word without T and S that admits it, a call makes this exchange, and has acquired after it. A release of
-- a holder that is alone makes this exchange, and one of a reader among words without S a subtraction, and has ended after it
pub record FirstSteps : Type 0 where
  pub acquires : (readers word : ℕ) (wish : ExWant) (blocks announces : Bool) → word < turn
      → word_admits false readers word wish ≡ true
      → (next_of word (acquiring readers wish blocks announces).0).1 ≡ Exchange word (word_after word wish)
  pub acquired : (readers word : ℕ) (wish : ExWant) (blocks announces : Bool) → word < turn
      → word_admits false readers word wish ≡ true
      → (next_of word (next_of word (acquiring readers wish blocks announces).0).0).1 ≡ End true
  pub releases : (readers : ℕ) (down : Down) → removes_reader readers down ≡ false
      → (taking readers down).1 ≡ Exchange (alone down) (alone down - amount down)
  pub released : (readers : ℕ) (down : Down) → removes_reader readers down ≡ false
      → (next_of (alone down) (taking readers down).0).1 ≡ End true
  pub looks : (readers : ℕ) (down : Down) → removes_reader readers down ≡ true → (taking readers down).1 ≡ Load
  pub removes : (readers word : ℕ) (down : Down) → removes_reader readers down ≡ true → word < sleepers
      → (next_of word (taking readers down).0).1 ≡ Subtract down
  pub removed : (readers word found : ℕ) (down : Down) → removes_reader readers down ≡ true → word < sleepers → found < sleepers
      → (next_of found (next_of word (taking readers down).0).0).1 ≡ End true
