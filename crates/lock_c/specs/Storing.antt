-- The steps on the number that a lock of 32 bits stores are the steps of the machine on its word.
use Rattle.std.specs.Prelude.{◌≡◌, ℕ, ◌+◌, ◌-◌, ◌%◌, ◌^◌, ◌<◌, ◌==◌, Bool, true, false, if◌then◌else◌, List, slice_get, Some, IsTrue}
use Rattle.lock_modes.specs.Limits.{IsLimit}
use Rattle.lock_modes.specs.declared.hold.Hold.{Hold}
use Rattle.lock_word.specs.declared.down.Down.{Down}
use Rattle.lock_one.specs.declared.action.Action.{Action}
use Rattle.lock_one.specs.declared.action.Action.TheVariants as one
use Rattle.lock_one.specs.declared.call.WordCall.{WordCall}
use Rattle.lock_one.specs.declared.sleep_view.WordLimits.{WordLimits}
use Rattle.lock_one.specs.declared.sleep_view.SleepView.{SleepView}
use Rattle.lock_one.specs.declared.stage.Stage.TheVariants as stage
use Rattle.lock_one.specs.Machine.{taking}
use Rattle.lock_one.specs.Steps.{made, limits_of, hold_at, is_step, IsAt, Keeps}
use Rattle.lock_one.specs.Stored.{stored_of, word_of_stored}
use Rattle.lock_c.specs.declared.codes.Code.TheVariants as code
use Rattle.lock_c.specs.declared.LockStep.{LockStep}
use Rattle.lock_c.specs.Codes.{number_of_code}
use Rattle.lock_c.specs.Packed.{step_of}

-- the stored number after a step, as the driver makes it. A subtraction wraps at 32 bits
abbrev pub stored_after : LockStep → ℕ → ℕ
stored_after s m =
    if s.action == number_of_code code.Exchange then if m == s.first then s.second else m
    else if s.action == number_of_code code.Subtract then (m + (2 ^ 32 - s.first)) % 2 ^ 32
    else m

abbrev pub is_exchange : Action → Bool
is_exchange one.Load = false
is_exchange (one.Exchange a b) = true
is_exchange (one.Subtract d) = false
is_exchange (one.Sleep n c b) = false
is_exchange one.WakeOne = false
is_exchange one.WakeAll = false
is_exchange one.WakeNext = false
is_exchange one.WakeTurn = false
is_exchange (one.Spin n) = false
is_exchange one.Yield = false
is_exchange (one.End b) = false

-- the lock has this word, and is for fewer than 2^27 readers
pub record InHalf (limits : WordLimits) (word : ℕ) (views : List SleepView) : Type 0 where
  pub limit : IsLimit limits.readers
  pub few : limits.readers < 2 ^ 27
  pub keeps : Keeps limits word views

-- THE LAW: the lock stores each word in 32 bits. A step on the number makes of it what the action makes of the word, and the
-- answer is read back as the word. So 32 bits cut no number of an action
pub record StoringKeepsSteps : Type 0 where
  pub fits : (limits : WordLimits) (word : ℕ) (views : List SleepView) → InHalf limits word views
      → (stored_of word < 2 ^ 32) × (word_of_stored (stored_of word) ≡ word)
  -- an exchange of a word that the call found earlier; since then, the other parties may have moved
  pub makes : (call : WordCall) (v : SleepView) (action : Action) (before : Hold) (earlier now : List SleepView) (k word : ℕ)
      → IsAt call.stage call v action → v.held ≡ hold_at call.stage call before → is_step call.stage ≡ true
      → (IsTrue (is_exchange action) → InHalf (limits_of call) call.loaded earlier × (slice_get earlier k ≡ Some v))
      → InHalf (limits_of call) word now → slice_get now k ≡ Some v
      → stored_after (step_of action) (stored_of word) ≡ stored_of (made action word)
  -- a release begins with an exchange of a word that no call has found
  pub begins : (readers word : ℕ) (down : Down) → word < 2 ^ 37 → stored_of word < 2 ^ 32
      → stored_after (step_of (taking readers down).1) (stored_of word) ≡ stored_of (made (taking readers down).1 word)
  -- a sleep compares the number as the machine compares the word
  pub sleeps : (call : WordCall) (v : SleepView) (action : Action) (earlier now : List SleepView) (word : ℕ) → IsAt stage.Sleep call v action
      → InHalf (limits_of call) call.loaded earlier → InHalf (limits_of call) word now
      → (stored_of word == (step_of action).first) ≡ (word == call.loaded)
