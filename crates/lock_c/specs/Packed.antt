-- A call and a step as C has them.
use Rattle.std.specs.Prelude.{◌≡◌, ℕ, ◌%◌, ◌^◌, min, if◌then◌else◌}
use Rattle.lock_word.specs.declared.want.ExWant.{ExWant}
use Rattle.lock_word.specs.declared.down.Down.{Down}
use Rattle.lock_one.specs.declared.action.Action.{Action}
use Rattle.lock_one.specs.declared.action.Action.TheVariants as one
use Rattle.lock_one.specs.declared.action.Sleeper.{Sleeper}
use Rattle.lock_one.specs.declared.action.Sleeper.TheVariants as sleeper
use Rattle.lock_one.specs.declared.call.WordCall.{WordCall}
use Rattle.lock_one.specs.Stored.{stored_of, stored_amount}
use Rattle.lock_events.specs.declared.action.EventAction.{EventAction}
use Rattle.lock_events.specs.declared.action.EventAction.TheVariants as event
use Rattle.lock_events.specs.declared.call.EventCall.{EventCall}
use Rattle.lock_c.specs.declared.codes.Code.{Code}
use Rattle.lock_c.specs.declared.codes.Code.TheVariants as code
use Rattle.lock_c.specs.declared.LockCall.{LockCall}
use Rattle.lock_c.specs.declared.LockEventCall.{LockEventCall}
use Rattle.lock_c.specs.declared.LockEventStep.{LockEventStep}
use Rattle.lock_c.specs.declared.LockStep.{LockStep}
use Rattle.lock_c.specs.Codes.{number_of_code, number_of_want, want_of, number_of_down, down_of, bit, is_set, number_of_stage, stage_of, number_of_event_stage, event_stage_of}

-- what a program asks for, and not how a waiter sets or clears its bar
abbrev pub asked_want : ℕ → ExWant
asked_want n = want_of (min n 3)

abbrev pub asked_down : ℕ → Down
asked_down n = down_of (min n 5)

abbrev pub packed : WordCall → LockCall
packed call = record {
  readers = call.readers;
  loaded = call.loaded;
  left = call.left;
  stage = number_of_stage call.stage;
  want = number_of_want call.want;
  down = number_of_down call.down;
  pauses = call.pauses;
  blocks = bit call.blocks;
  announces = bit call.announces;
  announced = bit call.announced;
  late = bit call.late;
  sleeps = call.sleeps;
  turned = bit call.turned;
}

abbrev pub unpacked : LockCall → WordCall
unpacked c = record {
  readers = c.readers;
  stage = stage_of c.stage;
  want = want_of c.want;
  down = down_of c.down;
  blocks = is_set c.blocks;
  announces = is_set c.announces;
  announced = is_set c.announced;
  turned = is_set c.turned;
  late = is_set c.late;
  sleeps = c.sleeps;
  pauses = c.pauses;
  loaded = c.loaded;
  left = c.left;
}

abbrev pub packed_event : EventCall → LockEventCall
packed_event call = record {
  loaded = call.loaded;
  epoch = call.epoch;
  stage = number_of_event_stage call.stage;
  lost = call.lost;
  all = bit call.all;
  late = bit call.late;
}

abbrev pub unpacked_event : LockEventCall → EventCall
unpacked_event c = record { stage = event_stage_of c.stage; all = is_set c.all; late = is_set c.late; lost = c.lost; loaded = c.loaded; epoch = c.epoch }

abbrev pub step : Code → ℕ → ℕ → ℕ → LockStep
step kind place first second = record { action = number_of_code kind; place = place; first = first; second = second }

-- the number that a lock of 32 bits stores for the word
abbrev pub half_of : ℕ → ℕ
half_of word = stored_of word % 2 ^ 32

-- the step of a sleeper of this class
abbrev pub code_of : Sleeper → Code
code_of sleeper.Next = code.SleepNext
code_of sleeper.Reader = code.SleepReader
code_of sleeper.Other = code.Sleep

abbrev pub step_of : Action → LockStep
step_of one.Load = step code.Load 0 0 0
step_of (one.Exchange a b) = step code.Exchange 0 (half_of a) (half_of b)
step_of (one.Subtract d) = step code.Subtract 0 (stored_amount (2 ^ 32) d) 0
step_of (one.Sleep n class brief) = step (code_of class) 0 (half_of n) (bit brief)
step_of one.WakeOne = step code.WakeOne 0 0 0
step_of one.WakeAll = step code.WakeAll 0 0 0
step_of one.WakeNext = step code.WakeNext 0 0 0
step_of one.WakeTurn = step code.WakeTurn 0 0 0
step_of (one.Spin n) = step code.Spin 0 n 0
step_of one.Yield = step code.Yield 0 0 0
step_of (one.End b) = step (if b then code.Done else code.Refused) 0 0 0

abbrev pub event_step : Code → ℕ → ℕ → LockEventStep
event_step kind first second = record { action = number_of_code kind; first = first; second = second }

abbrev pub step_of_event : EventAction → LockEventStep
step_of_event event.Load = event_step code.Load 0 0
step_of_event (event.Exchange a b) = event_step code.Exchange a b
step_of_event (event.Subtract a) = event_step code.Subtract a 0
step_of_event (event.Or a) = event_step code.Or a 0
step_of_event (event.Park e) = event_step code.Sleep e 0
step_of_event event.WakeOne = event_step code.WakeOne 0 0
step_of_event event.WakeAll = event_step code.WakeAll 0 0
step_of_event event.Yield = event_step code.Yield 0 0
step_of_event event.Unlock = event_step code.Unlock 0 0
step_of_event event.Lock = event_step code.Lock 0 0
step_of_event (event.End b) = event_step (if b then code.Done else code.Refused) 0 0

-- a call that is packed for C and unpacked again is the same
abbrev pub PackingKeepsCalls : Type 0
PackingKeepsCalls = (call : WordCall) → unpacked (packed call) ≡ call

-- so is a wait or a notification
abbrev pub PackingKeepsEvents : Type 0
PackingKeepsEvents = (call : EventCall) → unpacked_event (packed_event call) ≡ call
