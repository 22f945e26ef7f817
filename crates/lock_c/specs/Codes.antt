-- The numbers that C and the machines have for the same things.
use Rattle.std.specs.Prelude.{ℕ, Bool, not, ◌==◌, if◌then◌else◌}
use Rattle.lock_word.specs.declared.want.ExWant.{ExWant}
use Rattle.lock_word.specs.declared.want.ExWant.TheVariants as want
use Rattle.lock_word.specs.declared.down.Down.{Down}
use Rattle.lock_word.specs.declared.down.Down.TheVariants as down
use Rattle.lock_one.specs.declared.stage.Stage.{Stage}
use Rattle.lock_one.specs.declared.stage.Stage.TheVariants as stage
use Rattle.lock_events.specs.declared.stage.EventStage.{EventStage}
use Rattle.lock_events.specs.declared.stage.EventStage.TheVariants as event
use Rattle.lock_c.specs.declared.codes.Code.{Code}
use Rattle.lock_c.specs.declared.codes.Code.TheVariants as code

abbrev pub number_of_code : Code → ℕ
number_of_code code.Load = 0
number_of_code code.Exchange = 1
number_of_code code.Subtract = 2
number_of_code code.Or = 3
number_of_code code.Sleep = 4
number_of_code code.SleepNext = 5
number_of_code code.WakeOne = 6
number_of_code code.WakeAll = 7
number_of_code code.WakeNext = 8
number_of_code code.Spin = 9
number_of_code code.Yield = 10
number_of_code code.Refused = 11
number_of_code code.Done = 12
number_of_code code.Unlock = 13
number_of_code code.Lock = 14
number_of_code code.SleepReader = 15
number_of_code code.WakeTurn = 16

abbrev pub number_of_want : ExWant → ℕ
number_of_want want.Shared = 0
number_of_want want.Exclusive = 1
number_of_want want.Upgradable = 2
number_of_want want.Upgrade = 3
number_of_want want.Announce = 4

abbrev pub want_of : ℕ → ExWant
want_of n =
    if n == 0 then want.Shared else if n == 1 then want.Exclusive else if n == 2 then want.Upgradable else if n == 3 then want.Upgrade else want.Announce

abbrev pub number_of_down : Down → ℕ
number_of_down down.Shared = 0
number_of_down down.Exclusive = 1
number_of_down down.Upgradable = 2
number_of_down down.ToShared = 3
number_of_down down.ToUpgradable = 4
number_of_down down.UpgradableToShared = 5
number_of_down down.Withdraw = 6

abbrev pub down_of : ℕ → Down
down_of n =
    if n == 0 then down.Shared else if n == 1 then down.Exclusive else if n == 2 then down.Upgradable else if n == 3 then down.ToShared else
    if n == 4 then down.ToUpgradable else if n == 5 then down.UpgradableToShared else down.Withdraw

abbrev pub bit : Bool → ℕ
bit answer = if answer then 1 else 0

abbrev pub is_set : ℕ → Bool
is_set n = not (n == 0)

abbrev pub number_of_stage : Stage → ℕ
number_of_stage stage.Look = 0
number_of_stage stage.Try = 1
number_of_stage stage.Pause = 2
number_of_stage stage.Mark = 3
number_of_stage stage.Sleep = 4
number_of_stage stage.Withdraw = 5
number_of_stage stage.Leave = 6
number_of_stage stage.LookToRemove = 7
number_of_stage stage.Subtract = 8
number_of_stage stage.Release = 9
number_of_stage stage.Wake = 10
number_of_stage stage.WakeRefused = 11
number_of_stage stage.Acquired = 12
number_of_stage stage.Refused = 13
number_of_stage stage.Ended = 14
number_of_stage stage.WakeAcquired = 15

abbrev pub stage_of : ℕ → Stage
stage_of n =
    if n == 0 then stage.Look else if n == 1 then stage.Try else if n == 2 then stage.Pause else if n == 3 then stage.Mark else
    if n == 4 then stage.Sleep else if n == 5 then stage.Withdraw else if n == 6 then stage.Leave else if n == 7 then stage.LookToRemove else
    if n == 8 then stage.Subtract else if n == 9 then stage.Release else if n == 10 then stage.Wake else if n == 11 then stage.WakeRefused else
    if n == 12 then stage.Acquired else if n == 13 then stage.Refused else if n == 14 then stage.Ended else stage.WakeAcquired

abbrev pub number_of_event_stage : EventStage → ℕ
number_of_event_stage event.Look = 0
number_of_event_stage event.CountIn = 1
number_of_event_stage event.Unlock = 2
number_of_event_stage event.Sleep = 3
number_of_event_stage event.Leave = 4
number_of_event_stage event.UnlockAway = 5
number_of_event_stage event.YieldAway = 6
number_of_event_stage event.Lock = 7
number_of_event_stage event.Waited = 8
number_of_event_stage event.FindWaits = 9
number_of_event_stage event.EndEpoch = 10
number_of_event_stage event.EndAllEpochs = 11
number_of_event_stage event.Wake = 12
number_of_event_stage event.Notified = 13
number_of_event_stage event.Skipped = 14

abbrev pub event_stage_of : ℕ → EventStage
event_stage_of n =
    if n == 0 then event.Look else if n == 1 then event.CountIn else if n == 2 then event.Unlock else if n == 3 then event.Sleep else
    if n == 4 then event.Leave else if n == 5 then event.UnlockAway else if n == 6 then event.YieldAway else if n == 7 then event.Lock else
    if n == 8 then event.Waited else if n == 9 then event.FindWaits else if n == 10 then event.EndEpoch else if n == 11 then event.EndAllEpochs else
    if n == 12 then event.Wake else if n == 13 then event.Notified else event.Skipped
