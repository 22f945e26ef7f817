-- What contracts see of a call.
use Rattle.std.specs.Prelude.{◌≡◌, ℕ, Option, None, if◌then◌else◌}
use Rattle.atomic_table.specs.Seated.{TableId}
use Rattle.lock_events.specs.declared.call.EventCall.{EventCall}
use Rattle.lock_events.specs.declared.stage.EventStage.{EventStage}
use Rattle.lock_events.specs.declared.stage.EventStage.TheVariants.{Unlock}
use Rattle.lock_events.specs.Words.{last_epoch}
use Rattle.lock_wake.specs.declared.owed_wake.OwedWake.{OwedWake}
use Rattle.lock_wake.specs.declared.owed_wake.Whom.TheVariants.{One, All}
use Rattle.lock_wake.specs.OwedWakes.{owed}
pub use Rattle.lock_wake.specs.EventSeals.{Ended, Asleep, Keeper}

-- a call: its event count, its number in the order in which calls began, and the call as the machine has it
pub record EventCallView : Type 0 where
  pub events : TableId
  pub number : ℕ
  pub call : EventCall

-- the wake-up that a notification owes, at the word
abbrev pub owed_by : EventCall → OwedWake
owed_by call = owed 0 (if call.all then All else One)

-- the epoch in which a wait sleeps. One that has found no room yields, as in the last epoch
abbrev pub watched_at : EventStage → ℕ → ℕ
watched_at Unlock epoch = epoch
watched_at other epoch = last_epoch

module _ {T : Type 0} where
  -- the wait of this number registered while the lock was held
  abbrev pub HasKept : TableId → T → ℕ → Type 0
  HasKept events held number =
      (keeper : Keeper T) × (keeper.token ≡ held) × (keeper.events ≡ events) × (number ≡ keeper.number)

  -- the wait registered while the lock was held, and then slept
  abbrev pub HasSlept : TableId → T → Option ℕ → Asleep → Type 0
  HasSlept events held deadline wait = HasKept events held wait.number × (wait.events ≡ events) × (wait.deadline ≡ deadline)

  -- a wait without a deadline registered while the lock was held, and then slept
  abbrev pub Waited : TableId → T → Type 0
  Waited events held = (wait : Asleep) × HasSlept events held None wait
