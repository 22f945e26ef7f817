-- What the calls of a condition variable over an event count made. Only the calls of an event count make these values: each
-- has a private field.
use Rattle.std.specs.Prelude.{◌≡◌, ◌<◌, ℕ, Bool, true, false, Some, IsTrue, ◌↔◌}
use Rattle.std.specs.Time.{instant_nanos}
use Rattle.std.specs.declared.time.Instant.{Instant}
use Rattle.atomic_table.specs.Seated.{TableId}
use Rattle.lock_wake.specs.EventCalls.{Ended, Asleep, HasSlept}
pub use Rattle.lock_wake.specs.EventCalls.{Waited}

-- the answer is whether the deadline had passed after the sleep
abbrev pub WaitedUntil : {T : Type 0} → TableId → T → Instant → Bool → Type 0
WaitedUntil events token deadline timed_out =
    (wait : Asleep) × (timed_out ≡ wait.timed_out) × HasSlept events token (Some (instant_nanos deadline)) wait

-- a notification of one has ended, and the answer is whether it found a wait
abbrev pub NotifiedOne : TableId → Bool → Type 0
NotifiedOne events woke =
    (ended : Ended) × (ended.events ≡ events) × (ended.all ≡ false) × (IsTrue woke ↔ (0 < ended.waits))

-- a notification of all has ended, and the answer is how many waits it found
abbrev pub NotifiedAll : TableId → ℕ → Type 0
NotifiedAll events count = (ended : Ended) × (ended.events ≡ events) × (ended.all ≡ true) × (count ≡ ended.waits)
