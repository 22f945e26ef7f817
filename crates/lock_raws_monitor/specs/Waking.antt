-- Which waiters a step wakes.
use Rattle.std.specs.Prelude.{◌≡◌, ℕ, Bool, true, false, not, ◌&&◌, ◌==◌, if◌then◌else◌, Option, ⊤, IsSomeAnd}
use Rattle.atomic_table.specs.Seated.{TableId}
use Rattle.lock_modes.specs.declared.bag.Bag.{Bag}
use Rattle.lock_word.specs.declared.occupancy.Occupancy.{Occupancy}
use Rattle.lock_word.specs.Unblocking.{occupancy, unblocks}
use Rattle.lock_wake.specs.declared.owed_wake.Whom.{Whom}
use Rattle.lock_wake.specs.declared.owed_wake.Whom.TheVariants.{Nobody, One, All}
use Rattle.lock_wake.specs.EventCalls.{Ended}

-- none if the step unblocks none; otherwise all, or one if only one token may be held. Under the bar all, since the bar
-- may keep out a single one
abbrev pub wake_decision : ℕ → Occupancy → Occupancy → Whom
wake_decision limit before after =
    if unblocks limit before after then (if not after.barred && (limit == 1) then One else All) else Nobody

-- the same of a step that keeps the bar
abbrev pub wakes : ℕ → Bool → Bag → Bag → Whom
wakes limit bar before after = wake_decision limit (occupancy bar before) (occupancy bar after)

-- the notification that makes the wake has ended: of one or of all threads at this event count
abbrev pub Wakes : TableId → Whom → Option Ended → Type 0
Wakes events Nobody made = ⊤
Wakes events One made = IsSomeAnd made (λ (ended : Ended). (ended.events ≡ events) × (ended.all ≡ false))
Wakes events All made = IsSomeAnd made (λ (ended : Ended). (ended.events ≡ events) × (ended.all ≡ true))
