-- What a party learns by each kind of step on the word.
use Rattle.std.specs.Prelude.{◌≡◌, ℕ, ◌-◌, ◌^◌, ◌<◌, ◌==◌, true, if◌then◌else◌}
use Rattle.atomic_table.specs.Table.{Step}
use Rattle.lock_modes.specs.declared.hold.Hold.{Hold}
use Rattle.lock_word.specs.declared.down.Down.{Down}
use Rattle.lock_word.specs.declared.down.Down.TheVariants as down
use Rattle.lock_word.specs.Rule.{WordShows}
use Rattle.lock_one.specs.declared.action.Action.{Action}
use Rattle.lock_one.specs.declared.action.Action.TheVariants.{Load, Exchange, Subtract}
use Rattle.lock_one.specs.declared.call.WordCall.{WordCall}
use Rattle.lock_one.specs.Machine.{core_of, next_of}
use Rattle.lock_one.specs.Steps.{is_step}
use Rattle.lock_one.specs.Stored.{word_of_stored}
use Rattle.lock_one_word.specs.Seats.{Self, Task, IsGoing}

-- each call of the party that asks for this action goes on with what the step found, as the machine does
abbrev pub Agrees : Action → Self → ℕ → Self → Type 0
Agrees a me found after =
    (after.1 ≡ me.1) × (after.0.readers ≡ me.0.readers)
    × ((call : WordCall) (before : Hold) (task : Task) → is_step call.stage ≡ true → IsGoing (call, a) before task me.0 → IsGoing (next_of (word_of_stored found) call) before task after.0)

abbrev pub Loads : Step (Unit {0}) → Self → ℕ → Self → Type 0
Loads s me found after =
    (after ≡ me) × (found < 2 ^ 37) × WordShows me.0.readers (core_of (word_of_stored found)) me.0.held × Agrees Load me found after

abbrev pub Exchanges : Step (Unit {0}) → Self → ℕ → Self → Type 0
Exchanges s me found after = Agrees (Exchange (word_of_stored s.first) (word_of_stored s.second)) me found after

-- the release that subtracts this number from the stored word
abbrev pub down_of_amount : ℕ → Down
down_of_amount n =
    if n == 32 then down.Shared else if n == 2 then down.Exclusive else if n == 33 then down.Upgradable else if n == 1 then down.UpgradableToShared
    else if n == 4 then down.Withdraw else if n == 2 ^ 64 - 30 then down.ToShared else down.ToUpgradable

abbrev pub Subtracts : Step (Unit {0}) → Self → ℕ → Self → Type 0
Subtracts s me found after = Agrees (Subtract (down_of_amount s.first)) me found after

-- the same, of the word in place of the stored number
abbrev pub Goes : Action → Self → ℕ → Self → Type 0
Goes a me word after =
    (call : WordCall) (before : Hold) (task : Task) → is_step call.stage ≡ true → IsGoing (call, a) before task me.0 → IsGoing (next_of word call) before task after.0
