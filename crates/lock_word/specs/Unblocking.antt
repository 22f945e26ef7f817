-- Which waiters a step unblocks.
use Rattle.std.specs.Prelude.{ℕ, Bool, true, false, not, ◌&&◌, ◌||◌}
use Rattle.lock_modes.specs.declared.mode.Mode.{Mode}
use Rattle.lock_modes.specs.declared.mode.Mode.TheVariants.{Shared, Exclusive, Upgradable}
use Rattle.lock_modes.specs.declared.mode_step.ModeStep.TheVariants.{Change}
use Rattle.lock_modes.specs.declared.bag.Bag.{Bag}
use Rattle.lock_modes.specs.Modes.{admits, may_become}
use Rattle.lock_modes.specs.ModeRuns.{has}
use Rattle.lock_modes.specs.Bar.{passes_bar}
use Rattle.lock_word.specs.declared.occupancy.Occupancy.{Occupancy}
use Rattle.lock_word.specs.declared.want.ExWant.{ExWant}
use Rattle.lock_word.specs.declared.want.ExWant.TheVariants as want
use Rattle.lock_word.specs.BarredBags.{is_barred}
use Rattle.lock_word.specs.Word.{bag_of_word, barred_bag_of_word}

-- these modes, with the bar or without it
abbrev pub occupancy : Bool → Bag → Occupancy
occupancy bar b = record { bag = b; barred = bar }

-- those that the word encodes
abbrev pub occupancy_of_word : ℕ → Occupancy
occupancy_of_word word = occupancy (is_barred (barred_bag_of_word word)) (bag_of_word word)

-- what a waiter may wait for: every exchange but an announcement
abbrev pub is_awaited : ExWant → Bool
is_awaited want.Shared = true
is_awaited want.Exclusive = true
is_awaited want.Upgradable = true
is_awaited want.Upgrade = true
is_awaited want.Announce = false

-- a waiter for the mode may proceed: under the bar only the writer that set it
abbrev pub may_proceed : ℕ → Occupancy → Mode → Bool
may_proceed limit now mode = passes_bar now.barred true mode && admits limit now.bag mode

-- an upgradable token is held that may become exclusive
abbrev pub may_upgrade : Occupancy → Bool
may_upgrade now = has now.bag (Change Upgradable Exclusive) && may_become now.bag Exclusive

-- a waiter for the mode may proceed after the step that could not before it
abbrev pub newly_may_proceed : ℕ → Occupancy → Occupancy → Mode → Bool
newly_may_proceed limit before after mode = not (may_proceed limit before mode) && may_proceed limit after mode

-- some waiter may
abbrev pub unblocks : ℕ → Occupancy → Occupancy → Bool
unblocks limit before after =
    newly_may_proceed limit before after Shared
    || (newly_may_proceed limit before after Exclusive
    || (newly_may_proceed limit before after Upgradable
    || (not (may_upgrade before) && may_upgrade after)))

-- whether the change from one word to the other unblocks some waiter
abbrev pub word_unblocks : ℕ → ℕ → ℕ → Bool
word_unblocks limit before after = unblocks limit (occupancy_of_word before) (occupancy_of_word after)
