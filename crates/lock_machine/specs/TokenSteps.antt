-- The tokens of the raw state behind a machine: which are held, and what each call acquires and releases.
use Rattle.std.specs.Prelude.{◌≡◌, ℕ, ◌+◌, ◌-◌, ◌^◌, Bool, not, if◌then◌else◌, List, [], ◌∷◌, ◌++◌, Option, Some, None, min}
use Rattle.lock_modes.specs.declared.mode.Mode.{Mode}
use Rattle.lock_modes.specs.declared.mode.Mode.TheVariants.{Shared, Exclusive, Upgradable}
use Rattle.lock_modes.specs.declared.mode_step.ModeStep.{ModeStep}
use Rattle.lock_modes.specs.declared.mode_step.ModeStep.TheVariants.{Acquire, Release, Change}
use Rattle.lock_modes.specs.declared.kind.Kind.{Kind}
use Rattle.lock_machine.specs.declared.call.Call.{Call}
use Rattle.lock_machine.specs.Operation.{Operation}
use Rattle.lock_modes.specs.Modes.{empty_bag, tokens}
use Rattle.lock_modes.specs.ModeRuns.{IsModeRun}
use Rattle.lock_machine.specs.Entries.{Entry, find, parked_entry}
use Rattle.lock_machine.specs.Register.{Register, tokens_of, token_limit, moves_token, bumps_token, without_guard, with_change}
use Rattle.lock_machine.specs.Machine.{Machine, start}
use Rattle.lock_machine.specs.Refusals.{mode_of}
use Rattle.lock_machine.specs.Steps.{step, after_all}
use Rattle.lock_machine.specs.Kept.{is_refusal}
use Rattle.lock_machine.specs.Sound.{IsLimitOf}

abbrev pub only_if : Bool → List ModeStep → List ModeStep
only_if b steps = if b then steps else []

-- the steps that depend on the mode of a guard
abbrev pub by_mode : Option Entry → (Mode → List ModeStep) → List ModeStep
by_mode None steps = []
by_mode (Some e) steps = steps e.mode

-- a guard that is no longer held releases its token, unless other levels share it
abbrev pub steps_back : Register → ℕ → Register → List ModeStep
steps_back r guard left = by_mode (find guard r.entries) (λ mode. only_if (moves_token left) (Release mode ∷ []))

-- the steps of a call on the raw state, if the call is done. No contract of a lock states that it makes just these
abbrev pub raw_steps : {O T : Type 0} → Machine T → Call O → List ModeStep
raw_steps m (Call.Acquire want _ party) = only_if (moves_token m.register) (Acquire (mode_of want) ∷ [])
raw_steps m (Call.Unlock party guard way) = steps_back m.register guard (without_guard m.register guard)
raw_steps m (Call.Park party guard) = steps_back m.register guard (with_change m.register guard parked_entry)
raw_steps m (Call.ParkFair party guard) = steps_back m.register guard (with_change m.register guard parked_entry)
raw_steps m (Call.Resume party guard) =
    by_mode (find guard m.entries) (λ mode. only_if (moves_token m.register) (Acquire mode ∷ []))
raw_steps m (Call.Bump party guard) =
    by_mode (find guard m.entries) (λ mode. only_if (bumps_token m.register) (Release mode ∷ Acquire mode ∷ []))
raw_steps m (Call.Upgrade _ party guard) = Change Upgradable Exclusive ∷ []
raw_steps m (Call.Downgrade party guard) = by_mode (find guard m.entries) (λ mode. Change mode Shared ∷ [])
raw_steps m (Call.DowngradeToUpgradable party guard) = Change Exclusive Upgradable ∷ []
raw_steps m (Call.WithUpgraded _ party guard op) = Change Upgradable Exclusive ∷ Change Exclusive Upgradable ∷ []
raw_steps m (Call.Abandon party guard) = []
raw_steps m (Call.Get party guard op) = []
raw_steps m (Call.Change party guard op) = []
raw_steps m Call.IsLocked = []
raw_steps m Call.IsLockedExclusive = []
raw_steps m (Call.IsOwnedBy party) = []
raw_steps m (Call.Announce party) = []
raw_steps m (Call.Withdraw party) = []
raw_steps m Call.IsBarred = []
raw_steps m Call.Spent = []

-- how many of the steps release a token
abbrev pub releases : List ModeStep → ℕ
releases [] = 0
releases (Acquire mode ∷ steps) = releases steps
releases (Release mode ∷ steps) = releases steps + 1
releases (Change from to ∷ steps) = releases steps

-- how many of the steps acquire one
abbrev pub acquisitions : List ModeStep → ℕ
acquisitions [] = 0
acquisitions (Acquire mode ∷ steps) = acquisitions steps + 1
acquisitions (Release mode ∷ steps) = acquisitions steps
acquisitions (Change from to ∷ steps) = acquisitions steps

module _ {O T A : Type 0} (meaning : O → Operation T A) where
  -- the steps of a call on the raw state: none if it is refused
  abbrev pub token_steps : Machine T → Call O → List ModeStep
  token_steps m call = only_if (not (is_refusal (step meaning m call).reply)) (raw_steps m call)

  -- the steps of a list of calls, in order
  abbrev pub all_token_steps : Machine T → List (Call O) → List ModeStep
  all_token_steps m [] = []
  all_token_steps m (call ∷ calls) = token_steps m call ++ all_token_steps (step meaning m call).machine calls

  -- the steps of every run from a new machine are a run of the modes, and end with the tokens of the held guards
  abbrev pub TokensAreThoseHeld : Type 0
  TokensAreThoseHeld =
      (kind : Kind) (value : T) (places limit : ℕ) (calls : List (Call O)) → IsLimitOf kind limit
      → IsModeRun (token_limit kind limit) empty_bag (all_token_steps (start kind value places limit) calls)
      (tokens_of (after_all meaning (start kind value places limit) calls).register)

  -- each token that a run acquired was released once or is still held
  abbrev pub TokensAreGivenBackOnce : Type 0
  TokensAreGivenBackOnce =
      (kind : Kind) (value : T) (places limit : ℕ) (calls : List (Call O)) → IsLimitOf kind limit
      → acquisitions (all_token_steps (start kind value places limit) calls)
      ≡ releases (all_token_steps (start kind value places limit) calls)
      + tokens (tokens_of (after_all meaning (start kind value places limit) calls).register)

  -- the spent count is the number of released tokens, up to the largest count
  abbrev pub SpentCountsReleases : Type 0
  SpentCountsReleases =
      (kind : Kind) (value : T) (places limit : ℕ) (calls : List (Call O))
      → (after_all meaning (start kind value places limit) calls).spent
      ≡ min (releases (all_token_steps (start kind value places limit) calls)) (2 ^ 64 - 1)
