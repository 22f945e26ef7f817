-- What each kind of step tells the user that makes it.
use Rattle.std.specs.Prelude.{◌≡◌, ◌≢◌, ◌==◌, ℕ, ◌<◌, ◌≤◌, Bool, true, false, List, [], ◌∷◌, Some, None}
use Rattle.std.specs.Prelude as std
use Rattle.atomic_table.specs.Table.{Me}
use Rattle.lock_ruled.specs.declared.rule.UserStage.TheVariants.{Free, Opens, Holds, Watches, Sleeps, Owes, OwesAt}
use Rattle.lock_ruled.specs.declared.rule.UserStage.{UserStage}
use Rattle.lock_ruled.specs.declared.rule.UserView.{UserView}
use Rattle.lock_ruled.specs.Ruled.{Meets}
use Rattle.lock_ruled.specs.SleepingUsers.{awaited, last_epoch}

-- a user's view, and the slots that it holds
abbrev pub Self : Type 0 → Type 0 → Type 0
Self T V = Me (std.Option T) (UserView T V)

abbrev pub stage_after_release : {T : Type 0} → Bool → UserStage T
stage_after_release true = Owes
stage_after_release false = Free

module _ {T V : Type 0} where
  -- the user comes to this stage
  abbrev pub at_stage : Self T V → UserStage T → Self T V
  at_stage me stage = (record me.0 { stage = stage }, me.1)

  -- the user acquired the value
  abbrev pub after_acquiring : Self T V → T → Self T V
  after_acquiring me value = (record me.0 { stage = Holds value }, (0, Some value) ∷ me.1)

  -- the user acquired some value, of which the rule holds with the user's view
  abbrev pub HasAcquired : (T → List V → Type 0) → Self T V → Self T V → Type 0
  HasAcquired rule me after = (value : T) × (after ≡ after_acquiring me value) × Meets rule value me.0.own

  -- a step that finds the mutex free acquires it, and otherwise does nothing
  abbrev pub AcquiresValue : (T → List V → Type 0) → Self T V → ℕ → Self T V → Type 0
  AcquiresValue rule me found after =
      (found ≡ 0 → HasAcquired rule me after) × (found ≢ 0 → after ≡ me)

  -- a step that finds the mutex free acquires it, and otherwise leaves the user asleep
  abbrev pub MarksAwaited : (rule : T → List V → Type 0) → Self T V → ℕ → Self T V → Type 0
  MarksAwaited rule me found after =
      (found ≡ 0 → HasAcquired rule me after)
      × (found ≢ 0 → (epoch : ℕ) → me.0.stage ≡ Watches epoch → after ≡ at_stage me (Sleeps epoch))

  -- the user acquired the first value, and the slot that it holds has the second
  abbrev pub Carries : Self T V → T → T → Type 0
  Carries me taken value = (me.0.stage ≡ Holds taken) × (me.1 ≡ (0, Some value) ∷ [])

  -- the user holds no value, and has a part
  abbrev pub IsIdle : Self T V → Type 0
  IsIdle me = (me.1 ≡ []) × (me.0.stage ≡ Free) × (0 < me.0.parts)

  -- the user released this value, its view is updated, and it is due if the mutex was awaited
  abbrev pub after_releasing : (T → V → T → V) → Self T V → T → T → Bool → Self T V
  after_releasing next me taken value was_awaited =
      (record me.0 { own = next taken me.0.own value; stage = stage_after_release was_awaited }, [])

  abbrev pub ReleasesValue : (T → V → T → V) → Self T V → ℕ → Self T V → Type 0
  ReleasesValue next me found after =
      (taken value : T) → Carries me taken value → after ≡ after_releasing next me taken value (found == awaited)

  -- the maker of the mutex holds the empty slot, as if it had acquired the first value from it
  abbrev pub OpensMutex : Self T V → ℕ → Self T V → Type 0
  OpensMutex me found after =
      (value : T) → me.0.stage ≡ Opens value → after ≡ (record me.0 { stage = Holds value }, (0, None) ∷ me.1)

  -- on the epoch: a user that is to be blocked loads it
  abbrev pub WatchesEpoch : Self T V → ℕ → Self T V → Type 0
  WatchesEpoch me found after = after ≡ at_stage me (Watches found)

  -- a user that slept sleeps no longer
  abbrev pub Leaves : Self T V → ℕ → Self T V → Type 0
  Leaves me found after = after ≡ at_stage me Free

  -- a due user loads it
  abbrev pub NotesEpoch : Self T V → ℕ → Self T V → Type 0
  NotesEpoch me found after =
      (found < last_epoch → after ≡ at_stage me (OwesAt found)) × (last_epoch ≤ found → after ≡ at_stage me Free)

  -- an exchange ends it, or another user did
  abbrev pub EndsEpoch : Self T V → ℕ → Self T V → Type 0
  EndsEpoch me found after = after ≡ at_stage me Free
