-- The rule of a lock of one word. It ties the word, T, the turn of readers, and S, the bit of sleepers, to what each party holds, sleeps
-- for and owes.
use Rattle.std.specs.Prelude.{◌≡◌, ℕ, ◌^◌, ◌%◌, Bool, true, false, not, ◌&&◌, ◌||◌, ◌==◌, ◌⊎◌, if◌then◌else◌, List, map, slice_get, Some, IsTrue}
use Rattle.lock_modes.specs.declared.hold.Hold.{Hold}
use Rattle.lock_modes.specs.Holds.{no_hold, hold_has}
use Rattle.lock_word.specs.declared.want.ExWant.{ExWant}
use Rattle.lock_word.specs.declared.want.ExWant.TheVariants as want
use Rattle.lock_word.specs.BarredBags.{IsLegalBarredBag}
use Rattle.lock_word.specs.Holders.{all_of}
use Rattle.lock_word.specs.Word.{word_of, word_admits, step_of_want}
use Rattle.lock_word.specs.Unblocking.{is_awaited}
use Rattle.lock_one.specs.declared.sleep_view.WordLimits.{WordLimits}
use Rattle.lock_one.specs.declared.sleep_view.SleepView.{SleepView}
use Rattle.lock_one.specs.declared.sleep_view.SleepState.{SleepState}
use Rattle.lock_one.specs.declared.sleep_view.SleepState.TheVariants.{Awake, Asleep, Woken}
use Rattle.lock_one.specs.declared.sleep_view.Debt.{Debt}
use Rattle.lock_one.specs.declared.sleep_view.Debt.TheVariants.{Nothing, One, All, Next, Turn}

abbrev pub holds_of : List SleepView → List Hold
holds_of views = map (λ (v : SleepView). v.held) views

-- a mutex is free for a party if nobody holds it, and no other party has set the bar
abbrev pub is_free : SleepView → ℕ → Bool
is_free v core = if v.held.announced then core % 2 ^ 34 == 0 else core == 0

-- whether the word without T and S admits to the party what it wants
abbrev pub admits_to : WordLimits → ℕ → SleepView → ExWant → Bool
admits_to limits core v want =
    if limits.wakes_one then is_free v core else word_admits v.held.announced limits.readers core want

abbrev pub is_upgrade : ExWant → Bool
is_upgrade want.Shared = false
is_upgrade want.Exclusive = false
is_upgrade want.Upgradable = false
is_upgrade want.Upgrade = true
is_upgrade want.Announce = false

abbrev pub is_shared : ExWant → Bool
is_shared want.Shared = true
is_shared want.Exclusive = false
is_shared want.Upgradable = false
is_shared want.Upgrade = false
is_shared want.Announce = false

-- whether T lets a party pass: a reader, an upgrade, and the writer that has set the bar
abbrev pub passes_turn : Bool → ExWant → Bool
passes_turn announced want.Shared = true
passes_turn announced want.Exclusive = announced
passes_turn announced want.Upgradable = false
passes_turn announced want.Upgrade = true
passes_turn announced want.Announce = false

-- the word refuses the party: its core does, or T, which is set
abbrev pub IsRefused : WordLimits → ℕ → Bool → SleepView → ExWant → Type 0
IsRefused limits core t v want = (admits_to limits core v want ≡ false) ⊎ ((t ≡ true) × (passes_turn v.held.announced want ≡ false))

-- those that may pass a bar
abbrev pub is_next : SleepView → ExWant → Bool
is_next v want = v.held.announced || is_upgrade want

-- those, and all readers
abbrev pub is_in_turn : SleepView → ExWant → Bool
is_in_turn v want = is_next v want || is_shared want

abbrev pub is_woken : SleepState → Bool
is_woken Awake = false
is_woken (Asleep want) = false
is_woken Woken = true

abbrev pub is_asleep : SleepState → Bool
is_asleep Awake = false
is_asleep (Asleep want) = true
is_asleep Woken = false

-- whether the wake-up that is owed reaches a sleeper, or another in its place
abbrev pub reaches : WordLimits → Debt → SleepView → ExWant → Bool
reaches limits Nothing v want = false
reaches limits One v want = limits.wakes_one && not v.held.announced
reaches limits All v want = true
reaches limits Next v want = is_next v want
reaches limits Turn v want = is_in_turn v want

-- a party of a mutex that was woken has a duty to those without a bar: it acquires and sets S, or finds or sets S on a word that
-- refuses
abbrev pub has_duty : WordLimits → SleepView → Bool
has_duty limits v = limits.wakes_one && is_woken v.sleep

abbrev pub serves : WordLimits → SleepView → SleepView → ExWant → Bool
serves limits server v want = reaches limits server.debt v want || (has_duty limits server && not v.held.announced)

pub record SomeoneServes (limits : WordLimits) (views : List SleepView) (v : SleepView) (want : ExWant) : Type 0 where
  pub number : ℕ
  pub server : SleepView
  pub is : slice_get views number ≡ Some server
  pub does : IsTrue (serves limits server v want)

-- S is set and the word refuses; or someone owes a wake-up, or was woken in its place
abbrev pub IsServed : WordLimits → ℕ → Bool → Bool → List SleepView → SleepView → ExWant → Type 0
IsServed limits core t s views v want = ((s ≡ true) × IsRefused limits core t v want) ⊎ SomeoneServes limits views v want

-- THE THEOREM: no sleeper is forgotten
abbrev pub NoneIsForgotten : WordLimits → ℕ → Bool → Bool → List SleepView → Type 0
NoneIsForgotten limits core t s views =
    (k : ℕ) (v : SleepView) (want : ExWant) → slice_get views k ≡ Some v → v.sleep ≡ Asleep want → IsServed limits core t s views v want

-- a sleeper waits for what it may acquire
abbrev pub IsEntitled : SleepView → ExWant → Type 0
IsEntitled v want = IsTrue (is_awaited want) × IsTrue (hold_has v.held (step_of_want want))

-- the rule
pub record KeepsSleepers (limits : WordLimits) (core : ℕ) (t s : Bool) (views : List SleepView) : Type 0 where
  pub coded : core ≡ word_of (all_of (holds_of views))
  pub legal : IsLegalBarredBag limits.readers (all_of (holds_of views))
  pub one_token : IsTrue limits.wakes_one → limits.readers ≡ 1
  pub entitled : (k : ℕ) (v : SleepView) (want : ExWant) → slice_get views k ≡ Some v → v.sleep ≡ Asleep want → IsEntitled v want
  pub none_forgotten : NoneIsForgotten limits core t s views
  -- T is no bit of a mutex
  pub no_turn : IsTrue limits.wakes_one → t ≡ false

abbrev pub with_sleep : SleepView → SleepState → SleepView
with_sleep v state = record v { sleep = state }

abbrev pub with_debt : SleepView → Debt → SleepView
with_debt v debt = record v { debt = debt }

-- the sleepers that a wake-up wakes
abbrev pub woken_if : Bool → SleepState → SleepState
woken_if b state = if b then Woken else state

abbrev pub woken_all : SleepState → SleepState
woken_all Awake = Awake
woken_all (Asleep want) = Woken
woken_all Woken = Woken

-- of those that the test names
abbrev pub woken_of : (SleepView → ExWant → Bool) → SleepView → SleepState → SleepState
woken_of test v Awake = Awake
woken_of test v (Asleep want) = woken_if (test v want) (Asleep want)
woken_of test v Woken = Woken

abbrev pub wake_all : SleepView → SleepView
wake_all v = with_sleep v (woken_all v.sleep)

abbrev pub wake_of : (SleepView → ExWant → Bool) → SleepView → SleepView
wake_of test v = with_sleep v (woken_of test v v.sleep)

abbrev pub wake_next : SleepView → SleepView
wake_next = wake_of is_next

abbrev pub wake_turn : SleepView → SleepView
wake_turn = wake_of is_in_turn

abbrev pub new_party : SleepView
new_party = record { held = no_hold; sleep = Awake; debt = Nothing }
