-- Threads that hold ranked locks and sleep for ranked locks, at one moment.
use Rattle.std.specs.Prelude.{◌≡◌, ℕ, ◌<◌, true, false, slice_get, Some, ◌⊎◌}
use Rattle.lock_modes.specs.Modes.{tokens}
use Rattle.lock_word.specs.declared.want.ExWant.{ExWant}
use Rattle.lock_word.specs.declared.want.ExWant.TheVariants.{Shared, Exclusive}
use Rattle.lock_one.specs.declared.sleep_view.SleepView.{SleepView}
use Rattle.lock_one.specs.declared.sleep_view.SleepState.TheVariants.{Asleep}
use Rattle.lock_one.specs.declared.sleep_view.Debt.TheVariants.{Nothing}
use Rattle.lock_one.specs.Rule.{is_woken}
use Rattle.lock_one.specs.Runs.{Thread, LockInUse, views_of, IsTurnOf, ThreadsAreServed}

-- several locks in use, and their ranks; and the thread of each party of a lock
pub record Moment : Type 0 where
  pub lock : ℕ → LockInUse
  pub rank : ℕ → ℕ
  pub thread : ℕ → ℕ → ℕ

-- a party of the lock that is the thread
pub record PartyOf (m : Moment) (thread lock : ℕ) : Type 0 where
  pub number : ℕ
  pub view : SleepView
  pub is : slice_get (views_of (m.lock lock).threads) number ≡ Some view
  pub own : m.thread lock number ≡ thread

-- the thread sleeps for the lock
pub record SleepsFor (m : Moment) (thread lock : ℕ) : Type 0 where
  pub party : PartyOf m thread lock
  pub want : ExWant
  pub sleeps : party.view.sleep ≡ Asleep want

-- the thread holds the lock, in whatever mode
pub record HoldsLock (m : Moment) (thread lock : ℕ) : Type 0 where
  pub party : PartyOf m thread lock
  pub holds : 0 < tokens party.view.held.bag

-- the thread has announced itself at the lock, as a pending writer
pub record IsPending (m : Moment) (thread lock : ℕ) : Type 0 where
  pub party : PartyOf m thread lock
  pub announced : party.view.held.announced ≡ true

-- the thread has set T at the lock, as a reader whose turn it is
pub record IsTurning (m : Moment) (thread lock : ℕ) : Type 0 where
  pub number : ℕ
  pub party : Thread
  pub is : slice_get (m.lock lock).threads number ≡ Some party
  pub own : m.thread lock number ≡ thread
  pub turns : IsTurnOf party

pub record IsInOrder (top : ℕ) (m : Moment) : Type 0 where
  -- what `every_run_is_served` says of each lock; no wake-up is owed, and no woken thread has yet to look
  pub served : (lock : ℕ) → ThreadsAreServed (m.lock lock)
  pub at_rest : (lock k : ℕ) (v : SleepView) → slice_get (views_of (m.lock lock).threads) k ≡ Some v → (v.debt ≡ Nothing) × (is_woken v.sleep ≡ false)
  -- what the contracts of ranked locks require: a thread sleeps above all that it holds
  pub upward : (thread lock held : ℕ) → SleepsFor m thread lock → HoldsLock m thread held → m.rank held < m.rank lock
  pub below : (thread lock : ℕ) → SleepsFor m thread lock → m.rank lock < top
  -- a pending writer that sleeps does so for the lock where it is pending, as that party
  pub pending : (thread lock wanted : ℕ) (writer : IsPending m thread lock) → SleepsFor m thread wanted → writer.party.view.sleep ≡ Asleep Exclusive
  -- so does a reader whose turn it is
  pub turning : (thread lock wanted : ℕ) (reader : IsTurning m thread lock) → SleepsFor m thread wanted → reader.party.view.sleep ≡ Asleep Shared

-- if each holder, each pending writer and each reader whose turn it is slept, no thread would sleep
abbrev pub SomeHolderIsAwake : Type 0
SomeHolderIsAwake = (top : ℕ) (m : Moment) → IsInOrder top m
    → ((thread lock : ℕ) → HoldsLock m thread lock ⊎ (IsPending m thread lock ⊎ IsTurning m thread lock) → (wanted : ℕ) × SleepsFor m thread wanted)
    → (thread lock : ℕ) → SleepsFor m thread lock → ⊥
