-- Threads that hold locks and wait for locks, at one moment.
use Rattle.std.specs.Prelude.{◌≡◌, ℕ, ◌<◌, Bool, true}

-- which locks each thread holds, and for which it waits
pub record Moment : Type 0 where
  pub holds : ℕ → ℕ → Bool
  pub waits : ℕ → ℕ → Bool

pub record IsInOrder (rank : ℕ → ℕ) (top : ℕ) (m : Moment) : Type 0 where
  -- a thread waits above all that it holds, and below the top: what the contracts of ranked locks require
  pub upward : (thread lock held : ℕ) → m.waits thread lock ≡ true → m.holds thread held ≡ true → rank held < rank lock
  pub below : (thread lock : ℕ) → m.waits thread lock ≡ true → rank lock < top
  -- a thread waits only for a lock that some thread holds: what the law of a lock says while no release is in progress
  pub taken : (thread lock : ℕ) → m.waits thread lock ≡ true → (holder : ℕ) × (m.holds holder lock ≡ true)

-- if each holder waited, no thread would wait
abbrev pub SomeHolderDoesNotWait : Type 0
SomeHolderDoesNotWait = (rank : ℕ → ℕ) (top : ℕ) (m : Moment) → IsInOrder rank top m
    → ((thread lock : ℕ) → m.holds thread lock ≡ true → (wanted : ℕ) × (m.waits thread wanted ≡ true))
    → (thread lock : ℕ) → m.waits thread lock ≡ true → ⊥
