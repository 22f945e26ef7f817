-- A look at the clock after a deadline. The record has a private field, so only `time_until` makes one.
use Rattle.std.specs.Prelude.{◌≡◌, ℕ, refl}
use Rattle.std.specs.Coded.{Coded, code_by, coded_ℕ}
use Rattle.std.specs.Time.{instant_nanos}
use Rattle.std.specs.declared.time.Instant.{Instant}

-- a deadline that had passed when a thread looked at the clock, in nanoseconds
pub record PassedDeadline : Type 0 where
  pub nanos : ℕ
  sealed : Unit {0}

abbrev pub passed : ℕ → PassedDeadline
passed nanos = record { nanos = nanos; sealed = tt }

abbrev pub passed_code : Coded PassedDeadline
passed_code = code_by ℕ coded_ℕ (λ p. p.nanos) (λ n. passed n) (λ _. refl)

-- a thread looked at the clock, and the deadline had passed or the clock could not be read
abbrev pub HasPassed : Instant → Type 0
HasPassed deadline = (look : PassedDeadline) × (look.nanos ≡ instant_nanos deadline)
