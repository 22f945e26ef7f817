-- What contracts see of a lock and of a party.
use Rattle.std.specs.Prelude.{ℕ, ◌+◌}
use Rattle.atomic_table.specs.Seated.{TableId}
use Rattle.lock_modes.specs.declared.lock_step.LockStep.{LockStep}
use Rattle.lock_word.specs.declared.party.WorldParty.{WorldParty}
use Rattle.lock_word.specs.Turns.{idle, with_load, after_win, after_fail}

-- a lock: its identity, and the readers' limit
pub record Lock : Type 0 where
  pub id : TableId
  pub readers : ℕ

-- the caller's view of a party: its lock, its seat number, its state, the word that it loaded last, and its count of
-- loads
pub record CallerView : Type 0 where
  pub lock : Lock
  pub number : ℕ
  pub state : WorldParty
  pub last : ℕ
  pub loads : ℕ

-- a party that has done nothing yet
abbrev pub new_party : Lock → ℕ → CallerView
new_party lock number = record { lock = lock; number = number; state = idle; last = 0; loads = 0 }

-- the party after it loaded this word
abbrev pub after_load : CallerView → ℕ → CallerView
after_load party word = record party { state = with_load party.state word; last = word; loads = party.loads + 1 }

-- the party after a step of its own changed the word
abbrev pub after_own_step : CallerView → LockStep → CallerView
after_own_step party step = record party { state = after_win party.state step }

-- the party after its exchange found another word
abbrev pub after_lost_exchange : CallerView → CallerView
after_lost_exchange party = record party { state = after_fail party.state }
