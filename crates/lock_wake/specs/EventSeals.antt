-- What only the calls of an event count make. Each record has a private field, so nobody else can write one.
use Rattle.std.specs.Prelude.{ℕ, Bool, Option, refl}
use Rattle.std.specs.Coded.{Coded, code_by, coded×, coded_ℕ, coded_bool, coded_option}
use Rattle.atomic_table.specs.Seated.{TableId, table_id_coded}

-- a notification that has ended: its event count, its number, how many waits it found, and whether it woke all threads
pub record Ended : Type 0 where
  pub events : TableId
  pub number : ℕ
  pub waits : ℕ
  pub all : Bool
  sealed : Unit {0}

abbrev pub ended : TableId → ℕ → ℕ → Bool → Ended
ended events number waits all = record { events = events; number = number; waits = waits; all = all; sealed = tt }

abbrev pub ended_code : Coded Ended
ended_code =
    code_by (TableId × (ℕ × (ℕ × Bool))) (coded× table_id_coded (coded× coded_ℕ (coded× coded_ℕ coded_bool)))
    (λ e. (e.events, (e.number, (e.waits, e.all)))) (λ p. ended p.0 p.1.0 p.1.1.0 p.1.1.1) (λ _. refl)

-- a wait that has slept: its event count, its number, its deadline in nanoseconds if it has one, and whether that passed
pub record Asleep : Type 0 where
  pub events : TableId
  pub number : ℕ
  pub deadline : Option ℕ
  pub timed_out : Bool
  sealed : Unit {0}

abbrev pub slept : TableId → ℕ → Option ℕ → Bool → Asleep
slept events number deadline timed_out =
    record { events = events; number = number; deadline = deadline; timed_out = timed_out; sealed = tt }

abbrev pub slept_code : Coded Asleep
slept_code =
    code_by (TableId × (ℕ × (Option ℕ × Bool))) (coded× table_id_coded (coded× coded_ℕ (coded× (coded_option coded_ℕ) coded_bool)))
    (λ w. (w.events, (w.number, (w.deadline, w.timed_out)))) (λ p. slept p.0 p.1.0 p.1.1.0 p.1.1.1) (λ _. refl)

-- a registered wait that keeps a token: its event count, its number, and the token
pub record Keeper (T : Type 0) : Type 0 where
  pub events : TableId
  pub number : ℕ
  pub token : T
  sealed : Unit {0}

abbrev pub keeper : {T : Type 0} → TableId → ℕ → T → Keeper T
keeper events number token = record { events = events; number = number; token = token; sealed = tt }

abbrev pub keeper_code : {T : Type 0} → Coded T → Coded (Keeper T)
keeper_code {T} token =
    code_by (TableId × (ℕ × T)) (coded× table_id_coded (coded× coded_ℕ token)) (λ k. (k.events, (k.number, k.token)))
    (λ p. keeper p.0 p.1.0 p.1.1) (λ _. refl)
