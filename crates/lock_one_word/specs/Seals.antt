-- What only a lock makes. Each record has a private field, so nobody else can write one.
use Rattle.std.specs.Prelude.{ℕ, Bool, refl}
use Rattle.std.specs.Coded.{Coded, code_by, coded×, coded_ℕ, coded_bool}

-- the end of a call: the limit of its lock, whether it upgrades, whether it blocks, its answer, the word that it found last, whether
-- its deadline had passed, and how many exchanges it had made
pub record Ending : Type 0 where
  pub readers : ℕ
  pub upgrades : Bool
  pub blocks : Bool
  pub acquired : Bool
  pub word : ℕ
  pub late : Bool
  pub exchanges : ℕ
  sealed : Unit {0}

abbrev pub ending : ℕ → Bool → Bool → Bool → ℕ → Bool → ℕ → Ending
ending readers upgrades blocks acquired word late exchanges = record {
  readers = readers;
  upgrades = upgrades;
  blocks = blocks;
  acquired = acquired;
  word = word;
  late = late;
  exchanges = exchanges;
  sealed = tt;
}

abbrev pub ending_code : Coded Ending
ending_code =
    code_by ((ℕ × (Bool × (Bool × Bool))) × (ℕ × (Bool × ℕ)))
    (coded× (coded× coded_ℕ (coded× coded_bool (coded× coded_bool coded_bool))) (coded× coded_ℕ (coded× coded_bool coded_ℕ)))
    (λ r. ((r.readers, (r.upgrades, (r.blocks, r.acquired))), (r.word, (r.late, r.exchanges))))
    (λ p. ending p.0.0 p.0.1.0 p.0.1.1.0 p.0.1.1.1 p.1.0 p.1.1.0 p.1.1.1) (λ _. refl)

-- a word that a load found
pub record Seen : Type 0 where
  pub word : ℕ
  sealed : Unit {0}

abbrev pub seen : ℕ → Seen
seen word = record { word = word; sealed = tt }

abbrev pub seen_code : Coded Seen
seen_code = code_by ℕ coded_ℕ (λ s. s.word) (λ n. seen n) (λ _. refl)
