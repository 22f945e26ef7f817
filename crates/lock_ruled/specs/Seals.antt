-- What only the calls of a mutex or of a semaphore make. Each record has a private field, so nobody else can write one.
use Rattle.std.specs.Prelude.{ℕ, refl}
use Rattle.std.specs.Coded.{Coded, code_by, coded×, coded_ℕ}
use Rattle.atomic_table.specs.Seated.{TableId, table_id_coded}
use Rattle.lock_ruled.specs.Accounts.{SemaphoreView}

-- a user found this mutex held
pub record HeldView : Type 0 where
  pub mutex : TableId
  sealed : Unit {0}

abbrev pub held_view : TableId → HeldView
held_view mutex = record { mutex = mutex; sealed = tt }

abbrev pub held_view_code : Coded HeldView
held_view_code = code_by TableId table_id_coded (λ h. h.mutex) (λ m. held_view m) (λ _. refl)

-- a call for permits: its semaphore, how many it wants, how many it took, how many its last step found free, and what it keeps
pub record PermitCallView (K : Type 0) : Type 0 where
  pub semaphore : SemaphoreView
  pub permits : ℕ
  pub own : ℕ
  pub free : ℕ
  pub kept : K
  sealed : Unit {0}

abbrev pub call_view : {K : Type 0} → SemaphoreView → (permits own free : ℕ) → K → PermitCallView K
call_view semaphore permits own free kept =
    record { semaphore = semaphore; permits = permits; own = own; free = free; kept = kept; sealed = tt }

abbrev pub call_view_code : {K : Type 0} → Coded K → Coded (PermitCallView K)
call_view_code {K} kept =
    code_by (TableId × (ℕ × (ℕ × (ℕ × (ℕ × K))))) (coded× table_id_coded (coded× coded_ℕ (coded× coded_ℕ (coded× coded_ℕ (coded× coded_ℕ kept)))))
    (λ c. (c.semaphore.id, (c.semaphore.permits, (c.permits, (c.own, (c.free, c.kept))))))
    (λ p. call_view (record { id = p.0; permits = p.1.0 }) p.1.1.0 p.1.1.1.0 p.1.1.1.1.0 p.1.1.1.1.1) (λ _. refl)
