-- A chain of holders that wait would rise for ever.
use Rattle.std.proofs.Common.{◌≡◌, ℕ, zero, suc, ◌+◌, ◌≤◌, true, arith}
use Rattle.lock_plan_laws.specs.Holders.{Moment, IsInOrder, SomeHolderDoesNotWait}

module _ (rank : ℕ → ℕ) (top : ℕ) (m : Moment) (o : IsInOrder rank top m)
    (all : (thread lock : ℕ) → m.holds thread lock ≡ true → (wanted : ℕ) × (m.waits thread wanted ≡ true)) where
  rises : (n thread lock : ℕ) → m.waits thread lock ≡ true → top ≤ rank lock + n → ⊥
  rises zero thread lock waits le = let h = o.below thread lock waits in omega (arith, h, le)
  rises (suc n) thread lock waits le =
      let holder = o.taken thread lock waits in
      let next = all holder.0 lock holder.1 in
      let above = o.upward holder.0 next.0 lock next.1 holder.1 in
      rises n holder.0 next.0 next.1 (omega (arith, above, le))

pub some_holder : SomeHolderDoesNotWait
some_holder rank top m o all thread lock waits = rises rank top m o all top thread lock waits (omega arith)
