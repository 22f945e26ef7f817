-- The rows so far that are marked have the number and the kind of the rows before them.
use Rattle.std.proofs.Common.{◌≡◌, ℕ, ◌<◌, suc, true, false, get_or, length}
use Rattle.plan_text.proofs.alike.copies_of.Given as goal

abbrev pub invariant-loop-row : goal.invariant-loop-row
invariant-loop-row l = record {
  long : length l.copies.items ≡ l.row;
  alike : (row : ℕ) → suc row < l.row → get_or l.copies.items (suc row) false ≡ true
      → (get_or l.numbers (suc row) 0 ≡ get_or l.numbers row 0)
      × (get_or l.servers (suc row) false ≡ get_or l.servers row false);
}
