-- The head of a line never falls, so a ticket near it stays near.
use Rattle.std.proofs.Common.{◌≡◌, ℕ, ◌+◌, ◌-◌, ◌<◌, ◌≤◌, Bool, true, false, ◌||◌, List, [], ◌∷◌, ◌++◌, refl, ap, subst, arith}
use Rattle.std.specs.Prelude.{◌==◌, nat_lt, if◌then◌else◌}
use Rattle.std.proofs.lemmas.Bool.Decides.{nat_tests}
use Rattle.lock_raws_fair.specs.declared.line.step.LineStep.{LineStep}
use Rattle.lock_raws_fair.specs.declared.line.step.LineStep.TheVariants.{Arrive, Enter, Leave, Pass}
use Rattle.lock_raws_fair.specs.Tickets.{Line, empty_line, is_among, without, line_after, first_of, head}
use Rattle.lock_raws_fair.specs.LineLaws.{IsLineRun, removes, TimedTicketsMayLeave}
use Rattle.lock_raws_fair.proofs.Order.{IsRising, rising_without, IsInOrder, step_in_order, empty_in_order}

head_more : (ws : List ℕ) (k : ℕ) → first_of (ws ++ k ∷ []) (k + 1) ≡ first_of ws k
head_more [] k = refl
head_more (x ∷ ws) k = refl

-- a lower bound of those that wait bounds the head
least_head : (n : ℕ) (ws : List ℕ) (issued : ℕ) → IsRising n ws → n ≤ issued → n ≤ first_of ws issued
least_head n [] issued rising below = below
least_head n (x ∷ ws) issued rising below = rising.0

head_without : (ws : List ℕ) (t issued : ℕ) → IsRising 0 ws → ((s : ℕ) → is_among ws s ≡ true → s < issued) → first_of ws issued ≤ first_of (without t ws) issued
head_without [] t issued rising under = omega arith
head_without (x ∷ ws) t issued rising under =
    let here : (x == x) ≡ true = grind (arith, nat_tests) in
    let first : is_among (x ∷ ws) x ≡ true = rw here refl in
    let less : x < issued = under x first in
    let rest = least_head (x + 1) (without t ws) issued (rising_without (x + 1) t ws rising.1) (omega arith) in
    elim (x == t) as (λ (b : Bool). x ≤ first_of (if b then without t ws else x ∷ without t ws) issued)
    [ true ↦ omega arith | false ↦ omega arith ]

head_after : (line : Line) (step : LineStep) (removed : ℕ → Bool) → IsInOrder line removed → head line ≤ head (line_after line step)
head_after line Arrive removed kept = let same = head_more line.waiting line.issued in omega arith
head_after line (Enter t) removed kept = head_without line.waiting t line.issued kept.rises kept.under
head_after line (Leave t) removed kept = head_without line.waiting t line.issued kept.rises kept.under
head_after line Pass removed kept = omega arith

pub record IsLater (removed : ℕ → Bool) (old new : Line) : Type 0 where
  pub after : ℕ → Bool
  pub order : IsInOrder new after
  pub ahead : head old ≤ head new

pub later : (steps : List LineStep) (old new : Line) (removed : ℕ → Bool) → IsInOrder old removed → IsLineRun old steps new → IsLater removed old new
later [] old new removed kept run = record {
  after = removed;
  order = subst (λ (line : Line). IsInOrder line removed) run kept;
  ahead = let same : head old ≡ head new = ap head run in omega arith;
}
later (step ∷ steps) old new removed kept run =
    let next = line_after old step in
    let moved = head_after old step removed kept in
    let rest = later steps next new (λ s. removed s || removes step s) (step_in_order old step removed kept run.0) run.1 in
    record { after = rest.after; order = rest.order; ahead = let more : head next ≤ head new = rest.ahead in omega arith }

pub timed_tickets_may_leave_law : (limit : ℕ) → TimedTicketsMayLeave limit
timed_tickets_may_leave_law limit before after here last run near onward waits =
    let first = later before empty_line here (λ _. false) empty_in_order run in
    let joined = step_in_order here Arrive first.after first.order refl in
    let rest = later after (line_after here Arrive) last (λ s. first.after s || removes Arrive s) joined onward in
    let moved = head_after here Arrive first.after first.order in
    let ahead : head (line_after here Arrive) ≤ head last = rest.ahead in
    let within : nat_lt (here.issued - head last) limit ≡ true = grind (arith, nat_tests) in
    rw (waits, within) refl
