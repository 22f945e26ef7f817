-- The steps of a line, over plain numbers.
use Rattle.std.proofs.Common.{◌≡◌, ℕ, suc, zero, ◌+◌, ◌-◌, ◌/◌, ◌<◌, ◌≤◌, Bool, true, false, ◌&&◌, List, [], ◌∷◌, ◌++◌, refl, sym, ap, ◌∙◌, subst, arith}
use Rattle.std.specs.Prelude.{◌≢◌, ◌==◌, nat_lt}
use Rattle.std.specs.Int.{bit_at}
use Rattle.std.proofs.lemmas.Bool.{false≢true}
use Rattle.std.proofs.lemmas.Bool.Decides.{nat_tests}
use Rattle.std.proofs.lemmas.Nat.Bits.{bit_at-lt}
use Rattle.lock_raws_fair.specs.declared.line.step.LineStep.TheVariants.{Arrive, Enter, Leave}
use Rattle.lock_raws_fair.specs.Tickets.{Line, Makes, staying, without, is_among, is_first, leads, first_of, may_leave}
use Rattle.lock_raws_fair.proofs.Staying.{staying_more, staying_first, staying_marked, low_stays, among, earlier_not_among, without_earlier}

and_false : (b : Bool) → (b && false) ≡ false
and_false true = refl
and_false false = refl

abbrev pub line_of : ℕ → ℕ → ℕ → Line
line_of next first left = record { waiting = staying (next - first) first left; issued = next }

pub arrives : (next first left : ℕ) → first ≤ next → bit_at left (next - first) ≡ 0
    → Makes (line_of next first left) Arrive (line_of (next + 1) first left)
arrives next first left within none =
    let e : (next + 1) - first ≡ suc (next - first) = omega arith in
    let last : first + (next - first) ≡ next = omega arith in
    let more : staying ((next + 1) - first) first left ≡ staying (next - first) first left ++ next ∷ [] =
    rw e (staying_more (next - first) first left none ∙ ap (λ k. staying (next - first) first left ++ k ∷ []) last) in
    record { permitted = refl; after = ap (λ (ws : List ℕ). record { waiting = ws; issued = next + 1 }) more }

-- the ticket that a call finds first leads those that wait
pub led : {line old : Line} (t : ℕ) → line ≡ old → is_first old t ≡ true → leads line.waiting t ≡ true
led t same leading = ap (λ (l : Line). is_first l t) same ∙ leading

pub leads_is : (n first left t : ℕ) → bit_at left 0 ≡ 0 → leads (staying n first left) t ≡ true → (first == t) ≡ true × 0 < n
leads_is zero first left t stays leading = absurd (false≢true leading)
leads_is (suc n) first left t stays leading =
    let kept = low_stays left stays in
    let leading' : (first == t) ≡ true = rw kept at leading in
    (leading', omega arith)

pub enters : (next first left first' left' t : ℕ) → bit_at left 0 ≡ 0 → leads (staying (next - first) first left) t ≡ true
    → staying (next - first') first' left' ≡ staying (next - (first + 1)) (first + 1) (left / 2)
    → Makes (line_of next first left) (Enter t) (line_of next first' left')
enters next first left first' left' t stays leading same =
    let is = leads_is (next - first) first left t stays leading in
    let here : (first == t) ≡ true = is.0 in
    let t_is : t ≡ first = grind (arith, nat_tests) in
    let within : first < next = omega (arith, is.1) in
    let whole = staying_first next first left within stays in
    let rest : without t (staying (next - (first + 1)) (first + 1) (left / 2)) ≡ staying (next - (first + 1)) (first + 1) (left / 2) =
    without_earlier (next - (first + 1)) (first + 1) (left / 2) t (omega arith) in
    let gone : staying (next - first') first' left' ≡ without t (staying (next - first) first left) =
    same ∙ sym (ap (without t) whole ∙ rw here rest) in
    record { permitted = leading; after = ap (λ (ws : List ℕ). record { waiting = ws; issued = next }) gone }

pub first_is : (n first left next : ℕ) → bit_at left 0 ≡ 0 → next - first ≡ n → first ≤ next → first_of (staying n first left) next ≡ first
first_is zero first left next stays is within = omega arith
first_is (suc n) first left next stays is within = rw (low_stays left stays) refl

-- which tickets may leave
pub may_from : (next first left t : ℕ) → bit_at left 0 ≡ 0 → first ≤ next → first ≤ t
    → may_leave 64 (line_of next first left) t
    ≡ ((nat_lt (t - first) (next - first) && (bit_at left (t - first) == 0)) && nat_lt (t - first) 64)
may_from next first left t stays within behind =
    let e : first + (t - first) ≡ t = omega arith in
    let a : is_among (staying (next - first) first left) t ≡ (nat_lt (t - first) (next - first) && (bit_at left (t - first) == 0)) =
    subst (λ k. is_among (staying (next - first) first left) k ≡ (nat_lt (t - first) (next - first) && (bit_at left (t - first) == 0))) e
    (among (next - first) first left (t - first)) in
    let h = first_is (next - first) first left next stays refl within in
    rw (a, h) refl

pub may_not_before : (next first left t : ℕ) → t < first → false ≡ may_leave 64 (line_of next first left) t
may_not_before next first left t before = rw (earlier_not_among (next - first) first left t before) refl

pub may_not_after : (next first left t : ℕ) → bit_at left 0 ≡ 0 → first ≤ next → next ≤ t → false ≡ may_leave 64 (line_of next first left) t
may_not_after next first left t stays within behind =
    let past : nat_lt (t - first) (next - first) ≡ false = grind (arith, nat_tests) in
    sym (may_from next first left t stays within (omega arith) ∙ rw past refl)

pub may_not_far : (next first left t : ℕ) → bit_at left 0 ≡ 0 → first ≤ next → first ≤ t → 64 ≤ t - first → false ≡ may_leave 64 (line_of next first left) t
may_not_far next first left t stays within behind far =
    let past : nat_lt (t - first) 64 ≡ false = grind (arith, nat_tests) in
    sym (may_from next first left t stays within behind
    ∙ ap (λ (b : Bool). (nat_lt (t - first) (next - first) && (bit_at left (t - first) == 0)) && b) past
    ∙ and_false (nat_lt (t - first) (next - first) && (bit_at left (t - first) == 0)))

pub may_not_left : (next first left t : ℕ) → bit_at left 0 ≡ 0 → first ≤ next → first ≤ t → (bit_at left (t - first) == 1) ≡ true → false ≡ may_leave 64 (line_of next first left) t
may_not_left next first left t stays within behind gone =
    let past : (bit_at left (t - first) == 0) ≡ false = grind (arith, nat_tests) in
    sym (may_from next first left t stays within behind
    ∙ ap (λ (b : Bool). (nat_lt (t - first) (next - first) && b) && nat_lt (t - first) 64) past
    ∙ ap (λ (b : Bool). b && nat_lt (t - first) 64) (and_false (nat_lt (t - first) (next - first))))

pub may : (next first left t : ℕ) → bit_at left 0 ≡ 0 → first ≤ next → first ≤ t → t < next → t - first < 64
    → (bit_at left (t - first) == 1) ≡ false → true ≡ may_leave 64 (line_of next first left) t
may next first left t stays within behind ahead near kept =
    let low = bit_at-lt left (t - first) in
    let here : (bit_at left (t - first) == 0) ≡ true = grind (arith, nat_tests) in
    let inside : nat_lt (t - first) (next - first) ≡ true = grind (arith, nat_tests) in
    let near' : nat_lt (t - first) 64 ≡ true = grind (arith, nat_tests) in
    sym (may_from next first left t stays within behind ∙ rw (inside, here, near') refl)

pub leaves : (next first left first' left' marked t : ℕ) → bit_at left 0 ≡ 0 → first ≤ next → first ≤ t → t < next
    → (bit_at left (t - first) == 1) ≡ false
    → bit_at marked (t - first) ≡ 1 → ((j : ℕ) → j ≢ t - first → bit_at marked j ≡ bit_at left j)
    → staying (next - first') first' left' ≡ staying (next - first) first marked
    → Makes (line_of next first left) (Leave t) (line_of next first' left')
leaves next first left first' left' marked t stays within behind ahead kept is others same =
    let e : first + (t - first) ≡ t = omega arith in
    let low = bit_at-lt left (t - first) in
    let here : (bit_at left (t - first) == 0) ≡ true = grind (arith, nat_tests) in
    let inside : nat_lt (t - first) (next - first) ≡ true = grind (arith, nat_tests) in
    let a : is_among (staying (next - first) first left) t ≡ true =
    subst (λ k. is_among (staying (next - first) first left) k ≡ true) e
    (among (next - first) first left (t - first) ∙ rw (inside, here) refl) in
    let gone : staying (next - first') first' left' ≡ without t (staying (next - first) first left) =
    same ∙ subst (λ k. staying (next - first) first marked ≡ without k (staying (next - first) first left)) e
    (staying_marked (next - first) first (t - first) left marked is others) in
    record { permitted = a; after = ap (λ (ws : List ℕ). record { waiting = ws; issued = next }) gone }

-- the marked ticket is before the next one
pub marked_within : (next first left marked t : ℕ) → first ≤ t → t < next → ((i : ℕ) → next - first ≤ i → bit_at left i ≡ 0)
    → ((j : ℕ) → j ≢ t - first → bit_at marked j ≡ bit_at left j) → (i : ℕ) → next - first ≤ i → bit_at marked i ≡ 0
marked_within next first left marked t behind ahead none others i past = others i (omega arith) ∙ none i past
