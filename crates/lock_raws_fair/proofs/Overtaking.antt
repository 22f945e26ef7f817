-- No run admits a later ticket before an earlier one.
use Rattle.std.proofs.Common.{◌≡◌, ℕ, ◌+◌, ◌<◌, ◌≤◌, Bool, true, false, ◌||◌, List, [], ◌∷◌, ◌++◌, refl, sym, ap, ◌∙◌, arith}
use Rattle.std.specs.Prelude.{◌≢◌, ◌==◌, if◌then◌else◌, suc, length, IsTrue}
use Rattle.std.proofs.lemmas.Bool.{false≢true, false_from_ne_true, or_parts}
use Rattle.std.proofs.lemmas.Bool.Decides.{nat_tests}
use Rattle.lock_raws_fair.specs.declared.line.step.LineStep.{LineStep}
use Rattle.lock_raws_fair.specs.declared.line.step.LineStep.TheVariants.{Arrive, Enter, Leave, Pass}
use Rattle.lock_raws_fair.specs.Tickets.{Line, empty_line, is_nobody, leads, is_among, without, permits, line_after}
use Rattle.lock_raws_fair.specs.LineLaws.{IsLineRun, removes, is_removed, arrivals, admissions, place_of, StillWaits, NobodyIsOvertaken}
use Rattle.lock_raws_fair.proofs.Order.{rising_first, leads_among, IsInOrder, in_order_map, step_in_order, empty_in_order, or_false, not_among_without, among_append}

-- the line where a step of a run is made
record IsAt (line : Line) (removed : ℕ → Bool) (before : List LineStep) (step : LineStep) (here : Line) : Type 0 where
  order : IsInOrder here (λ s. removed s || is_removed before s)
  permitted : IsTrue (permits here step)
  issued : here.issued ≡ line.issued + arrivals before

or_assoc : (a b c : Bool) → ((a || b) || c) ≡ (a || (b || c))
or_assoc true b c = refl
or_assoc false b c = refl

issued_after : (line : Line) (step : LineStep) (before : List LineStep) → (line_after line step).issued + arrivals before ≡ line.issued + arrivals (step ∷ before)
issued_after line Arrive before = omega arith
issued_after line (Enter t) before = refl
issued_after line (Leave t) before = refl
issued_after line Pass before = refl

reached : (line : Line) (removed : ℕ → Bool) (before after : List LineStep) (step : LineStep) (last : Line)
    → IsInOrder line removed → IsLineRun line (before ++ step ∷ after) last → (here : Line) × IsAt line removed before step here
reached line removed [] after step last kept run = (
  line,
  record {
    order = in_order_map removed (λ s. removed s || false) (λ s. or_false (removed s)) kept;
    permitted = run.0;
    issued = omega arith;
  },
)
reached line removed (first ∷ before) after step last kept run =
    let next = line_after line first in
    let found = reached next (λ s. removed s || removes first s) before after step last (step_in_order line first removed kept run.0) run.1 in (
      found.0,
      record {
        order = in_order_map (λ s. (removed s || removes first s) || is_removed before s) (λ s. removed s || (removes first s || is_removed before s))
            (λ s. or_assoc (removed s) (removes first s) (is_removed before s)) found.1.order;
        permitted = found.1.permitted;
        issued = found.1.issued ∙ issued_after line first before;
      },
    )

nobody_among : (xs : List ℕ) (s : ℕ) → is_nobody xs ≡ true → is_among xs s ≡ false
nobody_among [] s none = refl
nobody_among (x ∷ xs) s none = absurd (false≢true none)

-- a ticket that waits is that of an acquisition that joined by the steps, and neither entered nor left
waiter : (before : List LineStep) (step : LineStep) (here : Line) (t : ℕ) → IsAt empty_line (λ _. false) before step here
    → is_among here.waiting t ≡ true → StillWaits before t
waiter before step here t found among =
    let below : t < here.issued = found.order.under t among in
    let issued : here.issued ≡ 0 + arrivals before = found.issued in
    record { joined = omega arith; stays = found.order.waits t among }

-- an acquisition that still waits is among the tickets that wait
not_among : (before : List LineStep) (step : LineStep) (here : Line) (s : ℕ) → IsAt empty_line (λ _. false) before step here
    → is_among here.waiting s ≡ false → StillWaits before s → ⊥
not_among before step here s found gone waits =
    let issued : here.issued ≡ 0 + arrivals before = found.issued in
    let joined : s < arrivals before = waits.joined in
    false≢true (sym waits.stays ∙ found.order.known s (omega arith) gone)

numbered : (steps : List LineStep) (old new : Line) → IsLineRun old steps new → new.issued ≡ old.issued + arrivals steps
numbered [] old new run = let same : old.issued ≡ new.issued = ap (λ (line : Line). line.issued) run in omega arith
numbered (step ∷ steps) old new run = numbered steps (line_after old step) new run.1 ∙ issued_after old step steps

pub nobody_is_overtaken_law : NobodyIsOvertaken
nobody_is_overtaken_law = record {
  numbered = λ steps line run. let all : line.issued ≡ 0 + arrivals steps = numbered steps empty_line line run in omega arith;
  enters = λ before after t last run.
      let found = reached empty_line (λ _. false) before after (Enter t) last empty_in_order run in
      let here = found.0 in
      let order = found.1.order in
      let leading : leads here.waiting t ≡ true = found.1.permitted in (
        waiter before (Enter t) here t found.1 (leads_among here.waiting t leading),
        λ s earlier. not_among before (Enter t) here s found.1 (false_from_ne_true (is_among here.waiting s) (λ (among : is_among here.waiting s ≡ true).
            let later : t ≤ s = rising_first 0 here.waiting t s order.rises leading among in omega arith)),
      );
  leaves = λ before after t last run.
      let found = reached empty_line (λ _. false) before after (Leave t) last empty_in_order run in
      waiter before (Leave t) found.0 t found.1 found.1.permitted;
  passes = λ before after last run s.
      let found = reached empty_line (λ _. false) before after Pass last empty_in_order run in
      not_among before Pass found.0 s found.1 (nobody_among found.0.waiting s found.1.permitted);
}

place_without : (ws : List ℕ) (s t : ℕ) → s ≢ t → place_of (without s ws) t ≤ place_of ws t
place_without [] s t other = omega arith
place_without (x ∷ ws) s t other =
    let rest = place_without ws s t other in
    let both : (x == s) ≡ true → (x == t) ≡ false = λ (e : (x == s) ≡ true). grind (arith, nat_tests) in
    (elim (x == s) as (λ (b : Bool). (b ≡ true → (x == t) ≡ false) → place_of (if b then without s ws else x ∷ without s ws) t ≤ place_of (x ∷ ws) t) [
      | true ↦ (λ apart. rw (apart refl) (omega arith))
      | false ↦ (λ apart. elim (x == t) as (λ (c : Bool). (if c then 0 else place_of (without s ws) t + 1) ≤ (if c then 0 else place_of ws t + 1))
          [ true ↦ omega arith | false ↦ omega arith ])
    ]) both

place_append : (ws ys : List ℕ) (t : ℕ) → is_among ws t ≡ true → place_of (ws ++ ys) t ≡ place_of ws t
place_append [] ys t among = absurd (false≢true among)
place_append (x ∷ ws) ys t among =
    (elim (x == t) as (λ (b : Bool). (b || is_among ws t) ≡ true → (if b then 0 else place_of (ws ++ ys) t + 1) ≡ (if b then 0 else place_of ws t + 1))
    [ true ↦ (λ a. refl) | false ↦ (λ a. ap (λ k. k + 1) (place_append ws ys t a)) ]) among

-- when the first enters, each other ticket is one place nearer
place_entered : (ws : List ℕ) (s t : ℕ) → s ≢ t → leads ws s ≡ true → place_of (without s ws) t + 1 ≤ place_of ws t
place_entered [] s t other leading = absurd (false≢true leading)
place_entered (x ∷ ws) s t other leading =
    let rest = place_without ws s t other in
    let here : (x == s) ≡ true = leading in
    let apart : (x == t) ≡ false = grind (arith, nat_tests) in
    rw (here, apart) (omega arith)

differ : (s t : ℕ) → (s == t) ≡ false → s ≢ t
differ s t apart is = grind (arith, nat_tests)

still : (ws : List ℕ) (s t : ℕ) → s ≢ t → is_among ws t ≡ true → is_among (without s ws) t ≡ true
still ws s t other among = not_among_without ws s t (λ (e : t ≡ s). other (sym e)) ∙ among

pub overtaking_is_bounded_law : (steps : List LineStep) (old new : Line) (t : ℕ)
    → IsTrue (is_among old.waiting t) → IsLineRun old steps new → (is_removed steps t ≡ false)
    → admissions steps + place_of new.waiting t ≤ place_of old.waiting t
overtaking_is_bounded_law [] old new t among run unremoved =
    let same : place_of old.waiting t ≡ place_of new.waiting t = ap (λ (line : Line). place_of line.waiting t) run in omega arith
overtaking_is_bounded_law (Arrive ∷ steps) old new t among run unremoved =
    let same = place_append old.waiting (old.issued ∷ []) t among in
    let among' : is_among (old.waiting ++ old.issued ∷ []) t ≡ true = among_append old.waiting (old.issued ∷ []) t ∙ rw among refl in
    let rest = overtaking_is_bounded_law steps (line_after old Arrive) new t among' run.1 unremoved in
    omega arith
overtaking_is_bounded_law (Enter s ∷ steps) old new t among run unremoved =
    let parts = or_parts (s == t) (is_removed steps t) unremoved in
    let other = differ s t parts.0 in
    let nearer = place_entered old.waiting s t other run.0 in
    let rest = overtaking_is_bounded_law steps (line_after old (Enter s)) new t (still old.waiting s t other among) run.1 parts.1 in
    omega arith
overtaking_is_bounded_law (Leave s ∷ steps) old new t among run unremoved =
    let parts = or_parts (s == t) (is_removed steps t) unremoved in
    let other = differ s t parts.0 in
    let nearer = place_without old.waiting s t other in
    let rest = overtaking_is_bounded_law steps (line_after old (Leave s)) new t (still old.waiting s t other among) run.1 parts.1 in
    omega arith
overtaking_is_bounded_law (Pass ∷ steps) old new t among run unremoved =
    absurd (false≢true (sym (nobody_among old.waiting t run.0) ∙ among))

one_more_place : (b : Bool) (place count : ℕ) → place ≤ count → (if b then 0 else place + 1) ≤ suc count
one_more_place true place count within = omega arith
one_more_place false place count within = omega arith

arrival_place : (ws : List ℕ) (t : ℕ) → place_of (ws ++ t ∷ []) t ≤ length ws
arrival_place [] t =
    let here : (t == t) ≡ true = grind (arith, nat_tests) in
    rw here (omega arith)
arrival_place (x ∷ ws) t = one_more_place (x == t) (place_of (ws ++ t ∷ []) t) (length ws) (arrival_place ws t)

arrival_waits : (ws : List ℕ) (t : ℕ) → is_among (ws ++ t ∷ []) t ≡ true
arrival_waits [] t =
    let here : (t == t) ≡ true = grind (arith, nat_tests) in
    rw here refl
arrival_waits (x ∷ ws) t =
    let rest = arrival_waits ws t in
    elim (x == t) as (λ (b : Bool). (b || is_among (ws ++ t ∷ []) t) ≡ true) [ true ↦ refl | false ↦ rest ]

pub arrivals_wait_for_few_law : (here last : Line) (steps : List LineStep)
    → IsLineRun (line_after here Arrive) steps last → is_removed steps here.issued ≡ false
    → admissions steps ≤ length here.waiting
arrivals_wait_for_few_law here last steps run stays =
    let waits : IsTrue (is_among (line_after here Arrive).waiting here.issued) = arrival_waits here.waiting here.issued in
    let few = overtaking_is_bounded_law steps (line_after here Arrive) last here.issued waits run stays in
    let place = arrival_place here.waiting here.issued in
    omega arith
