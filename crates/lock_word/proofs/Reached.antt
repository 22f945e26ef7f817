-- A world that steps have reached: each step keeps it one, and the steps that were done are a run of the modes.
use Rattle.std.proofs.Common.{◌≡◌, ◌≢◌, ℕ, zero, suc, ◌+◌, ◌-◌, ◌^◌, ◌<◌, ◌≤◌, List, [], ◌∷◌, ◌++◌, replicate, slice_get, slice_set, Option, Some, None, IsTrue, refl, sym, ap, subst, ◌∙◌, arith, eqb-true, eq-eqb, ne_eqb, lit<, ◌==◌}
use Rattle.std.proofs.lemmas.Bool.{eqb-false}
use Rattle.std.proofs.lemmas.Option.{same_Some}
use Rattle.lock_modes.specs.declared.fault.Fault.{Fault}
use Rattle.lock_modes.specs.declared.fault.Fault.TheVariants as fault
use Rattle.lock_modes.specs.declared.hold.Hold.{Hold}
use Rattle.lock_modes.specs.declared.lock_step.LockStep.{LockStep}
use Rattle.lock_modes.specs.Limits.{IsLimit}
use Rattle.lock_modes.specs.Modes.{empty_bag}
use Rattle.lock_modes.specs.Holds.{no_hold, hold_has, hold_after}
use Rattle.lock_modes.proofs.ModeLemmas.{compatible_empty}
use Rattle.lock_word.specs.declared.party.WorldParty.{WorldParty}
use Rattle.lock_word.specs.declared.step.AtomicStep.{AtomicStep}
use Rattle.lock_word.specs.declared.step.AtomicStep.TheVariants.{Load, Exchange, Take}
use Rattle.lock_word.specs.declared.step.Outcome.{Outcome}
use Rattle.lock_word.specs.declared.step.Outcome.TheVariants.{Loaded, Done, NotAdmitted, Changed, Refused}
use Rattle.lock_word.specs.BarredBags.{IsLegalBarredBag, without_bars, PermitsLockStep}
use Rattle.lock_word.specs.Holders.{holder_at, all_of, HolderStep, IsHolderRun}
use Rattle.lock_word.specs.Word.{word_of, step_of_want, step_of_down, barred_bag_of_word, IsPacked}
use Rattle.lock_word.specs.Turns.{WordTurn, idle, with_load, after_win, after_fail, without_load, turn, party_of, steps_after, CanStep}
use Rattle.lock_word.specs.Rule.{holds, held_by_all, others_wins, IsBehind, KeepsRule}
use Rattle.lock_word.specs.Worlds.{WorldState, Stepped, after_turn, after_step, after_step_of, new_world, world_after, holder_step, HasPackedLoad, IsReachable}
use Rattle.lock_word.specs.Claims.{Leaves, changes_from}
use Rattle.lock_word.proofs.Holders.{all_of_none}
use Rattle.lock_word.proofs.Words.{permits_down, parts_of_word, bag_of_word_of}
use Rattle.lock_word.proofs.Rules.{slice_set_same, holds_at, holds_set, holds_same, each_after, part_of_parties, has_of_all, permits_of_rule}
use Rattle.lock_word.proofs.Effects.{Effect, is_refused, is_load, is_not_admitted, is_changed, is_exchange, is_take, of_both, effect, keeps_turn}

-- all that a step of a world can be
pub data StepEffect (w : WorldState) (s : AtomicStep) (r : Stepped) : Type 0 where
  none_made : (f : Fault) → (w.steps < 2 ^ 64 - 1 → holder_at w.parties (party_of s) ≡ None)
      → r ≡ record { world = w; outcome = Refused f }
      → StepEffect w s r
  one_made : (k : ℕ) (me : WorldParty) (t : WordTurn) → party_of s ≡ suc k → slice_get w.parties k ≡ Some me
      → w.steps ≢ 2 ^ 64 - 1 → Effect w.readers w.word me s t → r ≡ after_turn w k t
      → StepEffect w s r

effect_at : (w : WorldState) (s : AtomicStep) (p : ℕ) (o : Option WorldParty) → party_of s ≡ p
    → holder_at w.parties p ≡ o → w.steps ≢ 2 ^ 64 - 1
    → StepEffect w s (after_step_of w s o)
effect_at w s p None is at more = none_made fault.UnknownParty (λ h. ap (λ n. holder_at w.parties n) is ∙ at) refl
effect_at w s zero (Some me) is at more = cc
effect_at w s (suc k) (Some me) is at more =
    let index : party_of s - 1 ≡ k = omega arith in
    one_made k me (turn w.readers w.word me s) is at more (effect w.readers w.word me s)
    (ap (λ n. after_turn w n (turn w.readers w.word me s)) index)

pub step_effect : (w : WorldState) (s : AtomicStep) → StepEffect w s (after_step w s)
unfolding after_step
step_effect w s =
    of_both (StepEffect w s) (w.steps == 2 ^ 64 - 1) _ _
    (λ h. let e = eqb-true w.steps (2 ^ 64 - 1) h in none_made fault.NumbersSpent (λ less. absurd (omega arith)) refl)
    (λ h. effect_at w s (party_of s) (holder_at w.parties (party_of s)) refl refl (eqb-false w.steps (2 ^ 64 - 1) h))

-- what a program has to know before a turn

pub can_step : (w : WorldState) (k : ℕ) (me : WorldParty) → IsReachable w → slice_get w.parties k ≡ Some me
    → w.steps < 2 ^ 64 - 1 → CanStep w.word me
can_step w k me h at more =
    let part = part_of_parties w.parties k me at in
    let parts = parts_of_word w.readers (held_by_all w.parties) h.limit.1 h.rule.legal in
    let small = parts.small in
    let coded = h.rule.coded in
    let counted = h.counted k me at in
    record { part = omega arith; small = omega arith; wins = omega arith; fails = omega arith }

pub stepped_spent : (w : WorldState) (s : AtomicStep) → w.steps ≡ 2 ^ 64 - 1
    → after_step w s ≡ record { world = w; outcome = Refused fault.NumbersSpent }
unfolding after_step
stepped_spent w s h = rw (eq-eqb w.steps (2 ^ 64 - 1) h)

pub stepped_unknown : (w : WorldState) (s : AtomicStep) → w.steps < 2 ^ 64 - 1
    → holder_at w.parties (party_of s) ≡ None
    → after_step w s ≡ record { world = w; outcome = Refused fault.UnknownParty }
unfolding after_step
stepped_unknown w s h none = rw (ne_eqb w.steps (2 ^ 64 - 1) (λ e. omega arith), none)

pub stepped_at : (w : WorldState) (s : AtomicStep) (k : ℕ) (me : WorldParty) → w.steps < 2 ^ 64 - 1
    → party_of s ≡ k + 1 → slice_get w.parties k ≡ Some me
    → after_step w s ≡ after_turn w k (turn w.readers w.word me s)
unfolding after_step
stepped_at w s k me h is at =
    let there : holder_at w.parties (party_of s) ≡ Some me = (let e : party_of s ≡ suc k = omega arith in rw e at) in
    let index : party_of s - 1 ≡ k = omega arith in
    rw (ne_eqb w.steps (2 ^ 64 - 1) (λ e. omega arith), there, index)

-- the same from what a program has computed
pub stepped_is : (w : WorldState) (s : AtomicStep) (k : ℕ) (me : WorldParty) (t : WordTurn) (steps : ℕ) → w.steps < 2 ^ 64 - 1
    → party_of s ≡ k + 1 → slice_get w.parties k ≡ Some me
    → t.word ≡ (turn w.readers w.word me s).word → t.party ≡ (turn w.readers w.word me s).party
    → t.outcome ≡ (turn w.readers w.word me s).outcome → steps ≡ steps_after w.steps t.outcome
    → after_step w s ≡ record {
      world = record { word = t.word; readers = w.readers; steps = steps; parties = slice_set w.parties k t.party };
      outcome = t.outcome;
    }
stepped_is w s k me t steps more is at word party outcome counted =
    rw (counted, outcome, party, word) (stepped_at w s k me more is at)

-- a world that was reached leads to another

-- the steps done never go back
pub steps_grow : (n : ℕ) (o : Outcome) → (n ≤ steps_after n o) × (steps_after n o ≤ n + 1)
steps_grow n (Refused f) = (omega arith, omega arith)
steps_grow n (Loaded w) = (omega arith, omega arith)
steps_grow n Done = (omega arith, omega arith)
steps_grow n NotAdmitted = (omega arith, omega arith)
steps_grow n Changed = (omega arith, omega arith)

-- a party's wins and fails stay within the steps done
counted_turn : (limit word n : ℕ) (me : WorldParty) (s : AtomicStep) (t : WordTurn) → me.wins + me.fails ≤ n
    → Effect limit word me s t → t.party.wins + t.party.fails ≤ steps_after n t.outcome
counted_turn limit word n me s t h e =
    let Within : WordTurn → Type 0 = λ u. u.party.wins + u.party.fails ≤ steps_after n u.outcome in
    elim e [
      | is_refused f x q ↦ subst Within (sym q) h
      | is_load p a q ↦ subst Within (sym q) (omega arith)
      | is_not_admitted p want loaded a was refuses q ↦ subst Within (sym q) (omega arith)
      | is_changed p want loaded a was other q ↦ subst Within (sym q) (omega arith)
      | is_exchange p want a own was admits q ↦ subst Within (sym q) (omega arith)
      | is_take p d a own q ↦ subst Within (sym q) (omega arith)
    ]

-- the word of all that is held is packed
pub packed_word : (limit word : ℕ) (ps : List WorldParty) → IsLimit limit → KeepsRule limit word ps → IsPacked limit word
packed_word limit word ps range rule =
    let all = held_by_all ps in
    let same : barred_bag_of_word word ≡ all
    = ap barred_bag_of_word rule.coded ∙ bag_of_word_of limit all range.1 rule.legal in
    record { coded = rule.coded ∙ ap word_of (sym same); legal = subst (IsLegalBarredBag limit) (sym same) rule.legal }

-- a load that is open after a turn is the word, or was open before
load_turn_packed : (limit word : ℕ) (me : WorldParty) (s : AtomicStep) (t : WordTurn) → IsPacked limit word
    → HasPackedLoad limit me → Effect limit word me s t → HasPackedLoad limit t.party
load_turn_packed limit word me s t packed before e =
    let Packed : WordTurn → Type 0 = λ u. HasPackedLoad limit u.party in
    elim e [
      | is_refused f x q ↦ subst Packed (sym q) before
      | is_load p a q ↦
          subst Packed (sym q) (λ loaded is. subst (IsPacked limit) (same_Some word loaded is) packed)
      | is_not_admitted p want loaded a was refuses q ↦ subst Packed (sym q) (λ loaded is. cc)
      | is_changed p want loaded a was other q ↦ subst Packed (sym q) (λ loaded is. cc)
      | is_exchange p want a own was admits q ↦ subst Packed (sym q) (λ loaded is. cc)
      | is_take p d a own q ↦ subst Packed (sym q) (λ loaded is. cc)
    ]

pub reachable_step : (w : WorldState) (s : AtomicStep) (r : Stepped) → IsReachable w → StepEffect w s r
    → IsReachable r.world
reachable_step w s r h e =
    let Reached : Stepped → Type 0 = λ x. IsReachable x.world in
    elim e [
      | none_made f x q ↦ subst Reached (sym q) h
      | one_made k me t is at more made q ↦
          (let grow = steps_grow w.steps t.outcome in
          let fit = h.steps_fit in
          subst Reached (sym q) record {
            limit = h.limit;
            steps_fit = omega arith;
            rule = keeps_turn w.readers w.word w.parties k me s t h.limit h.rule at made;
            counted =
                each_after (λ (x : WorldParty). x.wins + x.fails ≤ steps_after w.steps t.outcome) w.parties k t.party
                (counted_turn w.readers w.word w.steps me s t (h.counted k me at) made)
                (λ j x n at_j. let before = h.counted j x at_j in omega arith);
            loads =
                each_after (HasPackedLoad w.readers) w.parties k t.party
                (load_turn_packed w.readers w.word me s t (packed_word w.readers w.word w.parties h.limit h.rule)
                (h.loads k me at) made)
                (λ j x n at_j. h.loads j x at_j);
          })
    ]

pub reachable_after : (w : WorldState) (ss : List AtomicStep) → IsReachable w → IsReachable (world_after w ss)
reachable_after w [] h = h
reachable_after w (s ∷ ss) h = reachable_after (after_step w s).world ss (reachable_step w s (after_step w s) h (step_effect w s))

-- the limit of a world stays
readers_step : (w : WorldState) (s : AtomicStep) (r : Stepped) → StepEffect w s r → r.world.readers ≡ w.readers
readers_step w s r e =
    elim e [
      | none_made f x q ↦ ap (λ x. x.world.readers) q
      | one_made k me t is at more made q ↦ ap (λ x. x.world.readers) q
    ]

pub readers_after : (w : WorldState) (ss : List AtomicStep) → (world_after w ss).readers ≡ w.readers
readers_after w [] = refl
readers_after w (s ∷ ss) = readers_after (after_step w s).world ss ∙ readers_step w s (after_step w s) (step_effect w s)

-- a new world is reached, by no step

pub get_of_replicate : {X : Type 0} (n k : ℕ) (x y : X) → slice_get (replicate n x) k ≡ Some y → y ≡ x
get_of_replicate zero k x y h = cc
get_of_replicate (suc n) zero x y h = cc
get_of_replicate (suc n) (suc k) x y h = get_of_replicate n k x y h

holds_of_idle : (n : ℕ) → holds (replicate n idle) ≡ replicate n no_hold
holds_of_idle zero = refl
holds_of_idle (suc n) = ap (λ held. no_hold ∷ held) (holds_of_idle n)

pub held_by_idle : (n : ℕ) → held_by_all (replicate n idle) ≡ without_bars empty_bag
held_by_idle n = ap all_of (holds_of_idle n) ∙ all_of_none n

pub reachable_new : (count limit : ℕ) → IsLimit limit → IsReachable (new_world count limit)
reachable_new count limit range =
    let none = held_by_idle count in
    record {
      limit = range;
      steps_fit = lit< tt;
      rule =
          record {
            coded = sym (ap word_of none);
            legal =
                subst (IsLegalBarredBag limit) (sym none)
                (record { compatible = compatible_empty limit; one_bar = omega arith });
            behind = λ k me at.
                subst (λ q. IsBehind (others_wins (replicate count idle) q) 0 q)
                (sym (get_of_replicate count k idle me at))
                record { bounded = omega arith; open_load = λ w e d. cc };
          };
      counted = λ k me at.
          subst (λ (q : WorldParty). q.wins + q.fails ≤ 0) (sym (get_of_replicate count k idle me at)) (omega arith);
      loads = λ k me at.
          subst (HasPackedLoad limit) (sym (get_of_replicate count k idle me at)) (λ loaded is. cc);
    }

-- the steps that were done are a run of the modes

-- one change of modes by the party at k
one_step : (limit : ℕ) (ps : List WorldParty) (k p : ℕ) (me : WorldParty) (s : LockStep) → p ≡ suc k
    → slice_get ps k ≡ Some me → IsTrue (hold_has me.held s) → PermitsLockStep me.held.announced limit (held_by_all ps) s
    → IsHolderRun limit (holds ps) (record { holder = p; step = s } ∷ []) (holds (slice_set ps k (after_win me s)))
one_step limit ps k p me s is at own permitted =
    let index : p - 1 ≡ k = omega arith in (
      holds (slice_set ps k (after_win me s)),
      record {
        own = me.held;
        is_own = rw is (holds_at ps k me at);
        had = own;
        permitted = permitted;
        changed = holds_set ps k (after_win me s) ∙ ap (λ n. slice_set (holds ps) n (hold_after me.held s)) (sym index);
      },
      refl,
    )

-- along equations of the step and of the turn
along : (limit k : ℕ) (ps : List WorldParty) {s x : AtomicStep} {t u : WordTurn} → s ≡ x → t ≡ u
    → IsHolderRun limit (holds ps) (holder_step x u.outcome) (holds (slice_set ps k u.party))
    → IsHolderRun limit (holds ps) (holder_step s t.outcome) (holds (slice_set ps k t.party))
along limit k ps {s} {x} {t} {u} a q h =
    let After : WordTurn → Type 0 = λ v. IsHolderRun limit (holds ps) (holder_step x v.outcome) (holds (slice_set ps k v.party)) in
    subst (λ y. IsHolderRun limit (holds ps) (holder_step y t.outcome) (holds (slice_set ps k t.party))) (sym a)
    (subst After (sym q) h)

-- a refused step makes no change of modes
no_step : (limit : ℕ) (s : AtomicStep) (f : Fault) (before after : List Hold) → before ≡ after
    → IsHolderRun limit before (holder_step s (Refused f)) after
no_step limit (Load p) f before after same = same
no_step limit (Exchange p want) f before after same = same
no_step limit (Take p d) f before after same = same

run_of_turn : (limit word k : ℕ) (ps : List WorldParty) (me : WorldParty) (s : AtomicStep) (t : WordTurn) → IsLimit limit
    → KeepsRule limit word ps → party_of s ≡ suc k → slice_get ps k ≡ Some me → Effect limit word me s t
    → IsHolderRun limit (holds ps) (holder_step s t.outcome) (holds (slice_set ps k t.party))
run_of_turn limit word k ps me s t range rule is at e =
    elim e [
      | is_refused f x q ↦
          along limit k ps refl q
          (no_step limit s f (holds ps) (holds (slice_set ps k me)) (sym (holds_same ps k me me at refl)))
      | is_load p a q ↦ along limit k ps a q (sym (holds_same ps k me (with_load me word) at refl))
      | is_not_admitted p want loaded a was refuses q ↦
          along limit k ps a q (sym (holds_same ps k me (without_load me) at refl))
      | is_changed p want loaded a was other q ↦ along limit k ps a q (sym (holds_same ps k me (after_fail me) at refl))
      | is_exchange p want a own was admits q ↦
          along limit k ps a q
          (one_step limit ps k p me (step_of_want want) (sym (ap party_of a) ∙ is) at own
          (permits_of_rule limit word ps k me want range rule at admits))
      | is_take p d a own q ↦
          along limit k ps a q
          (one_step limit ps k p me (step_of_down d) (sym (ap party_of a) ∙ is) at own
          (permits_down me.held.announced limit (held_by_all ps) d (has_of_all ps k me (step_of_down d) at own)))
    ]

run_of_step : (w : WorldState) (s : AtomicStep) (r : Stepped) → IsReachable w → StepEffect w s r
    → IsHolderRun w.readers (holds w.parties) (holder_step s r.outcome) (holds r.world.parties)
run_of_step w s r h e =
    let Runs : Stepped → Type 0 = λ x. IsHolderRun w.readers (holds w.parties) (holder_step s x.outcome) (holds x.world.parties) in
    elim e [
      | none_made f x q ↦ subst Runs (sym q) (no_step w.readers s f (holds w.parties) (holds w.parties) refl)
      | one_made k me t is at more made q ↦
          subst Runs (sym q) (run_of_turn w.readers w.word k w.parties me s t h.limit h.rule is at made)
    ]

-- one run after another
joined_runs : (limit : ℕ) (first second : List HolderStep) (a b c : List Hold) → IsHolderRun limit a first b
    → IsHolderRun limit b second c → IsHolderRun limit a (first ++ second) c
joined_runs limit [] second a b c f g = subst (λ x. IsHolderRun limit x second c) (sym f) g
joined_runs limit (s ∷ ss) second a b c f g = (f.0, f.1, joined_runs limit ss second f.0 b c f.2 g)

pub run_of_steps : (w : WorldState) (ss : List AtomicStep) → IsReachable w
    → IsHolderRun w.readers (holds w.parties) (changes_from w ss) (holds (world_after w ss).parties)
run_of_steps w [] h = refl
run_of_steps w (s ∷ ss) h =
    let v = (after_step w s).world in
    let last = holds (world_after v ss).parties in
    let made = step_effect w s in
    let rest = run_of_steps v ss (reachable_step w s (after_step w s) h made) in
    joined_runs w.readers (holder_step s (after_step w s).outcome) (changes_from v ss) (holds w.parties) (holds v.parties) last
    (run_of_step w s (after_step w s) h made)
    (subst (λ n. IsHolderRun n (holds v.parties) (changes_from v ss) last) (readers_step w s (after_step w s) made) rest)

-- what a step leaves

leaves_turn : (w : WorldState) (s : AtomicStep) (k : ℕ) (me : WorldParty) (t : WordTurn) → slice_get w.parties k ≡ Some me
    → Effect w.readers w.word me s t → Leaves t.outcome w (after_turn w k t).world
leaves_turn w s k me t at e =
    let Left : WordTurn → Type 0 = λ u. Leaves u.outcome w (after_turn w k u).world in
    let By : List WorldParty → WorldState = λ ps. record { word = w.word; readers = w.readers; steps = w.steps; parties = ps } in
    elim e [
      | is_refused f x p ↦ subst Left (sym p) (ap By (slice_set_same w.parties k me at))
      | is_load n a p ↦ subst Left (sym p) (refl, (refl, holds_same w.parties k me (with_load me w.word) at refl))
      | is_not_admitted n want loaded a was refuses p ↦
          subst Left (sym p) (refl, holds_same w.parties k me (without_load me) at refl)
      | is_changed n want loaded a was other p ↦ subst Left (sym p) (refl, holds_same w.parties k me (after_fail me) at refl)
      | is_exchange n want a own was admits p ↦ subst Left (sym p) tt
      | is_take n d a own p ↦ subst Left (sym p) tt
    ]

pub leaves_step : (w : WorldState) (s : AtomicStep) (r : Stepped) → StepEffect w s r → Leaves r.outcome w r.world
leaves_step w s r e =
    let Left : Stepped → Type 0 = λ x. Leaves x.outcome w x.world in
    elim e [
      | none_made f x q ↦ subst Left (sym q) refl
      | one_made k me t is at more made q ↦ subst Left (sym q) (leaves_turn w s k me t at made)
    ]
