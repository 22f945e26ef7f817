-- Each kind of step of a call keeps the rule of an event count, as it keeps that of the machine.
use Rattle.std.proofs.Common.{Bool, true, false, ◌≡◌, ℕ, zero, suc, ◌+◌, ◌-◌, ◌%◌, ◌^◌, ◌≤◌, ◌==◌, if◌then◌else◌, bit_or, List, [], ◌∷◌, slice_get, slice_set, slice_index, Some, IsTrue, inl, inr, length, refl, sym, ap, subst, ◌∙◌, arith, length-set, get_or-set_same}
use Rattle.std.proofs.lemmas.Bool.{cases_lt}
use mathlib.Core.Option.{some, none, some-injective, some-ne-none}
use lib.ListN.{get_elem?}
use prog.Atomic.{either}
use Rattle.atomic_table.specs.Table.{step, keeps, opening, Allows, Enters}
use Rattle.lock_events.specs.declared.act.Begun.{Begun}
use Rattle.lock_events.specs.declared.action.EventAction.TheVariants as action
use Rattle.lock_events.specs.declared.stage.EventStage.TheVariants.{Lock, Wake, Notified}
use Rattle.lock_events.specs.Words.{decoded, one_wait}
use Rattle.lock_events.specs.Events.{waiting, notifying, action_of, event_to, wait_at, notify_at}
use Rattle.lock_events.specs.Kept.{is_registered, count_of, ReachesAt, Reaches, IsKept}
use Rattle.lock_events.specs.Runs.{made, answer, begun_call, answered}
use Rattle.lock_events.proofs.CallSums.{one_counts}
use Rattle.lock_events.proofs.Steps.{counts_one, ended, step_kept, leave, woken, joined, wait_joins, notify_joins, none_begun}
use Rattle.lock_events.proofs.WordLemmas.{has_one, zero_word}
use Rattle.lock_wake.specs.EventCounts.{Table, word_in, IsKeptIn, EveryStateWakesTheRegistered}
use Rattle.lock_wake.specs.EventPlays.{Self, BeginsToWait, BeginsToNotify, Exchanges, SetsBits, Leaves, Wakes}

at_slice : {A : Type 0} (l : List A) (i : ℕ) (a : A) → get_elem? l i ≡ some a → slice_get l i ≡ Some a
at_slice [] i a e = absurd (some-ne-none a (sym e))
at_slice (x ∷ xs) zero a e = ap Some (some-injective x a e)
at_slice (x ∷ xs) (suc i) a e = at_slice xs i a e

if_either : (b : Bool) (x y : ℕ) → (if b then x else y) ≡ either b x y
if_either true x y = refl
if_either false x y = refl

-- the word is n after the step
after_step : (s : Table) (n id : ℕ) (c : Begun) → IsKeptIn s → IsKept (decoded n) (slice_set s.views id c)
    → IsKeptIn record { words = slice_set s.words 0 n; homes = s.homes; views = slice_set s.views id c }
after_step s n id c kept after =
    let one = kept.one_word in
    let word : slice_index (slice_set s.words 0 n) 0 ≡ n = get_or-set_same s.words 0 n 0 (omega arith) in
    record {
      one_word = length-set s.words 0 n ∙ one;
      kept = subst (λ m. IsKept (decoded m) (slice_set s.views id c)) (sym word) after;
    }

pub exchanges : (slots id : ℕ) (me : Self) (old new : ℕ) → action_of me.0.call ≡ action.Exchange old new
    → Allows IsKeptIn slots id me 0 (λ n. either (n == old) new n) (Exchanges (step slots 0 old new none) me)
exchanges slots id me old new asks s kept same at small =
    let n = slice_index s.words 0 in
    let c = answered me.0 n (length s.views) in
    let after : IsKept (decoded (if n == old then new else n)) (slice_set s.views id c)
    = subst (λ a. IsKept (decoded (made a n)) (slice_set s.views id (answered me.0 (answer a n 0) (length s.views)))) asks
    (step_kept n s.views kept.kept id me.0 (at_slice s.views id me.0 at) 0) in (
      c,
      keeps,
      tt,
      after_step s (either (n == old) new n) id c kept (subst (λ m. IsKept (decoded m) (slice_set s.views id c)) (if_either (n == old) new n) after),
      (asks, refl),
    )

pub sets_bits : (slots id : ℕ) (me : Self) (bits : ℕ) → action_of me.0.call ≡ action.Or bits
    → Allows IsKeptIn slots id me 0 (λ n. bit_or n bits) (SetsBits (step slots 0 bits 0 none) me)
sets_bits slots id me bits asks s kept same at small =
    let n = slice_index s.words 0 in
    let c = answered me.0 n (length s.views) in (
      c,
      keeps,
      tt,
      after_step s (bit_or n bits) id c kept
          (subst (λ a. IsKept (decoded (made a n)) (slice_set s.views id (answered me.0 (answer a n 0) (length s.views)))) asks
          (step_kept n s.views kept.kept id me.0 (at_slice s.views id me.0 at) 0)),
      (asks, refl),
    )

pub leaves : (slots id : ℕ) (me : Self) → IsTrue (is_registered me.0.call.stage)
    → Allows IsKeptIn slots id me 0 (λ n. (n + (2 ^ 64 - one_wait)) % 2 ^ 64) (λ _. Leaves (step slots 0 one_wait 0 none) me)
leaves slots id me registered s kept same at small =
    let n = slice_index s.words 0 in
    let there = at_slice s.views id me.0 at in
    let c : Begun = record { call = event_to Lock me.0.call; before = me.0.before } in
    let one = counts_one me.0.call.stage registered in
    let some = one_counts count_of s.views id me.0 there in
    let counted = kept.kept.counted in
    let least : one_wait ≤ n = has_one n (omega arith) in
    let left : n - one_wait ≡ (n + (2 ^ 64 - one_wait)) % 2 ^ 64 = omega arith in (
      c,
      keeps,
      tt,
      after_step s ((n + (2 ^ 64 - one_wait)) % 2 ^ 64) id c kept
          (subst (λ m. IsKept (decoded m) (slice_set s.views id c)) left (leave n s.views kept.kept id me.0 there registered)),
      (refl, registered, refl),
    )

pub wakes : (slots id : ℕ) (me : Self) → me.0.call.stage ≡ Wake → Allows IsKeptIn slots id me 0 (λ n. n) (λ _. Wakes me)
wakes slots id me is s kept same at small =
    let n = slice_index s.words 0 in
    let c : Begun = record { call = event_to Notified me.0.call; before = me.0.before } in (
      c,
      keeps,
      tt,
      after_step s n id c kept (woken n s.views kept.kept id me.0 (at_slice s.views id me.0 at) is),
      (is, refl),
    )

pub begins_to_wait : (slots : ℕ) → Enters IsKeptIn slots 0 (λ n w. BeginsToWait n (w, []))
begins_to_wait slots s kept same small = (
  begun_call (wait_at (slice_index s.words 0) waiting),
  record { one_word = kept.one_word; kept = wait_joins (slice_index s.words 0) s.views kept.kept },
  refl,
)

pub begins_to_notify : (all : Bool) (slots : ℕ) → Enters IsKeptIn slots 0 (λ n w. BeginsToNotify all n (w, []))
begins_to_notify all slots s kept same small = (
  begun_call (notify_at (slice_index s.words 0) (notifying all)),
  record { one_word = kept.one_word; kept = notify_joins all (slice_index s.words 0) s.views kept.kept },
  refl,
)

pub at_start : IsKeptIn (opening (0 ∷ []) [] (begun_call waiting))
at_start =
    record {
      one_word = refl;
      kept = joined (decoded 0) [] (none_begun (decoded 0) (ap (λ v. v.count) zero_word)) waiting refl tt (λ watched some early claims. tt);
    }

-- a notification that has ended reached the wait
reached : (s : Table) → IsKeptIn s → (k n : ℕ) (wait note : Begun) → get_elem? s.views k ≡ some wait → get_elem? s.views n ≡ some note
    → IsTrue (is_registered wait.call.stage) → wait.before ≤ n → Reaches (word_in s).epoch wait.call.epoch note.call
reached s kept k n wait note iw inn registered later =
    kept.kept.reached k n wait note (at_slice s.views k wait iw) (at_slice s.views n note inn) registered later

pub every_state_wakes_the_registered : EveryStateWakesTheRegistered (λ u. IsKeptIn)
every_state_wakes_the_registered u s kept =
    record {
      ended = λ k n wait note iw inn registered sleeps woke.
          elim (cases_lt n wait.before) [
            | inl earlier ↦ earlier
            | inr later ↦
                absurd
                (let by = subst (λ x. ReachesAt x (word_in s).epoch wait.call.epoch note.call.epoch (decoded note.call.loaded).count) woke.0
                (reached s kept k n wait note iw inn registered later) in
                sleeps n note later inn woke by.0)
          ];
      parks = λ k n wait note iw inn registered now over.
          elim (cases_lt n wait.before) [
            | inl earlier ↦ earlier
            | inr later ↦
                absurd
                (let past = ended note.call.stage (word_in s).epoch wait.call.epoch note.call.epoch (decoded note.call.loaded).count over
                (reached s kept k n wait note iw inn registered later) in omega arith)
          ];
      missed = λ k n wait note iw inn registered missed.
          elim (cases_lt n wait.before) [
            | inl earlier ↦ earlier
            | inr later ↦
                absurd
                (let by = subst (λ x. ReachesAt x (word_in s).epoch wait.call.epoch note.call.epoch (decoded note.call.loaded).count) missed.0
                (reached s kept k n wait note iw inn registered later) in
                let found = by.1 in let none = missed.1 in omega arith)
          ];
      known = λ k wait iw registered. (kept.kept.each k wait (at_slice s.views k wait iw)).known registered;
      early = λ k wait iw registered. (kept.kept.each k wait (at_slice s.views k wait iw)).early registered;
      counted = kept.kept.counted;
    }
