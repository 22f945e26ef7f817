-- The views of seats as parties of the rule.
use Rattle.std.proofs.Common.{◌≡◌, ℕ, zero, suc, Bool, true, false, List, [], ◌∷◌, slice_get, slice_set, sum_by, Some, refl, sym, ap, subst, ◌∙◌, arith}
use Rattle.std.proofs.lemmas.List.{map-set}
use Rattle.std.proofs.lemmas.Option.{slice_get-map, same_Some}
use mathlib.Core.Option.{some}
use lib.ListN.{get_elem?}
use Rattle.atomic_table.proofs.Lists.{set_again}
use Rattle.lock_modes.specs.declared.hold.Hold.{Hold}
use Rattle.lock_modes.specs.Limits.{IsLimit}
use Rattle.lock_word.specs.declared.want.ExWant.{ExWant}
use Rattle.lock_word.specs.Holders.{all_of}
use Rattle.lock_word.specs.BarredBags.{BarredBag, IsLegalBarredBag, bars_of}
use Rattle.lock_word.specs.Word.{word_of}
use Rattle.lock_word.proofs.Holders.{sum_by-slice_set}
use Rattle.lock_word.proofs.SeatKeeps.{seat_at}
use Rattle.lock_word.proofs.Words.{encoding_is_injective}
use Rattle.lock_one.specs.declared.sleep_view.SleepView.{SleepView}
use Rattle.lock_one.specs.declared.sleep_view.SleepState.TheVariants.{Awake, Asleep}
use Rattle.lock_one.specs.Machine.{core_of}
use Rattle.lock_one.specs.Rule.{holds_of}
use Rattle.lock_one.specs.Runs.{limits_in}
use Rattle.lock_one.specs.Steps.{Keeps}
use Rattle.lock_one_word.specs.declared.rule.OneView.{OneView}
use Rattle.lock_one_word.specs.Seats.{resting, parties_in}

pub party_at : (views : List OneView) (k : ℕ) (v : OneView) → get_elem? views k ≡ some v → slice_get (parties_in views) k ≡ Some (resting v)
party_at views k v h = rw (slice_get-map resting views k, seat_at views k v h)

each_rests : (views : List OneView) (k : ℕ) (p : SleepView) → slice_get (parties_in views) k ≡ Some p → p.sleep ≡ Awake
each_rests [] k p h = cc
each_rests (v ∷ views) zero p h = sym (ap (λ (q : SleepView). q.sleep) (same_Some (resting v) p h))
each_rests (v ∷ views) (suc k) p h = each_rests views k p h

-- while no party sleeps, the rule says nothing of what the parties owe
pub keeps_resting : (limit word : ℕ) (views : List OneView) (id : ℕ) (you : SleepView) (v : OneView) → v.held ≡ you.held
    → Keeps (limits_in limit) word (slice_set (parties_in views) id you) → Keeps (limits_in limit) word (parties_in (slice_set views id v))
keeps_resting limit word views id you v held was =
    let hs : holds_of (parties_in (slice_set views id v)) ≡ holds_of (slice_set (parties_in views) id you)
    = ap holds_of (map-set resting views id v)
    ∙ (map-set (λ (p : SleepView). p.held) (parties_in views) id (resting v)
    ∙ (ap (λ h. slice_set (holds_of (parties_in views)) id h) held ∙ sym (map-set (λ (p : SleepView). p.held) (parties_in views) id you))) in
    record {
      small = was.small;
      kept = record {
        coded = subst (λ h. core_of word ≡ word_of (all_of h)) (sym hs) was.kept.coded;
        legal = subst (λ h. IsLegalBarredBag limit (all_of h)) (sym hs) was.kept.legal;
        one_token = was.kept.one_token;
        no_turn = was.kept.no_turn;
        entitled = λ k p want is asleep. absurd (awake k p want is asleep);
        none_forgotten = λ k p want is asleep. absurd (awake k p want is asleep);
      };
    }
  where
    awake : (k : ℕ) (p : SleepView) (want : ExWant) → slice_get (parties_in (slice_set views id v)) k ≡ Some p → p.sleep ≡ Asleep want → ⊥
    awake k p want is asleep = let rests = each_rests (slice_set views id v) k p is in cc

-- a seat that keeps its view changes no view
pub same_views : (views : List OneView) (id : ℕ) (v : OneView) → get_elem? views id ≡ some v → slice_set views id v ≡ views
same_views views id v at = set_again views id v at

-- the word and the other holds determine what a party holds

same_flag : (a b : Bool) → bars_of a ≡ bars_of b → a ≡ b
same_flag true true h = refl
same_flag true false h = absurd (omega arith)
same_flag false true h = absurd (omega arith)
same_flag false false h = refl

same_hold_by : (a b : Hold) → a.bag.shared ≡ b.bag.shared → a.bag.exclusive ≡ b.bag.exclusive → a.bag.upgradable ≡ b.bag.upgradable → a.announced ≡ b.announced → a ≡ b
same_hold_by a b shared exclusive upgradable announced =
    λ i. record { bag = record { shared = shared i; exclusive = exclusive i; upgradable = upgradable i }; announced = announced i }

set_of : (views : List SleepView) (k : ℕ) (p : SleepView) → holds_of (slice_set views k p) ≡ slice_set (holds_of views) k p.held
set_of views k p = map-set (λ (q : SleepView). q.held) views k p

same_part : (f : Hold → ℕ) (hs : List Hold) (k : ℕ) (me a b : Hold) → slice_get hs k ≡ Some me
    → all_of (slice_set hs k a) ≡ all_of (slice_set hs k b) → (g : BarredBag → ℕ) → ((ys : List Hold) → g (all_of ys) ≡ sum_by f ys) → f a ≡ f b
same_part f hs k me a b at same g sums =
    let one = sum_by-slice_set f hs k me a at in
    let two = sum_by-slice_set f hs k me b at in
    let equal : sum_by f (slice_set hs k a) ≡ sum_by f (slice_set hs k b) = sym (sums (slice_set hs k a)) ∙ (ap g same ∙ sums (slice_set hs k b)) in
    omega arith

pub same_hold : (limit word : ℕ) (views : List SleepView) (k : ℕ) (me a b : SleepView) → IsLimit limit → slice_get views k ≡ Some me
    → Keeps (limits_in limit) word (slice_set views k a) → Keeps (limits_in limit) word (slice_set views k b) → a.held ≡ b.held
same_hold limit word views k me a b range at one two =
    let hs = holds_of views in
    let here : slice_get hs k ≡ Some me.held = rw (slice_get-map (λ (q : SleepView). q.held) views k, at) in
    let same_word : word_of (all_of (holds_of (slice_set views k a))) ≡ word_of (all_of (holds_of (slice_set views k b)))
    = sym one.kept.coded ∙ two.kept.coded in
    let all : all_of (holds_of (slice_set views k a)) ≡ all_of (holds_of (slice_set views k b))
    = encoding_is_injective limit (all_of (holds_of (slice_set views k a))) (all_of (holds_of (slice_set views k b))) range one.kept.legal two.kept.legal same_word in
    let same : all_of (slice_set hs k a.held) ≡ all_of (slice_set hs k b.held)
    = ap all_of (sym (set_of views k a)) ∙ (all ∙ ap all_of (set_of views k b)) in
    same_hold_by a.held b.held
    (same_part (λ (h : Hold). h.bag.shared) hs k me.held a.held b.held here same (λ (s : BarredBag). s.bag.shared) (λ ys. refl))
    (same_part (λ (h : Hold). h.bag.exclusive) hs k me.held a.held b.held here same (λ (s : BarredBag). s.bag.exclusive) (λ ys. refl))
    (same_part (λ (h : Hold). h.bag.upgradable) hs k me.held a.held b.held here same (λ (s : BarredBag). s.bag.upgradable) (λ ys. refl))
    (same_flag a.held.announced b.held.announced
    (same_part (λ (h : Hold). bars_of h.announced) hs k me.held a.held b.held here same (λ (s : BarredBag). s.bars) (λ ys. refl)))
