-- A party's open load is the word at its last load, and since then the others' wins have not fallen. So an exchange
-- that is not admitted was not permitted there, and one that finds another word comes after a win of another.
use Rattle.std.proofs.Common.{◌≡◌, ◌≢◌, ℕ, zero, suc, ◌+◌, ◌-◌, ◌^◌, ◌<◌, ◌≤◌, ◌⊎◌, inl, inr, Bool, false, IsTrue, List, [], ◌∷◌, slice_get, slice_set, Some, None, refl, sym, ap, subst, ◌∙◌, arith, true≢false}
use Rattle.std.proofs.lemmas.Option.{same_Some}
use Rattle.lock_modes.specs.declared.hold.Hold.{Hold}
use Rattle.lock_modes.specs.Limits.{IsLimit}
use Rattle.lock_word.specs.BarredBags.{IsLegalBarredBag, PermitsLockStep}
use Rattle.lock_word.specs.declared.want.ExWant.{ExWant}
use Rattle.lock_word.specs.declared.party.WorldParty.{WorldParty}
use Rattle.lock_word.specs.declared.step.AtomicStep.{AtomicStep}
use Rattle.lock_word.specs.declared.step.AtomicStep.TheVariants.{Load, Exchange, Take}
use Rattle.lock_word.specs.declared.step.Outcome.TheVariants.{Done, NotAdmitted, Changed, Refused}
use Rattle.lock_word.specs.Holders.{holder_at}
use Rattle.lock_word.specs.Word.{word_admits, step_of_want, barred_bag_of_word}
use Rattle.lock_word.specs.Turns.{WordTurn, idle, party_of, steps_after}
use Rattle.lock_word.specs.Rule.{all_wins, others_wins, held_by_all}
use Rattle.lock_word.specs.Worlds.{WorldState, Stepped, after_turn, after_step, new_world, world_after, IsReachable}
use Rattle.lock_word.specs.Claims.{NoLoadBy, IsLastLoad, LastLoadRefuses, LastLoadOutrun, OpenLoadRefuses, IsRefusedByLoad, AreRefusedByLoads}
use Rattle.lock_word.proofs.Words.{word_of_permits}
use Rattle.lock_word.proofs.Rules.{changed_or_not, all_wins_set, wins_within}
use Rattle.lock_word.proofs.Effects.{Effect, is_refused, is_load, is_not_admitted, is_changed, is_exchange, is_take}
use Rattle.lock_word.proofs.Reached.{StepEffect, none_made, one_made, step_effect, steps_grow, reachable_step, reachable_after, readers_after, reachable_new, get_of_replicate}

-- the party has this word open
pub record IsOpen (w : WorldState) (p loaded : ℕ) : Type 0 where
  pub me : WorldParty
  pub at : holder_at w.parties p ≡ Some me
  pub open_load : me.loaded ≡ Some loaded

-- a turn that spends the open load leaves none
none_left : (t u : WordTurn) (loaded : ℕ) → t ≡ u → u.party.loaded ≡ None → t.party.loaded ≡ Some loaded → ⊥
none_left t u loaded same none is_open =
    let n : None ≡ Some loaded = sym none ∙ sym (ap (λ x. x.party.loaded) same) ∙ is_open in
    cc

-- where a load that is open was made

-- the step is no load of the party
IsNoLoad : AtomicStep → ℕ → Type 0
IsNoLoad s p = (q : ℕ) → s ≡ Load q → q ≢ p

no_load_cons : (p : ℕ) (s : AtomicStep) (ss : List AtomicStep) → IsNoLoad s p → NoLoadBy p ss → NoLoadBy p (s ∷ ss)
unfolding IsNoLoad
no_load_cons p (Load q) ss other rest = (other q refl, rest)
no_load_cons p (Exchange q want) ss other rest = rest
no_load_cons p (Take q d) ss other rest = rest

-- a load that is open after a step was made by that step, or was open before it
Before : WorldState → ℕ → ℕ → AtomicStep → Type 0
Before w p loaded s = ((s ≡ Load p) × (w.word ≡ loaded)) ⊎ (IsOpen w p loaded × IsNoLoad s p)

of_turn : (w : WorldState) (s : AtomicStep) (k loaded : ℕ) (me : WorldParty) (t : WordTurn) → party_of s ≡ suc k
    → slice_get w.parties k ≡ Some me → Effect w.readers w.word me s t → t.party.loaded ≡ Some loaded
    → Before w (suc k) loaded s
unfolding Before IsNoLoad
of_turn w s k loaded me t is at e is_open =
    elim e [
      | is_refused f x q ↦ inr (
        record { me = me; at = at; open_load = sym (ap (λ u. u.party.loaded) q) ∙ is_open },
        λ n h. absurd (x n h),
      )
      | is_load p a q ↦ inl (
        a ∙ ap Load (sym (ap party_of a) ∙ is),
        same_Some w.word loaded (sym (ap (λ u. u.party.loaded) q) ∙ is_open),
      )
      | is_not_admitted p want was a x refuses q ↦ absurd (none_left t _ loaded q refl is_open)
      | is_changed p want was a x other q ↦ absurd (none_left t _ loaded q refl is_open)
      | is_exchange p want a own x admits q ↦ absurd (none_left t _ loaded q refl is_open)
      | is_take p d a own q ↦ absurd (none_left t _ loaded q refl is_open)
    ]

open_before : (w : WorldState) (s : AtomicStep) (p loaded : ℕ) (r : Stepped) → w.steps < 2 ^ 64 - 1 → StepEffect w s r
    → IsOpen r.world p loaded → Before w p loaded s
unfolding Before IsNoLoad
open_before w s zero loaded r more e o = let at = o.at in cc
open_before w s (suc j) loaded r more e o =
    elim e [
      | none_made f none same ↦
          (let there : slice_get w.parties j ≡ Some o.me = sym (ap (λ x. slice_get x.world.parties j) same) ∙ o.at in
          inr (
            record { me = o.me; at = there; open_load = o.open_load },
            λ n h p.
                (let nobody : holder_at w.parties (party_of s) ≡ None = none more in
                let is : party_of s ≡ suc j = ap party_of h ∙ p in
                let here : holder_at w.parties (party_of s) ≡ Some o.me = ap (λ m. holder_at w.parties m) is ∙ there in
                cc),
          ))
      | one_made k me t is there steps made same ↦
          (let found : slice_get (slice_set w.parties k t.party) j ≡ Some o.me
          = sym (ap (λ x. slice_get x.world.parties j) same) ∙ o.at in
          elim (changed_or_not w.parties k j t.party o.me found) [
            | inl h ↦
                subst (λ n. Before w (suc n) loaded s) (sym h.0)
                (of_turn w s k loaded me t is there made (sym (ap (λ (x : WorldParty). x.loaded) h.1) ∙ o.open_load))
            | inr h ↦ inr (
              record { me = o.me; at = h.1; open_load = o.open_load },
              λ n g p. (let e : suc k ≡ suc j = sym is ∙ (ap party_of g ∙ p) in h.0 (omega arith)),
            )
          ])
    ]

-- what has happened since

-- from one world to a later one: the others' wins have not fallen, and have grown where the word is another. What the
-- party holds is the same, since it has a load open
record Since (w v : WorldState) (p : ℕ) : Type 0 where
  past : WorldParty
  now : WorldParty
  was : holder_at w.parties p ≡ Some past
  is : holder_at v.parties p ≡ Some now
  grows : others_wins w.parties past ≤ others_wins v.parties now
  held : now.held ≡ past.held
  moved : (w.word ≡ v.word) ⊎ (others_wins w.parties past < others_wins v.parties now)

since_same : (w v : WorldState) (p : ℕ) (q : WorldParty) → v ≡ w → holder_at v.parties p ≡ Some q → Since w v p
since_same w v p q e at =
    record {
      past = q;
      now = q;
      was = sym (ap (λ x. holder_at x.parties p) e) ∙ at;
      is = at;
      grows = (let same : all_wins v.parties ≡ all_wins w.parties = ap (λ x. all_wins x.parties) e in omega arith);
      held = refl;
      moved = inl (sym (ap (λ x. x.word) e));
    }

since_then : (w v u : WorldState) (p : ℕ) → Since w v p → Since v u p → Since w u p
since_then w v u p f g =
    let between : f.now ≡ g.past = same_Some f.now g.past (sym f.is ∙ g.was) in
    let same : others_wins v.parties f.now ≡ others_wins v.parties g.past = ap (others_wins v.parties) between in
    let first = f.grows in
    let second = g.grows in
    record {
      past = f.past;
      now = g.now;
      was = f.was;
      is = g.is;
      grows = omega arith;
      held = g.held ∙ (sym (ap (λ (x : WorldParty). x.held) between) ∙ f.held);
      moved = elim f.moved [
        | inl a ↦ elim g.moved [ inl b ↦ inl (a ∙ b) | inr b ↦ inr (omega arith) ]
        | inr a ↦ inr (omega arith)
      ];
    }

-- a turn wins nothing and leaves the word, or it wins and spends the open load
data Wins (w : WorldState) (me : WorldParty) (t : WordTurn) : Type 0 where
  wins_nothing : t.party.wins ≡ me.wins → w.word ≡ t.word → t.party.held ≡ me.held → Wins w me t
  wins_once : t.party.wins ≡ me.wins + 1 → t.party.loaded ≡ None → Wins w me t

wins_of : (w : WorldState) (s : AtomicStep) (me : WorldParty) (t : WordTurn) → Effect w.readers w.word me s t
    → Wins w me t
wins_of w s me t e =
    elim e [
      | is_refused f x q ↦ wins_nothing (ap (λ u. u.party.wins) q) (sym (ap (λ u. u.word) q)) (ap (λ u. u.party.held) q)
      | is_load p a q ↦ wins_nothing (ap (λ u. u.party.wins) q) (sym (ap (λ u. u.word) q)) (ap (λ u. u.party.held) q)
      | is_not_admitted p want loaded a x refuses q ↦ wins_nothing (ap (λ u. u.party.wins) q) (sym (ap (λ u. u.word) q)) (ap (λ u. u.party.held) q)
      | is_changed p want loaded a x other q ↦ wins_nothing (ap (λ u. u.party.wins) q) (sym (ap (λ u. u.word) q)) (ap (λ u. u.party.held) q)
      | is_exchange p want a own x admits q ↦ wins_once (ap (λ u. u.party.wins) q) (ap (λ u. u.party.loaded) q)
      | is_take p d a own q ↦ wins_once (ap (λ u. u.party.wins) q) (ap (λ u. u.party.loaded) q)
    ]

-- a turn of another party
since_other : (w : WorldState) (k j : ℕ) (me q : WorldParty) (t : WordTurn) → slice_get w.parties k ≡ Some me
    → slice_get w.parties j ≡ Some q → j ≢ k → slice_get (slice_set w.parties k t.party) j ≡ Some q → Wins w me t
    → Since w (after_turn w k t).world (suc j)
since_other w k j me q t at_k at_j other there e =
    let total = all_wins_set w.parties k me t.party at_k in
    let own = wins_within w.parties j q at_j in
    elim e [
      | wins_nothing wins word held ↦
          record { past = q; now = q; was = at_j; is = there; grows = omega arith; held = refl; moved = inl word }
      | wins_once wins none ↦
          record { past = q; now = q; was = at_j; is = there; grows = omega arith; held = refl; moved = inr (omega arith) }
    ]

-- a turn of the party after which it has an open load
since_own : (w : WorldState) (k loaded : ℕ) (me : WorldParty) (t : WordTurn) → slice_get w.parties k ≡ Some me
    → slice_get (slice_set w.parties k t.party) k ≡ Some t.party → t.party.loaded ≡ Some loaded → Wins w me t
    → Since w (after_turn w k t).world (suc k)
since_own w k loaded me t at there is_open e =
    let total = all_wins_set w.parties k me t.party at in
    elim e [
      | wins_nothing wins word held ↦
          record { past = me; now = t.party; was = at; is = there; grows = omega arith; held = held; moved = inl word }
      | wins_once wins none ↦ (let n : None ≡ Some loaded = sym none ∙ is_open in cc)
    ]

since_step : (w : WorldState) (s : AtomicStep) (p loaded : ℕ) (r : Stepped) → StepEffect w s r
    → IsOpen r.world p loaded
    → Since w r.world p
since_step w s zero loaded r e o = let at = o.at in cc
since_step w s (suc j) loaded r e o =
    elim e [
      | none_made f none same ↦ since_same w r.world (suc j) o.me (ap (λ x. x.world) same) o.at
      | one_made k me t is there steps made same ↦
          (let found : slice_get (slice_set w.parties k t.party) j ≡ Some o.me
          = sym (ap (λ x. slice_get x.world.parties j) same) ∙ o.at in
          let won = wins_of w s me t made in
          subst (λ (x : Stepped). Since w x.world (suc j)) (sym same)
          (elim (changed_or_not w.parties k j t.party o.me found) [
            | inl h ↦
                (let mine : slice_get (slice_set w.parties k t.party) k ≡ Some t.party
                = subst (λ n. slice_get (slice_set w.parties k t.party) n ≡ Some t.party) h.0 (found ∙ ap Some h.1) in
                subst (λ n. Since w (after_turn w k t).world (suc n)) (sym h.0)
                (since_own w k loaded me t there mine (sym (ap (λ (x : WorldParty). x.loaded) h.1) ∙ o.open_load) won))
            | inr h ↦ since_other w k j me o.me t there h.1 h.0 found won
          ]))
    ]

-- the steps have a last load of the party, and it found this word
record LastLoad (start : WorldState) (ss : List AtomicStep) (p loaded : ℕ) : Type 0 where
  before : List AtomicStep
  after : List AtomicStep
  split : IsLastLoad ss p before after
  found : (world_after start before).word ≡ loaded
  since : Since (world_after start before) (world_after start ss) p

steps_step : (w : WorldState) (s : AtomicStep) (r : Stepped) → StepEffect w s r → w.steps ≤ r.world.steps
steps_step w s r e =
    elim e [
      | none_made f none same ↦ (let e : r.world.steps ≡ w.steps = ap (λ x. x.world.steps) same in omega arith)
      | one_made k me t is there steps made same ↦
          (let grow = steps_grow w.steps t.outcome in
          let e : r.world.steps ≡ steps_after w.steps t.outcome = ap (λ x. x.world.steps) same in omega arith)
    ]

steps_run : (w : WorldState) (ss : List AtomicStep) → w.steps ≤ (world_after w ss).steps
steps_run w [] = omega arith
steps_run w (s ∷ ss) =
    let one = steps_step w s (after_step w s) (step_effect w s) in
    let rest = steps_run (after_step w s).world ss in
    omega arith

-- the load was open at the start, and none was made since; or one of the steps is the last load
Origin : WorldState → List AtomicStep → ℕ → ℕ → Type 0
Origin w ss p loaded = (IsOpen w p loaded × NoLoadBy p ss × Since w (world_after w ss) p) ⊎ LastLoad w ss p loaded

origin : (w : WorldState) (ss : List AtomicStep) (p loaded : ℕ) → (world_after w ss).steps < 2 ^ 64 - 1
    → IsOpen (world_after w ss) p loaded → Origin w ss p loaded
unfolding Before Origin
origin w [] p loaded more o = inl (o, tt, since_same w w p o.me refl o.at)
origin w (s ∷ ss) p loaded more o =
    let made = step_effect w s in
    let one = steps_run (after_step w s).world ss in
    let first = steps_step w s (after_step w s) made in
    let fewer : w.steps < 2 ^ 64 - 1 = omega arith in
    elim (origin (after_step w s).world ss p loaded more o) [
      | inl h ↦
          (let since
          = since_then w (after_step w s).world (world_after (after_step w s).world ss) p
          (since_step w s p loaded (after_step w s) made h.0) h.2 in
          elim (open_before w s p loaded (after_step w s) fewer made h.0) [
            | inl here ↦ inr record {
              before = [];
              after = ss;
              split = record { are = ap (λ x. x ∷ ss) here.0; last = h.1 };
              found = here.1;
              since = since;
            }
            | inr was ↦ inl (was.0, no_load_cons p s ss was.1 h.1, since)
          ])
      | inr l ↦ inr record {
        before = s ∷ l.before;
        after = l.after;
        split = record { are = ap (λ xs. s ∷ xs) l.split.are; last = l.split.last };
        found = l.found;
        since = l.since;
      }
    ]

nothing_open : (count limit p loaded : ℕ) → IsOpen (new_world count limit) p loaded → ⊥
nothing_open count limit zero loaded o = let h = o.at in cc
nothing_open count limit (suc k) loaded o =
    let e = get_of_replicate count k idle o.me o.at in
    let h : o.me.loaded ≡ Some loaded = o.open_load in
    let n : None ≡ Some loaded = sym (ap (λ (x : WorldParty). x.loaded) e) ∙ h in
    cc

-- from a new world on, a load that is open is the last one of the party
last_load : (count limit : ℕ) (ss : List AtomicStep) (p loaded : ℕ) → IsLimit limit
    → (world_after (new_world count limit) ss).steps ≢ 2 ^ 64 - 1
    → IsOpen (world_after (new_world count limit) ss) p loaded
    → LastLoad (new_world count limit) ss p loaded
unfolding Origin
last_load count limit ss p loaded range differs o =
    let start = new_world count limit in
    let reached = reachable_after start ss (reachable_new count limit range) in
    let fits = reached.steps_fit in
    let more : (world_after start ss).steps < 2 ^ 64 - 1 = omega arith in
    elim (origin start ss p loaded more o) [
      | inl h ↦ absurd (nothing_open count limit p loaded h.0)
      | inr l ↦ l
    ]

-- what an exchange says that was not done

record Missed (w : WorldState) (p : ℕ) (Why : Bool → ℕ → Type 0) : Type 0 where
  loaded : ℕ
  is_open : IsOpen w p loaded
  why : Why is_open.me.held.announced loaded
  more : w.steps ≢ 2 ^ 64 - 1

refused_turn_says : (w : WorldState) (p k : ℕ) (want : ExWant) (me : WorldParty) (t : WordTurn) → p ≡ suc k
    → slice_get w.parties k ≡ Some me → w.steps ≢ 2 ^ 64 - 1 → Effect w.readers w.word me (Exchange p want) t
    → t.outcome ≡ NotAdmitted
    → Missed w p (λ announced loaded. word_admits announced w.readers loaded want ≡ false)
refused_turn_says w p k want me t is at more e h =
    elim e [
      | is_refused f x q ↦ (let n : Refused f ≡ NotAdmitted = sym (ap (λ u. u.outcome) q) ∙ h in cc)
      | is_load n a q ↦ cc
      | is_not_admitted n other loaded a was refuses q ↦
          (let same : other ≡ want = cc in
          record {
            loaded = loaded;
            is_open = record { me = me; at = ap (λ m. holder_at w.parties m) is ∙ at; open_load = was };
            why = ap (λ x. word_admits me.held.announced w.readers loaded x) (sym same) ∙ refuses;
            more = more;
          })
      | is_changed n other loaded a was x q ↦ (let n : Changed ≡ NotAdmitted = sym (ap (λ u. u.outcome) q) ∙ h in cc)
      | is_exchange n other a own was admits q ↦ (let n : Done ≡ NotAdmitted = sym (ap (λ u. u.outcome) q) ∙ h in cc)
      | is_take n d a own q ↦ cc
    ]

refused_says : (w : WorldState) (p : ℕ) (want : ExWant) (r : Stepped) → StepEffect w (Exchange p want) r
    → r.outcome ≡ NotAdmitted → Missed w p (λ announced loaded. word_admits announced w.readers loaded want ≡ false)
refused_says w p want r e h =
    elim e [
      | none_made f none same ↦ (let n : Refused f ≡ NotAdmitted = sym (ap (λ u. u.outcome) same) ∙ h in cc)
      | one_made k me t is at more made same ↦
          refused_turn_says w p k want me t is at more made (sym (ap (λ u. u.outcome) same) ∙ h)
    ]

changed_turn_says : (w : WorldState) (p k : ℕ) (want : ExWant) (me : WorldParty) (t : WordTurn) → p ≡ suc k
    → slice_get w.parties k ≡ Some me → w.steps ≢ 2 ^ 64 - 1 → Effect w.readers w.word me (Exchange p want) t
    → t.outcome ≡ Changed
    → Missed w p (λ announced loaded. w.word ≢ loaded)
changed_turn_says w p k want me t is at more e h =
    elim e [
      | is_refused f x q ↦ (let n : Refused f ≡ Changed = sym (ap (λ u. u.outcome) q) ∙ h in cc)
      | is_load n a q ↦ cc
      | is_not_admitted n other loaded a was refuses q ↦ (let n : NotAdmitted ≡ Changed = sym (ap (λ u. u.outcome) q) ∙ h in cc)
      | is_changed n other loaded a was x q ↦ record {
        loaded = loaded;
        is_open = record { me = me; at = ap (λ m. holder_at w.parties m) is ∙ at; open_load = was };
        why = x;
        more = more;
      }
      | is_exchange n other a own was admits q ↦ (let n : Done ≡ Changed = sym (ap (λ u. u.outcome) q) ∙ h in cc)
      | is_take n d a own q ↦ cc
    ]

changed_says : (w : WorldState) (p : ℕ) (want : ExWant) (r : Stepped) → StepEffect w (Exchange p want) r
    → r.outcome ≡ Changed → Missed w p (λ announced loaded. w.word ≢ loaded)
changed_says w p want r e h =
    elim e [
      | none_made f none same ↦ (let n : Refused f ≡ Changed = sym (ap (λ u. u.outcome) same) ∙ h in cc)
      | one_made k me t is at more made same ↦
          changed_turn_says w p k want me t is at more made (sym (ap (λ u. u.outcome) same) ∙ h)
    ]

-- what a refused exchange says of the open load

open_load_refuses : (w : WorldState) (p : ℕ) (want : ExWant) → IsReachable w
    → Missed w p (λ announced loaded. word_admits announced w.readers loaded want ≡ false) → OpenLoadRefuses w p want
open_load_refuses w (suc k) want h missed =
    let me = missed.is_open.me in
    let packed = h.loads k me missed.is_open.at missed.loaded missed.is_open.open_load in
    let all = barred_bag_of_word missed.loaded in
    record {
      me = me;
      is = missed.is_open.at;
      all = all;
      open_load = missed.is_open.open_load ∙ ap Some packed.coded;
      stood = packed.legal;
      refuses = λ permitted.
          true≢false
          (sym (word_of_permits me.held.announced w.readers all want h.limit.1 packed.legal permitted)
          ∙ ap (λ n. word_admits me.held.announced w.readers n want) (sym packed.coded)
          ∙ missed.why);
    }
open_load_refuses w zero want h missed = let at = missed.is_open.at in cc

pub is_refused_by_load : (w : WorldState) (s : AtomicStep) → IsReachable w → IsRefusedByLoad w s (after_step w s).outcome
is_refused_by_load w s h p want is refused =
    let made : StepEffect w (Exchange p want) (after_step w s) = subst (λ x. StepEffect w x (after_step w s)) is (step_effect w s) in
    open_load_refuses w p want h (refused_says w p want (after_step w s) made refused)

pub are_refused_by_loads : (w : WorldState) (ss : List AtomicStep) → IsReachable w → AreRefusedByLoads w ss
are_refused_by_loads w [] h = tt
are_refused_by_loads w (s ∷ ss) h = (
  is_refused_by_load w s h,
  are_refused_by_loads (after_step w s).world ss (reachable_step w s (after_step w s) h (step_effect w s)),
)

-- the two claims

-- what is permitted where the party made its last load, the loaded word admits
admitted_there : (announced : Bool) (count limit : ℕ) (ss : List AtomicStep) (loaded : ℕ) (want : ExWant) → IsLimit limit
    → (world_after (new_world count limit) ss).word ≡ loaded
    → PermitsLockStep announced limit (held_by_all (world_after (new_world count limit) ss).parties) (step_of_want want)
    → IsTrue (word_admits announced limit loaded want)
admitted_there announced count limit ss loaded want range found permitted =
    let start = new_world count limit in
    let there = reachable_after start ss (reachable_new count limit range) in
    let all = held_by_all (world_after start ss).parties in
    let legal = subst (λ n. IsLegalBarredBag n all) (readers_after start ss) there.rule.legal in
    let admits = word_of_permits announced limit all want range.1 legal permitted in
    subst (λ n. IsTrue (word_admits announced limit n want)) (sym there.rule.coded ∙ found) admits

-- a NotAdmitted comes only where what was out at the party's last load did not permit it the exchange
pub refused_at_last_load : (count limit : ℕ) (ss : List AtomicStep) (p : ℕ) (want : ExWant) → IsLimit limit
    → (after_step (world_after (new_world count limit) ss) (Exchange p want)).outcome ≡ NotAdmitted
    → LastLoadRefuses (new_world count limit) ss p want
refused_at_last_load count limit ss p want range h =
    let start = new_world count limit in
    let w = world_after start ss in
    let missed = refused_says w p want (after_step w (Exchange p want)) (step_effect w (Exchange p want)) h in
    let l = last_load count limit ss p missed.loaded range missed.more missed.is_open in
    let since = l.since in
    let me = missed.is_open.me in
    let held : me.held ≡ since.past.held
    = ap (λ (x : WorldParty). x.held) (same_Some me since.now (sym missed.is_open.at ∙ since.is)) ∙ since.held in
    let never : word_admits since.past.held.announced limit missed.loaded want ≡ false
    = ap (λ (h : Hold). word_admits h.announced limit missed.loaded want) (sym held)
    ∙ ap (λ n. word_admits me.held.announced n missed.loaded want) (sym (readers_after start ss)) ∙ missed.why in
    record {
      before = l.before;
      after = l.after;
      split = l.split;
      past = since.past;
      was = since.was;
      refuses = λ permitted.
          true≢false
          (sym (admitted_there since.past.held.announced count limit l.before missed.loaded want range l.found permitted)
          ∙ never);
    }

-- a Changed comes only where others have won since the party's last load
pub outrun_since_last_load : (count limit : ℕ) (ss : List AtomicStep) (p : ℕ) (want : ExWant) → IsLimit limit
    → (after_step (world_after (new_world count limit) ss) (Exchange p want)).outcome ≡ Changed
    → LastLoadOutrun (new_world count limit) ss p
outrun_since_last_load count limit ss p want range h =
    let w = world_after (new_world count limit) ss in
    let missed = changed_says w p want (after_step w (Exchange p want)) (step_effect w (Exchange p want)) h in
    let l = last_load count limit ss p missed.loaded range missed.more missed.is_open in
    record {
      before = l.before;
      after = l.after;
      split = l.split;
      past = l.since.past;
      now = l.since.now;
      was = l.since.was;
      is = l.since.is;
      outrun = elim l.since.moved [
        | inl same ↦ absurd (missed.why (sym same ∙ l.found))
        | inr less ↦ less
      ];
    }
