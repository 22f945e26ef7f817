-- Each kind of step of one party keeps the rule: one lemma for each kind.
use Rattle.std.proofs.Common.{◌≡◌, ◌≢◌, ℕ, zero, suc, ◌+◌, ◌-◌, ◌<◌, ◌≤◌, ◌⊎◌, inl, inr, List, [], ◌∷◌, ◌++◌, get_or, slice_get, slice_set, Some, IsTrue, refl, sym, ap, subst, ◌∙◌, arith, eq-zero-or-pos}
use Rattle.std.proofs.lemmas.List.{map-set, map-append, set-get_or}
use Rattle.std.proofs.lemmas.List.Sums.{sum_by-append}
use Rattle.std.proofs.lemmas.Option.{same_Some, get_or_from_slice_get, slice_get-map}
use Rattle.lock_modes.specs.declared.hold.Hold.{Hold}
use Rattle.lock_modes.specs.declared.lock_step.LockStep.{LockStep}
use Rattle.lock_modes.specs.Limits.{IsLimit}
use Rattle.lock_modes.specs.Holds.{no_hold, hold_has}
use Rattle.lock_word.specs.BarredBags.{IsLegalBarredBag, bars_of, PermitsLockStep, barred_after}
use Rattle.lock_modes.proofs.TokenBags.{same_counts}
use Rattle.lock_word.specs.declared.want.ExWant.{ExWant}
use Rattle.lock_word.specs.declared.down.Down.{Down}
use Rattle.lock_word.specs.declared.party.WorldParty.{WorldParty}
use Rattle.lock_word.specs.Holders.{all_of, IsPart}
use Rattle.lock_word.specs.Word.{word_of, word_admits, word_after, amount, step_of_want, step_of_down}
use Rattle.lock_word.specs.Turns.{idle, with_load, without_load, after_win, after_fail}
use Rattle.lock_word.specs.Rule.{holds, held_by_all, all_wins, others_wins, IsBehind, KeepsRule, WordShows}
use Rattle.lock_word.specs.Claims.{FailsAreBounded}
use Rattle.lock_word.proofs.Holders.{Has, has_of_part, part_of_all, sum_by-slice_set, le-sum_by, same_barred, all_of-after}
use Rattle.lock_word.proofs.Words.{alone_or_none, parts_of_word, permits_of_word, word_after_want, permits_down, word_before_down, stands_after}

-- one element of a list is changed

-- an element of a list of which one was changed is the new one, or stays where it was
pub changed_or_not : {A : Type 0} (xs : List A) (k j : ℕ) (y z : A) → slice_get (slice_set xs k y) j ≡ Some z
    → ((j ≡ k) × (z ≡ y)) ⊎ ((j ≢ k) × (slice_get xs j ≡ Some z))
changed_or_not [] k j y z h = cc
changed_or_not (x ∷ xs) zero zero y z h = inl (refl, cc)
changed_or_not (x ∷ xs) zero (suc j) y z h = inr ((λ e. omega arith), h)
changed_or_not (x ∷ xs) (suc k) zero y z h = inr ((λ e. omega arith), h)
changed_or_not (x ∷ xs) (suc k) (suc j) y z h =
    elim (changed_or_not xs k j y z h) [ inl e ↦ inl (ap suc e.0, e.1) | inr e ↦ inr ((λ f. e.0 (omega arith)), e.1) ]

-- a fact of the changed element and of each other one is a fact of all
pub each_after : {A : Type 0} (P : A → Type 0) (xs : List A) (k : ℕ) (y : A) → P y
    → ((j : ℕ) (z : A) → j ≢ k → slice_get xs j ≡ Some z → P z)
    → (j : ℕ) (z : A) → slice_get (slice_set xs k y) j ≡ Some z → P z
each_after P xs k y new old j z h =
    elim (changed_or_not xs k j y z h) [ inl e ↦ subst P (sym e.1) new | inr e ↦ old j z e.0 e.1 ]

-- putting back what was found changes nothing
pub slice_set_same : {A : Type 0} (xs : List A) (k : ℕ) (x : A) → slice_get xs k ≡ Some x → slice_set xs k x ≡ xs
slice_set_same xs k x h = let at : get_or xs k x ≡ x = get_or_from_slice_get xs k x x h in rw at at (set-get_or xs k x)

-- what the parties hold, and their wins

pub holds_at : (ps : List WorldParty) (k : ℕ) (me : WorldParty) → slice_get ps k ≡ Some me
    → slice_get (holds ps) k ≡ Some me.held
holds_at ps k me h = rw (slice_get-map (λ (q : WorldParty). q.held) ps k, h)

pub holds_set : (ps : List WorldParty) (k : ℕ) (you : WorldParty)
    → holds (slice_set ps k you) ≡ slice_set (holds ps) k you.held
holds_set ps k you = map-set (λ (q : WorldParty). q.held) ps k you

-- one party is changed, and it has the same modes
pub holds_same : (ps : List WorldParty) (k : ℕ) (me you : WorldParty) → slice_get ps k ≡ Some me → you.held ≡ me.held
    → holds (slice_set ps k you) ≡ holds ps
holds_same ps k me you at held =
    holds_set ps k you
    ∙ (ap (λ b. slice_set (holds ps) k b) held ∙ slice_set_same (holds ps) k me.held (holds_at ps k me at))

pub part_of_parties : (ps : List WorldParty) (k : ℕ) (me : WorldParty) → slice_get ps k ≡ Some me
    → IsPart me.held (held_by_all ps)
part_of_parties ps k me at = part_of_all (holds ps) k me.held (holds_at ps k me at)

pub all_wins_set : (ps : List WorldParty) (k : ℕ) (me you : WorldParty) → slice_get ps k ≡ Some me
    → all_wins (slice_set ps k you) + me.wins ≡ all_wins ps + you.wins
all_wins_set ps k me you at = sum_by-slice_set (λ (q : WorldParty). q.wins) ps k me you at

pub wins_within : (ps : List WorldParty) (k : ℕ) (me : WorldParty) → slice_get ps k ≡ Some me → me.wins ≤ all_wins ps
wins_within ps k me at = le-sum_by (λ (q : WorldParty). q.wins) ps k me at

-- the kinds of step

-- the party has only loaded, or lost its open load
keeps_quiet : (limit word : ℕ) (ps : List WorldParty) (k : ℕ) (me you : WorldParty) → KeepsRule limit word ps
    → slice_get ps k ≡ Some me → you.held ≡ me.held → you.wins ≡ me.wins → you.fails ≡ me.fails
    → ((loaded : ℕ) → you.loaded ≡ Some loaded → word ≡ loaded)
    → KeepsRule limit word (slice_set ps k you)
keeps_quiet limit word ps k me you rule at held wins fails loads =
    let same = holds_same ps k me you at held in
    let total = all_wins_set ps k me you at in
    let mine = rule.behind k me at in
    let bounded = mine.bounded in
    record {
      coded = rw same rule.coded;
      legal = rw same rule.legal;
      behind =
          each_after (λ q. IsBehind (others_wins (slice_set ps k you) q) word q) ps k you
          (record { bounded = omega arith; open_load = λ loaded e d. absurd (d (loads loaded e)) })
          (λ j q n h.
          let other = rule.behind j q h in
          let least = other.bounded in
          record {
            bounded = omega arith;
            open_load = λ loaded e d. let before = other.open_load loaded e d in omega arith;
          });
    }

pub keeps_load : (limit word : ℕ) (ps : List WorldParty) (k : ℕ) (me : WorldParty) → KeepsRule limit word ps
    → slice_get ps k ≡ Some me → KeepsRule limit word (slice_set ps k (with_load me word))
keeps_load limit word ps k me rule at =
    keeps_quiet limit word ps k me (with_load me word) rule at refl refl refl (λ loaded e. same_Some word loaded e)

-- an exchange was not admitted
pub keeps_unloaded : (limit word : ℕ) (ps : List WorldParty) (k : ℕ) (me : WorldParty) → KeepsRule limit word ps
    → slice_get ps k ≡ Some me → KeepsRule limit word (slice_set ps k (without_load me))
keeps_unloaded limit word ps k me rule at =
    keeps_quiet limit word ps k me (without_load me) rule at refl refl refl (λ loaded e. cc)

-- an exchange found a word other than the open load
pub keeps_lost : (limit word : ℕ) (ps : List WorldParty) (k loaded : ℕ) (me : WorldParty) → KeepsRule limit word ps
    → slice_get ps k ≡ Some me → me.loaded ≡ Some loaded → word ≢ loaded
    → KeepsRule limit word (slice_set ps k (after_fail me))
keeps_lost limit word ps k loaded me rule at was differs =
    let same = holds_same ps k me (after_fail me) at refl in
    let total = all_wins_set ps k me (after_fail me) at in
    let mine = rule.behind k me at in
    let fewer = mine.open_load loaded was differs in
    record {
      coded = rw same rule.coded;
      legal = rw same rule.legal;
      behind =
          each_after (λ q. IsBehind (others_wins (slice_set ps k (after_fail me)) q) word q) ps k (after_fail me)
          (record { bounded = omega arith; open_load = λ w e d. cc })
          (λ j q n h.
          let other = rule.behind j q h in
          let least = other.bounded in
          record { bounded = omega arith; open_load = λ w e d. let before = other.open_load w e d in omega arith });
    }

-- the party has made a permitted step, and the word encodes what all parties hold after it
keeps_won : (limit word new : ℕ) (ps : List WorldParty) (k : ℕ) (me : WorldParty) (s : LockStep) → 0 < limit
    → KeepsRule limit word ps → slice_get ps k ≡ Some me → IsTrue (hold_has me.held s)
    → PermitsLockStep me.held.announced limit (held_by_all ps) s
    → new ≡ word_of (barred_after me.held.announced (held_by_all ps) s)
    → KeepsRule limit new (slice_set ps k (after_win me s))
keeps_won limit word new ps k me s positive rule at has permitted coded =
    let all : held_by_all (slice_set ps k (after_win me s)) ≡ barred_after me.held.announced (held_by_all ps) s
    = ap all_of (holds_set ps k (after_win me s)) ∙ all_of-after limit (holds ps) k me.held s (holds_at ps k me at) has permitted in
    let total = all_wins_set ps k me (after_win me s) at in
    let mine = rule.behind k me at in
    let bounded = mine.bounded in
    record {
      coded = coded ∙ ap word_of (sym all);
      legal =
          subst (IsLegalBarredBag limit) (sym all)
          (stands_after me.held.announced limit (held_by_all ps) s positive rule.legal permitted);
      behind =
          each_after (λ q. IsBehind (others_wins (slice_set ps k (after_win me s)) q) new q) ps k (after_win me s)
          (record { bounded = omega arith; open_load = λ w e d. cc })
          (λ j q n h.
          let other = rule.behind j q h in
          let least = other.bounded in
          let own = wins_within ps j q h in
          record { bounded = omega arith; open_load = λ w e d. omega arith });
    }

-- what the word admits to a party is permitted to it by what all parties hold
pub permits_of_rule : (limit word : ℕ) (ps : List WorldParty) (k : ℕ) (me : WorldParty) (want : ExWant) → IsLimit limit
    → KeepsRule limit word ps → slice_get ps k ≡ Some me
    → IsTrue (word_admits me.held.announced limit word want)
    → PermitsLockStep me.held.announced limit (held_by_all ps) (step_of_want want)
permits_of_rule limit word ps k me want range rule at admits =
    permits_of_word me.held.announced limit (held_by_all ps) want range.1 rule.legal (part_of_parties ps k me at).bars
    (subst (λ w. IsTrue (word_admits me.held.announced limit w want)) rule.coded admits)

-- an exchange was done
pub keeps_exchange : (limit word : ℕ) (ps : List WorldParty) (k : ℕ) (me : WorldParty) (want : ExWant) → IsLimit limit
    → KeepsRule limit word ps → slice_get ps k ≡ Some me → IsTrue (hold_has me.held (step_of_want want))
    → IsTrue (word_admits me.held.announced limit word want)
    → KeepsRule limit (word_after word want) (slice_set ps k (after_win me (step_of_want want)))
keeps_exchange limit word ps k me want range rule at has admits =
    let permitted = permits_of_rule limit word ps k me want range rule at admits in
    keeps_won limit word (word_after word want) ps k me (step_of_want want) range.0 rule at has permitted
    (ap (λ w. word_after w want) rule.coded ∙ word_after_want me.held.announced limit (held_by_all ps) want rule.legal permitted)

-- the sum of all holds has what one party has
pub has_of_all : (ps : List WorldParty) (k : ℕ) (me : WorldParty) (s : LockStep) → slice_get ps k ≡ Some me
    → IsTrue (hold_has me.held s) → Has (held_by_all ps) s
has_of_all ps k me s at h = has_of_part me.held (held_by_all ps) s (part_of_parties ps k me at) h

-- what a party subtracts is part of the word
pub amount_within : (limit word : ℕ) (ps : List WorldParty) (k : ℕ) (me : WorldParty) (d : Down)
    → KeepsRule limit word ps → slice_get ps k ≡ Some me → IsTrue (hold_has me.held (step_of_down d)) → amount d ≤ word
amount_within limit word ps k me d rule at has =
    let coded = rule.coded in
    let before = word_before_down me.held.announced (held_by_all ps) d (has_of_all ps k me (step_of_down d) at has) in
    omega arith

-- a subtraction was done
pub keeps_take : (limit word : ℕ) (ps : List WorldParty) (k : ℕ) (me : WorldParty) (d : Down) → IsLimit limit
    → KeepsRule limit word ps → slice_get ps k ≡ Some me → IsTrue (hold_has me.held (step_of_down d))
    → KeepsRule limit (word - amount d) (slice_set ps k (after_win me (step_of_down d)))
keeps_take limit word ps k me d range rule at has =
    let all = has_of_all ps k me (step_of_down d) at has in
    let coded = rule.coded in
    let before = word_before_down me.held.announced (held_by_all ps) d all in
    keeps_won limit word (word - amount d) ps k me (step_of_down d) range.0 rule at has
    (permits_down me.held.announced limit (held_by_all ps) d all) (omega arith)

-- one party more

-- an element of a longer list is one of the list, or the new one
pub element_of_longer : {A : Type 0} (xs : List A) (y z : A) (j : ℕ) → slice_get (xs ++ y ∷ []) j ≡ Some z
    → (slice_get xs j ≡ Some z) ⊎ (z ≡ y)
element_of_longer [] y z zero h = inr (same_Some z y (sym h))
element_of_longer [] y z (suc j) h = cc
element_of_longer (x ∷ xs) y z zero h = inl h
element_of_longer (x ∷ xs) y z (suc j) h = element_of_longer xs y z j h

held_by_longer : (ps : List WorldParty) → held_by_all (ps ++ idle ∷ []) ≡ held_by_all ps
held_by_longer ps =
    let all = holds ps in
    let more = all ++ no_hold ∷ [] in
    let longer : holds (ps ++ idle ∷ []) ≡ more = map-append (λ (q : WorldParty). q.held) ps (idle ∷ []) in
    let s = sum_by-append (λ (b : Hold). b.bag.shared) all (no_hold ∷ []) in
    let x = sum_by-append (λ (b : Hold). b.bag.exclusive) all (no_hold ∷ []) in
    let u = sum_by-append (λ (b : Hold). b.bag.upgradable) all (no_hold ∷ []) in
    let n = sum_by-append (λ (b : Hold). bars_of b.announced) all (no_hold ∷ []) in
    ap all_of longer
    ∙ same_barred (all_of more) (all_of all)
    (same_counts (all_of more).bag (all_of all).bag (omega arith) (omega arith) (omega arith)) (omega arith)

pub keeps_newcomer : (limit word : ℕ) (ps : List WorldParty) → KeepsRule limit word ps
    → KeepsRule limit word (ps ++ idle ∷ [])
keeps_newcomer limit word ps rule =
    let same = held_by_longer ps in
    let total : all_wins (ps ++ idle ∷ []) ≡ all_wins ps + 0
    = sum_by-append (λ (q : WorldParty). q.wins) ps (idle ∷ []) in
    record {
      coded = rule.coded ∙ ap word_of (sym same);
      legal = subst (IsLegalBarredBag limit) (sym same) rule.legal;
      behind = λ j q h.
          elim (element_of_longer ps idle q j h) [
            | inl old ↦
                (let other = rule.behind j q old in
                let least = other.bounded in
                record {
                  bounded = omega arith;
                  open_load = λ loaded e d. let before = other.open_load loaded e d in omega arith;
                })
            | inr new ↦
                subst (λ x. IsBehind (others_wins (ps ++ idle ∷ []) x) word x) (sym new)
                record { bounded = omega arith; open_load = λ loaded e d. cc }
          ];
    }

-- what the word says to a party

pub shows : (limit word : ℕ) (ps : List WorldParty) (k : ℕ) (me : WorldParty) → IsLimit limit → KeepsRule limit word ps
    → slice_get ps k ≡ Some me → WordShows limit word me.held
shows limit word ps k me range rule at =
    let part = part_of_parties ps k me at in
    let parts = parts_of_word limit (held_by_all ps) range.1 rule.legal in
    let low = parts.low in
    let coded = rule.coded in
    let none = alone_or_none limit (held_by_all ps).bag rule.legal.compatible in
    let one = rule.legal.compatible.one_upgradable in
    let few = rule.legal.compatible.within in
    let bar = rule.legal.one_bar in
    record {
      all = held_by_all ps;
      legal = rule.legal;
      part = part;
      coded = rule.coded;
      exclusive = λ some.
          elim (eq-zero-or-pos (held_by_all ps).bars) [ inl free ↦ inl (omega arith) | inr barred ↦ inr (omega arith) ];
      reads = λ some. (omega arith, omega arith);
      announced = λ some. omega arith;
    }

-- no party's fails outnumber the wins of the others
pub fails_bounded : (limit word : ℕ) (ps : List WorldParty) → KeepsRule limit word ps → FailsAreBounded ps
fails_bounded limit word ps rule zero me at = cc
fails_bounded limit word ps rule (suc k) me at = (rule.behind k me at).bounded
