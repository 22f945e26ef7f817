-- Each kind of step of a seat keeps the rule of the table, by the lemma of that kind of step.
use Rattle.std.proofs.Common.{◌≡◌, ℕ, zero, suc, ◌+◌, ◌-◌, ◌%◌, ◌^◌, ◌<◌, ◌≤◌, true, inl, inr, List, [], ◌∷◌, set, get_or, slice_get, slice_set, slice_index, Some, IsTrue, refl, sym, ap, subst, ◌∙◌, arith, eqb, length-set, get_or-set_same}
use Rattle.std.proofs.lemmas.Bool.{false≢true}
use Rattle.std.proofs.lemmas.List.{map-set, map-append}
use Rattle.std.proofs.lemmas.Option.{slice_get-map}
use mathlib.Core.Option.{some, none}
use lib.ListN.{get_elem?}
use prog.Atomic.{either}
use Rattle.atomic_table.specs.Table.{State, Act, step, keeps, stepped, carried_after, Valid, Allows, Splits}
use Rattle.atomic_table.proofs.Lists.{at_set, at_snoc, set_again, exchanged}
use Rattle.lock_modes.specs.declared.hold.Hold.{Hold}
use Rattle.lock_modes.specs.Limits.{IsLimit}
use Rattle.lock_modes.specs.Modes.{tokens}
use Rattle.lock_modes.specs.Holds.{hold_has, hold_after}
use Rattle.lock_word.specs.declared.down.Down.TheVariants as down
use Rattle.lock_word.specs.declared.want.ExWant.{ExWant}
use Rattle.lock_word.specs.declared.down.Down.{Down}
use Rattle.lock_word.specs.declared.party.WorldParty.{WorldParty}
use Rattle.lock_word.specs.Word.{guards_of_word, word_admits, word_after, amount, step_of_want, step_of_down}
use Rattle.lock_word.specs.Rule.{KeepsRule, held_by_all}
use Rattle.lock_word.proofs.Words.{parts_of_word}
use Rattle.lock_word.proofs.Bars.{announced_shows, bar_of_rule}
use Rattle.lock_word.proofs.Distinct.{same_exchange, same_take}
use Rattle.lock_word.proofs.Guards.{GainsNoneOrUnbarred, guards_of_exchange, guards_of_take}
use Rattle.lock_word.proofs.Rules.{keeps_load, keeps_lost, keeps_exchange, keeps_take, keeps_newcomer, amount_within, part_of_parties, shows, fails_bounded}
use Rattle.lock_word.specs.declared.seated.rule.SeatView.{SeatView}
use Rattle.lock_word.specs.Seats.{newcomer_beside, parties_of, GuardsDoNotGrow, IsKept, EveryStateKeepsRule}
use Rattle.lock_word.specs.Plays.{Self, view_after_load, view_after_win, view_after_fail, Loads, Exchanges, Takes}

-- the view of a seat, in std's words
pub seat_at : {A : Type 0} (xs : List A) (k : ℕ) (x : A) → get_elem? xs k ≡ some x → slice_get xs k ≡ Some x
seat_at [] k x h = cc
seat_at (y ∷ xs) zero x h = cc
seat_at (y ∷ xs) (suc k) x h = seat_at xs k x h

party_at : (views : List SeatView) (k : ℕ) (v : SeatView) → get_elem? views k ≡ some v → slice_get (parties_of views) k ≡ Some v.state
party_at views k v h = rw (slice_get-map (λ (x : SeatView). x.state) views k, seat_at views k v h)

abbrev Guarded : SeatView → ℕ → Type 0
Guarded v word = GuardsDoNotGrow v.state.held.announced v.last word

-- an announced party's last load has no fewer guards than the word before, so no fewer than the word now
pub still_guarded : (limit n word last : ℕ) (ps : List WorldParty) (k : ℕ) (me : WorldParty) → KeepsRule limit n ps
    → slice_get ps k ≡ Some me → GainsNoneOrUnbarred word n → GuardsDoNotGrow me.held.announced last word
    → GuardsDoNotGrow me.held.announced last n
still_guarded limit n word last ps k me rule at gains before announced =
    let least = before announced in
    let high = announced_shows limit n ps (suc k) rule (me, at, announced) in
    elim gains [ inl fewer ↦ omega arith | inr unbarred ↦ omega arith ]

-- a step of the seat at id that leaves the word n and the view v
left : (limit id n : ℕ) (s : State (Unit {0}) SeatView) (v : SeatView) → IsKept limit s → v.readers ≡ limit
    → KeepsRule limit n (slice_set (parties_of s.views) id v.state)
    → GainsNoneOrUnbarred (slice_index s.words 0) n → Guarded v (slice_index s.words 0)
    → IsKept limit record { words = slice_set s.words 0 n; homes = s.homes; views = slice_set s.views id v }
left limit id n s v kept readers rule gains own =
    let one = kept.one_word in
    let is : get_or (set s.words 0 n) 0 0 ≡ n = get_or-set_same s.words 0 n 0 (omega arith) in
    let again = map-set (λ (x : SeatView). x.state) s.views id v in
    record {
      one_word = length-set s.words 0 n ∙ kept.one_word;
      range = kept.range;
      known = λ k w h.
          elim (at_set s.views id k v w h) [
            | inl e ↦ sym (ap (λ (x : SeatView). x.readers) e.1) ∙ readers
            | inr e ↦ kept.known k w e.1
          ];
      rule = rw is (rw again rule);
      guarded = λ k w h.
          rw is (still_guarded limit n (slice_index s.words 0) w.last (parties_of (slice_set s.views id v)) k w.state
          (rw again rule) (party_at (slice_set s.views id v) k w h) gains
          (elim (at_set s.views id k v w h) [
            | inl e ↦ subst (λ (x : SeatView). Guarded x (slice_index s.words 0)) e.1 own
            | inr e ↦ kept.guarded k w e.1
          ]));
    }

pub loads : (limit slots id : ℕ) (me : Self)
    → Allows (IsKept limit) slots id me 0 (λ n. n) (Loads (step slots 0 0 0 none) me)
loads limit slots id me s kept same at small =
    let word = slice_index s.words 0 in
    let there = party_at s.views id me.0 at in
    let readers = kept.known id me.0 at in (
      (view_after_load me word).0,
      keeps,
      tt,
      left limit id word s (view_after_load me word).0 kept readers
          (keeps_load limit word (parties_of s.views) id me.0.state kept.rule there) (inl (omega arith))
          (λ announced. omega arith),
      (
        refl,
        rw readers (shows limit word (parties_of s.views) id me.0.state kept.range kept.rule there),
        kept.guarded id me.0 at,
      ),
    )

pub exchanges : (limit known slots id : ℕ) (me : Self) (want : ExWant) (old new : ℕ) → known ≡ limit
    → me.0.state.loaded ≡ Some old → me.0.last ≡ old → IsTrue (hold_has me.0.state.held (step_of_want want))
    → IsTrue (word_admits me.0.state.held.announced known old want) → new ≡ word_after old want
    → Allows (IsKept limit) slots id me 0 (λ n. either (eqb n old) new n) (Exchanges (step slots 0 old new none) me)
exchanges limit known slots id me want old new same_limit is_open is_last holds admits is s kept same at small =
    let word = slice_index s.words 0 in
    let parties = parties_of s.views in
    let there = party_at s.views id me.0 at in
    let readers = kept.known id me.0 at in
    let announced = me.0.state.held.announced in
    exchanged word old new
    (λ n. (w : SeatView) × (a : Act (Unit {0})) × Valid s.homes me.1 a × IsKept limit (stepped s 0 n id me.1 w a)
    × Exchanges (step slots 0 old new none) me word (w, carried_after me.1 a))
    (λ hit.
    let v = (view_after_win me (step_of_want want)).0 in
    let here : IsTrue (word_admits announced limit word want)
    = subst (λ (t : ℕ × ℕ). IsTrue (word_admits announced t.0 t.1 want)) (λ i. (same_limit i, sym hit i)) admits in
    let rule = keeps_exchange limit word parties id me.0.state want kept.range kept.rule there holds here in
    let next : word_after word want ≡ new = ap (λ n. word_after n want) hit ∙ sym is in (
      v,
      keeps,
      tt,
      left limit id new s v kept readers (subst (λ n. KeepsRule limit n (slice_set parties id v.state)) next rule)
          (subst (GainsNoneOrUnbarred word) next
          (guards_of_exchange limit word parties id me.0.state want kept.range kept.rule there here))
          (λ announced. let same = ap guards_of_word (is_last ∙ sym hit) in omega arith),
      λ other asked there_admits there_is. (
        (λ h.
            ap (λ (w : ExWant). view_after_win me (step_of_want w))
            (same_exchange announced known other old new want asked admits is there_admits there_is)),
        (λ miss. absurd (miss hit)),
      ),
    ))
    (λ miss.
    let v = (view_after_fail me).0 in
    let rule = keeps_lost limit word parties id old me.0.state kept.rule there is_open miss in (
      v,
      keeps,
      tt,
      left limit id word s v kept readers rule (inl (omega arith)) (kept.guarded id me.0 at),
      λ other asked there_admits there_is. ((λ hit. absurd (miss hit)), (λ h. refl)),
    ))

-- the result of a subtraction of the table
pub subtracted : (n k : ℕ) → k ≤ n → n < 18446744073709551616 → n - k ≡ (n + (2 ^ 64 - k)) % 2 ^ 64
subtracted n k room small = omega arith

-- a party that is announced after a subtraction was announced before it
pub announced_before : (own : Hold) (d : Down) → (hold_after own (step_of_down d)).announced ≡ true → own.announced ≡ true
announced_before own down.Shared h = h
announced_before own down.Exclusive h = h
announced_before own down.Upgradable h = h
announced_before own down.ToShared h = h
announced_before own down.ToUpgradable h = h
announced_before own down.UpgradableToShared h = h
announced_before own down.Withdraw h = absurd (false≢true h)

-- one party holds few tokens
pub few_held : (limit word : ℕ) (ps : List WorldParty) (k : ℕ) (me : WorldParty) → IsLimit limit → KeepsRule limit word ps
    → slice_get ps k ≡ Some me → tokens me.held.bag < 2 ^ 63
few_held limit word ps k me range rule at =
    let part = part_of_parties ps k me at in
    let parts = parts_of_word limit (held_by_all ps) range.1 rule.legal in
    let small = parts.small in
    omega arith

pub takes : (limit slots id : ℕ) (me : Self) (down : Down) (k : ℕ) → IsTrue (hold_has me.0.state.held (step_of_down down))
    → k ≡ amount down
    → Allows (IsKept limit) slots id me 0 (λ n. (n + (2 ^ 64 - k)) % 2 ^ 64) (Takes (step slots 0 k 0 none) me)
takes limit slots id me down k holds is s kept same at small =
    let word = slice_index s.words 0 in
    let parties = parties_of s.views in
    let there = party_at s.views id me.0 at in
    let readers = kept.known id me.0 at in
    let v = (view_after_win me (step_of_down down)).0 in
    let within = amount_within limit word parties id me.0.state down kept.rule there holds in
    let next : word - amount down ≡ (word + (2 ^ 64 - k)) % 2 ^ 64
    = ap (λ (j : ℕ). word - j) (sym is) ∙ subtracted word k (omega arith) small in
    let rule = keeps_take limit word parties id me.0.state down kept.range kept.rule there holds in (
      v,
      keeps,
      tt,
      left limit id ((word + (2 ^ 64 - k)) % 2 ^ 64) s v kept readers
          (subst (λ n. KeepsRule limit n (slice_set parties id v.state)) next rule)
          (inl (subst (λ n. guards_of_word n ≤ guards_of_word word) next
          (guards_of_take limit word parties id me.0.state down kept.range kept.rule there holds)))
          (λ announced. kept.guarded id me.0 at (announced_before me.0.state.held down announced)),
      λ other there_is. (
        ap (λ (d : Down). view_after_win me (step_of_down d)) (same_take k down other is there_is),
        few_held limit word parties id me.0.state kept.range kept.rule there,
      ),
    )

pub parts : (limit id : ℕ) (v : SeatView) → Splits (IsKept limit) id v v (newcomer_beside v)
parts limit id v s kept at =
    let again : set s.views id v ≡ s.views = set_again s.views id v at in
    let word = slice_index s.words 0 in
    let longer = keeps_newcomer limit word (parties_of s.views) kept.rule in
    let readers = kept.known id v at in
    rw again record {
      one_word = kept.one_word;
      range = kept.range;
      known = λ k w h.
          elim (at_snoc s.views (newcomer_beside v) w k h) [
            | inl e ↦ kept.known k w e
            | inr e ↦ sym (ap (λ (x : SeatView). x.readers) e) ∙ readers
          ];
      rule = rw (map-append (λ (x : SeatView). x.state) s.views (newcomer_beside v ∷ [])) longer;
      guarded = λ k w h.
          elim (at_snoc s.views (newcomer_beside v) w k h) [
            | inl e ↦ kept.guarded k w e
            | inr e ↦ subst (λ (x : SeatView). Guarded x word) e (λ announced. absurd (false≢true announced))
          ];
    }

pub every_state_keeps_rule : EveryStateKeepsRule IsKept
every_state_keeps_rule limit s kept =
    let word = slice_index s.words 0 in
    record {
      range = kept.range;
      rule = kept.rule;
      bounded = fails_bounded limit word (parties_of s.views) kept.rule;
      bar = bar_of_rule limit word (parties_of s.views) kept.range kept.rule;
      guarded = kept.guarded;
    }
