-- Each kind of step of a seat keeps the rule of the table, by the law of the machine.
use Rattle.std.proofs.Common.{◌≡◌, ℕ, zero, suc, ◌+◌, ◌-◌, ◌%◌, ◌^◌, ◌<◌, Bool, true, false, ◌==◌, if◌then◌else◌, inl, inr, List, [], ◌∷◌, ◌++◌, set, get_or, length, slice_get, slice_set, Some, IsTrue, refl, sym, ap, subst, ◌∙◌, arith, eqb, eq-eqb, length-set, get_or-set_same}
use Rattle.std.proofs.lemmas.Bool.{false_from_ne_true}
use Rattle.std.proofs.lemmas.List.{map-append}
use mathlib.Core.Option.{some, none}
use lib.ListN.{get_elem?}
use prog.Atomic.{either}
use Rattle.atomic_table.specs.Table.{Act, step, keeps, stepped, carried_after, Valid, Allows, Enters}
use Rattle.atomic_table.proofs.Lists.{at_set, at_snoc, at_last, exchanged}
use Rattle.lock_modes.specs.declared.hold.Hold.{Hold}
use Rattle.lock_word.specs.declared.down.Down.{Down}
use Rattle.lock_word.specs.declared.down.Down.TheVariants as down
use Rattle.lock_word.specs.Rule.{WordShows}
use Rattle.lock_modes.specs.Holds.{hold_has}
use Rattle.lock_word.specs.Word.{amount, step_of_down}
use Rattle.lock_word.proofs.Rules.{shows}
use Rattle.lock_one.specs.declared.action.Action.{Action}
use Rattle.lock_one.specs.declared.action.Action.TheVariants as action
use Rattle.lock_one.specs.declared.call.WordCall.{WordCall}
use Rattle.lock_one.specs.declared.sleep_view.SleepView.{SleepView}
use Rattle.lock_one.specs.Machine.{core_of, has_turn, has_sleepers}
use Rattle.lock_one.specs.Runs.{limits_in}
use Rattle.lock_one.specs.Steps.{made, limits_of, is_step, Keeps}
use Rattle.lock_one.specs.Stored.{stored_of, word_of_stored, stored_amount}
use Rattle.lock_one.proofs.EachStep.{parties_of, party_of, rule_of, party_at as party_in}
use Rattle.lock_one.proofs.Runs.{joined}
use Rattle.lock_one.proofs.Stored.{read_back, stored_again, storing_keeps_words}
use Rattle.lock_one_word.specs.declared.rule.OneView.{OneView}
use Rattle.lock_one_word.specs.Seats.{resting, parties_in, Table, Self, stored_in, newcomer, IsKept, Task, IsGoing}
use Rattle.lock_one_word.specs.Legal.{EveryStateIsLegal}
use Rattle.lock_one_word.specs.Plays.{Agrees, Loads, Exchanges, Subtracts, down_of_amount}
use Rattle.lock_one_word.proofs.Parties.{party_at, keeps_resting, same_views}
use Rattle.lock_one_word.proofs.Agree.{law, agrees}

-- the rule after a step of the seat at id, which leaves this stored word and this view
left : (limit id raw : ℕ) (s : Table) (v : OneView) → IsKept limit s → v.readers ≡ limit → raw < 2 ^ 37
    → Keeps (limits_in limit) (word_of_stored raw) (parties_in (slice_set s.views id v))
    → IsKept limit record { words = slice_set s.words 0 raw; homes = s.homes; views = slice_set s.views id v }
left limit id raw s v kept readers small rule =
    let one = kept.one_word in
    let is : get_or (set s.words 0 raw) 0 0 ≡ raw = get_or-set_same s.words 0 raw 0 (omega arith) in
    record {
      one_word = length-set s.words 0 raw ∙ kept.one_word;
      small = rw is small;
      range = kept.range;
      known = λ k w h.
          elim (at_set s.views id k v w h) [
            | inl e ↦ sym (ap (λ (x : OneView). x.readers) e.1) ∙ readers
            | inr e ↦ kept.known k w e.1
          ];
      keeps = rw is rule;
    }

word_small : (limit : ℕ) (s : Table) → IsKept limit s → word_of_stored (stored_in s) < 2 ^ 37
word_small limit s kept = kept.keeps.small

-- what the word tells a party of all holds
told : (limit id : ℕ) (s : Table) (v : OneView) → IsKept limit s → get_elem? s.views id ≡ some v
    → WordShows limit (core_of (word_of_stored (stored_in s))) v.held
told limit id s v kept at =
    let kp = kept.keeps.kept in
    shows limit (core_of (word_of_stored (stored_in s))) (parties_of (parties_in s.views)) id (party_of (resting v)) kept.range
    (rule_of limit (core_of (word_of_stored (stored_in s))) (parties_in s.views) kp.coded kp.legal) (party_in (parties_in s.views) id (resting v) (party_at s.views id v at))

-- a load changes nothing, and each call of the party that asks for it goes on
pub loaded : (limit id : ℕ) (s : Table) (me : Self) → IsKept limit s → get_elem? s.views id ≡ some me.0 → Agrees action.Load me (stored_in s) me
loaded limit id s me kept at = (
  refl,
  refl,
  λ call before task stepping going.
      agrees limit (word_of_stored (stored_in s)) (parties_in s.views) id me.0.held kept.range kept.keeps (party_at s.views id me.0 at) (word_small limit s kept)
      action.Load me.0.held
      (subst (λ vs. Keeps (limits_in limit) (word_of_stored (stored_in s)) vs) (sym (again (parties_in s.views) id (resting me.0) (party_at s.views id me.0 at))) kept.keeps)
      me.0.readers (kept.known id me.0 at) call before task stepping going,
)
  where
    again : (ps : List SleepView) (k : ℕ) (p : SleepView) → slice_get ps k ≡ Some p → slice_set ps k p ≡ ps
    again [] k p h = refl
    again (q ∷ ps) zero p h = ap (λ (x : SleepView). x ∷ ps) (sym (same q p h))
      where
        same : (a b : SleepView) → Some a ≡ Some b → a ≡ b
        same a b e = cc
    again (q ∷ ps) (suc k) p h = ap (λ xs. q ∷ xs) (again ps k p h)

-- the step of this call leaves the stored word `raw`, and the rule holds
steps_to : (limit slots id raw : ℕ) (s : Table) (me : Self) (call : WordCall) (before : Hold) (task : Task) (a : Action) → IsKept limit s → get_elem? s.views id ≡ some me.0
    → is_step call.stage ≡ true → IsGoing (call, a) before task me.0 → raw < 2 ^ 37 → word_of_stored raw ≡ made a (word_of_stored (stored_in s))
    → (w : OneView) × (b : Act (Unit {0})) × Valid s.homes me.1 b × IsKept limit (stepped s 0 raw id me.1 w b)
    × Agrees a me (stored_in s) (w, carried_after me.1 b)
steps_to limit slots id raw s me call before task a kept at stepping going small is =
    let word = word_of_stored (stored_in s) in
    let there = party_at s.views id me.0 at in
    let readers = kept.known id me.0 at in
    let st = law limit word (parties_in s.views) id me.0.held kept.range kept.keeps there (word_small limit s kept) call before task a me.0.readers readers stepping going in
    let lock : limits_of call ≡ limits_in limit = ap limits_in (going.lock ∙ readers) in
    let later : Keeps (limits_in limit) (made a word) (slice_set (parties_in s.views) id st.you)
    = subst (λ l. Keeps l (made a word) (slice_set (parties_in s.views) id st.you)) lock st.keeps in
    let v : OneView = record { held = st.you.held; readers = me.0.readers } in
    let rests : Keeps (limits_in limit) (made a word) (parties_in (slice_set s.views id v)) = keeps_resting limit (made a word) s.views id st.you v refl later in
    let seen : Keeps (limits_in limit) (made a word) (slice_set (parties_in s.views) id (resting v)) = subst (λ ps. Keeps (limits_in limit) (made a word) ps) (map_set s.views id v) rests in (
      v,
      keeps,
      tt,
      left limit id raw s v kept readers small (subst (λ n. Keeps (limits_in limit) n (parties_in (slice_set s.views id v))) (sym is) rests),
      (
        refl,
        refl,
        λ other first todo on goes.
            agrees limit word (parties_in s.views) id me.0.held kept.range kept.keeps there (word_small limit s kept) a st.you.held seen me.0.readers readers other first todo on goes,
      ),
    )
  where
    map_set : (vs : List OneView) (k : ℕ) (v : OneView) → parties_in (slice_set vs k v) ≡ slice_set (parties_in vs) k (resting v)
    map_set [] k v = refl
    map_set (x ∷ vs) zero v = refl
    map_set (x ∷ vs) (suc k) v = ap (λ ps. resting x ∷ ps) (map_set vs k v)

pub loads : (limit slots id : ℕ) (me : Self) → Allows (IsKept limit) slots id me 0 (λ n. n) (Loads (step slots 0 0 0 none) me)
loads limit slots id me s kept same at small = (
  me.0,
  keeps,
  tt,
  left limit id (stored_in s) s me.0 kept (kept.known id me.0 at) kept.small
      (subst (λ vs. Keeps (limits_in limit) (word_of_stored (stored_in s)) (parties_in vs)) (sym (same_views s.views id me.0 at)) kept.keeps),
  (refl, kept.small, subst (λ n. WordShows n (core_of (word_of_stored (stored_in s))) me.0.held) (sym (kept.known id me.0 at)) (told limit id s me.0 kept at), loaded limit id s me kept at),
)

-- an exchange, on the stored words
pub exchanges : (limit slots id : ℕ) (me : Self) (call : WordCall) (before : Hold) (task : Task) (old new : ℕ) → is_step call.stage ≡ true
    → IsGoing (call, action.Exchange old new) before task me.0 → old < 2 ^ 37 → new < 2 ^ 37
    → Allows (IsKept limit) slots id me 0 (λ n. either (eqb n (stored_of old)) (stored_of new) n) (Exchanges (step slots 0 (stored_of old) (stored_of new) none) me)
exchanges limit slots id me call before task old new stepping going old_small new_small s kept same at small =
    let raw = stored_in s in
    let word = word_of_stored raw in
    let first : word_of_stored (stored_of old) ≡ old = read_back old old_small in
    let second : word_of_stored (stored_of new) ≡ new = read_back new new_small in
    subst
    (λ (a : Action).
    (w : OneView) × (b : Act (Unit {0})) × Valid s.homes me.1 b × IsKept limit (stepped s 0 (either (eqb raw (stored_of old)) (stored_of new) raw) id me.1 w b)
    × Agrees a me raw (w, carried_after me.1 b))
    (sym (ap (λ n. action.Exchange n (word_of_stored (stored_of new))) first ∙ ap (λ n. action.Exchange old n) second))
    (exchanged raw (stored_of old) (stored_of new)
    (λ n. (w : OneView) × (b : Act (Unit {0})) × Valid s.homes me.1 b × IsKept limit (stepped s 0 n id me.1 w b)
    × Agrees (action.Exchange old new) me raw (w, carried_after me.1 b))
    (λ hit.
    let is : word ≡ old = ap word_of_stored hit ∙ first in
    steps_to limit slots id (stored_of new) s me call before task (action.Exchange old new) kept at stepping going (omega arith)
    (second ∙ sym (ap (λ (c : Bool). if c then new else word) (eq-eqb word old is))))
    (λ miss.
    let other : (word == old) ≡ false = false_from_ne_true (word == old) (λ e. miss (sym (stored_again raw kept.small) ∙ ap stored_of (found word old e))) in
    steps_to limit slots id raw s me call before task (action.Exchange old new) kept at stepping going kept.small
    (sym (ap (λ (c : Bool). if c then new else word) other))))
  where
    found : (a b : ℕ) → (a == b) ≡ true → a ≡ b
    found a b e = grind arith

-- the subtraction on the stored word is the one on the word
less : (limit id raw : ℕ) (s : Table) (v : OneView) (d : Down) → IsKept limit s → get_elem? s.views id ≡ some v → IsTrue (hold_has v.held (step_of_down d))
    → raw ≡ (stored_in s + (2 ^ 64 - stored_amount (2 ^ 64) d)) % 2 ^ 64
    → (word_of_stored raw ≡ word_of_stored (stored_in s) - amount d) × (raw < 2 ^ 37)
less limit id raw s v d kept at has is =
    let word = word_of_stored (stored_in s) in
    let after = word - amount d in
    let small = word_small limit s kept in
    let law = storing_keeps_words.subtracts (limits_in limit) word (parties_in s.views) id (resting v) d (2 ^ 64) kept.range kept.keeps
    (party_at s.views id v at) has (omega arith) (omega arith) in
    let again : raw ≡ stored_of after
    = is ∙ (ap (λ n. (n + (2 ^ 64 - stored_amount (2 ^ 64) d)) % 2 ^ 64) (sym (stored_again (stored_in s) kept.small)) ∙ law) in
    (ap word_of_stored again ∙ read_back after (omega arith), omega arith)

same_down : (d : Down) → down_of_amount (stored_amount (2 ^ 64) d) ≡ d
same_down down.Shared = refl
same_down down.Exclusive = refl
same_down down.Upgradable = refl
same_down down.ToShared = refl
same_down down.ToUpgradable = refl
same_down down.UpgradableToShared = refl
same_down down.Withdraw = refl

pub subtracts : (limit slots id : ℕ) (me : Self) (call : WordCall) (before : Hold) (task : Task) (d : Down) → is_step call.stage ≡ true
    → IsGoing (call, action.Subtract d) before task me.0 → IsTrue (hold_has me.0.held (step_of_down d))
    → Allows (IsKept limit) slots id me 0 (λ n. (n + (2 ^ 64 - stored_amount (2 ^ 64) d)) % 2 ^ 64) (Subtracts (step slots 0 (stored_amount (2 ^ 64) d) 0 none) me)
subtracts limit slots id me call before task d stepping going has s kept same at small =
    let raw = stored_in s in
    let word = word_of_stored raw in
    let is = less limit id ((raw + (2 ^ 64 - stored_amount (2 ^ 64) d)) % 2 ^ 64) s me.0 d kept at has refl in
    subst
    (λ (e : Down).
    (w : OneView) × (b : Act (Unit {0})) × Valid s.homes me.1 b × IsKept limit (stepped s 0 ((raw + (2 ^ 64 - stored_amount (2 ^ 64) d)) % 2 ^ 64) id me.1 w b)
    × Agrees (action.Subtract e) me raw (w, carried_after me.1 b))
    (sym (same_down d))
    (steps_to limit slots id ((raw + (2 ^ 64 - stored_amount (2 ^ 64) d)) % 2 ^ 64) s me call before task (action.Subtract d) kept at stepping going is.1 is.0)

-- a new seat begins with a load
one_more : (limit : ℕ) (s : Table) → IsKept limit s → IsKept limit record { words = s.words; homes = s.homes; views = s.views ++ newcomer limit ∷ [] }
one_more limit s kept =
    record {
      one_word = kept.one_word;
      small = kept.small;
      range = kept.range;
      known = λ k w h.
          elim (at_snoc s.views (newcomer limit) w k h) [
            | inl e ↦ kept.known k w e
            | inr e ↦ sym (ap (λ (x : OneView). x.readers) e)
          ];
      keeps =
          subst (λ ps. Keeps (limits_in limit) (word_of_stored (stored_in s)) ps) (sym (map-append resting s.views (newcomer limit ∷ [])))
          record { small = kept.keeps.small; kept = joined (limits_in limit) (core_of (word_of_stored (stored_in s))) (has_turn (word_of_stored (stored_in s))) (has_sleepers (word_of_stored (stored_in s))) (parties_in s.views) kept.keeps.kept };
    }

pub enters : (limit slots : ℕ) → Enters (IsKept limit) slots 0 (λ n w. Loads (step slots 0 0 0 none) (newcomer limit, []) n (w, []))
enters limit slots s kept same small =
    let me : Self = (newcomer limit, []) in
    let longer : Table = record { words = s.words; homes = s.homes; views = s.views ++ newcomer limit ∷ [] } in
    let more = one_more limit s kept in
    let at : get_elem? longer.views (length s.views) ≡ some (newcomer limit) = at_last s.views (newcomer limit) (length s.views) refl in (
      newcomer limit,
      more,
      (refl, kept.small, told limit (length s.views) longer (newcomer limit) more at, loaded limit (length s.views) longer me more at),
    )

-- the same, of numbers that equal these
pub exchanges_as : (limit slots id : ℕ) (me : Self) (call : WordCall) (before : Hold) (task : Task) (old new first second : ℕ) → is_step call.stage ≡ true
    → IsGoing (call, action.Exchange old new) before task me.0 → old < 2 ^ 37 → new < 2 ^ 37 → first ≡ stored_of old → second ≡ stored_of new
    → Allows (IsKept limit) slots id me 0 (λ n. either (eqb n first) second n) (Exchanges (step slots 0 first second none) me)
exchanges_as limit slots id me call before task old new first second stepping going old_small new_small is_first is_second =
    subst (λ x. Allows (IsKept limit) slots id me 0 (λ n. either (eqb n x) second n) (Exchanges (step slots 0 x second none) me)) (sym is_first)
    (subst (λ y. Allows (IsKept limit) slots id me 0 (λ n. either (eqb n (stored_of old)) y n) (Exchanges (step slots 0 (stored_of old) y none) me)) (sym is_second)
    (exchanges limit slots id me call before task old new stepping going old_small new_small))

pub same_numbers : (old new first second : ℕ) → old < 2 ^ 37 → new < 2 ^ 37 → first ≡ stored_of old → second ≡ stored_of new
    → action.Exchange old new ≡ action.Exchange (word_of_stored first) (word_of_stored second)
same_numbers old new first second a b is_first is_second =
    sym (ap (λ n. action.Exchange n (word_of_stored second)) (ap word_of_stored is_first ∙ read_back old a)
    ∙ ap (λ n. action.Exchange old n) (ap word_of_stored is_second ∙ read_back new b))

pub subtracts_as : (limit slots id : ℕ) (me : Self) (call : WordCall) (before : Hold) (task : Task) (d : Down) (k : ℕ) → is_step call.stage ≡ true
    → IsGoing (call, action.Subtract d) before task me.0 → IsTrue (hold_has me.0.held (step_of_down d)) → k ≡ stored_amount (2 ^ 64) d
    → Allows (IsKept limit) slots id me 0 (λ n. (n + (2 ^ 64 - k)) % 2 ^ 64) (Subtracts (step slots 0 k 0 none) me)
subtracts_as limit slots id me call before task d k stepping going has is =
    subst (λ x. Allows (IsKept limit) slots id me 0 (λ n. (n + (2 ^ 64 - x)) % 2 ^ 64) (Subtracts (step slots 0 x 0 none) me)) (sym is)
    (subtracts limit slots id me call before task d stepping going has)

pub same_release : (d : Down) (k : ℕ) → k ≡ stored_amount (2 ^ 64) d → action.Subtract d ≡ action.Subtract (down_of_amount k)
same_release d k is = ap (λ (e : Down). action.Subtract e) (sym (ap down_of_amount is ∙ same_down d))

pub every_state_is_legal : EveryStateIsLegal IsKept
every_state_is_legal limit s kept = record { range = kept.range; coded = kept.keeps.kept.coded; legal = kept.keeps.kept.legal }
