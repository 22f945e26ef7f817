-- Words: what they are of a core, T and S, and whom they refuse.
use Rattle.std.proofs.Common.{◌⊎◌, ◌≡◌, ◌≢◌, ℕ, not, ◌+◌, ◌-◌, ◌^◌, ◌<◌, ◌≤◌, Bool, true, false, ◌&&◌, ◌||◌, ◌==◌, nat_lt, inl, inr, List, slice_get, Some, IsTrue, refl, sym, ap, subst, ◌∙◌, arith, eq-eqb, ltb-true, lt-ltb, ◌%◌}
use Rattle.std.proofs.lemmas.Bool.{false≢true, true≢false, or_left, or_parts, cases_Bool, false_from_ne_true}
use Rattle.std.proofs.lemmas.Bool.{cases_lt}
use Rattle.lock_modes.specs.Limits.{IsLimit}
use Rattle.lock_modes.specs.declared.hold.Hold.{Hold}
use Rattle.lock_modes.specs.Holds.{hold_has, hold_after}
use Rattle.lock_word.specs.declared.want.ExWant.{ExWant}
use Rattle.lock_word.specs.declared.want.ExWant.TheVariants as want
use Rattle.lock_word.specs.Holders.{all_of}
use Rattle.lock_word.specs.Word.{word_admits, step_of_want}
use Rattle.lock_word.specs.Unblocking.{is_awaited}
use Rattle.lock_word.specs.Rule.{WordShows}
use Rattle.lock_word.proofs.Words.{parts_of_word}
use Rattle.lock_one.specs.declared.action.Action.{Action}
use Rattle.lock_one.specs.declared.action.Action.TheVariants as action
use Rattle.lock_one.specs.declared.call.WordCall.{WordCall}
use Rattle.lock_one.specs.declared.sleep_view.WordLimits.{WordLimits}
use Rattle.lock_one.specs.declared.sleep_view.SleepView.{SleepView}
use Rattle.lock_one.specs.declared.sleep_view.SleepState.{SleepState}
use Rattle.lock_one.specs.declared.sleep_view.SleepState.TheVariants.{Awake, Asleep, Woken}
use Rattle.lock_one.specs.Rule.{holds_of, is_shared, passes_turn, is_woken, is_asleep, has_duty, KeepsSleepers}
use Rattle.lock_one.specs.Machine.{is_exclusive, turn, sleepers, core_of, has_turn, has_sleepers, with_turn, with_sleepers, admits_word}
use Rattle.lock_one.specs.Steps.{made, IsPause, Keeps}
use Rattle.lock_one.proofs.Kept.{after_win}
use Rattle.lock_one.proofs.EachStep.{parties_of, party_at, party_of, rule_of}
use Rattle.lock_word.proofs.Rules.{shows}

pub not_below : (a b : ℕ) → nat_lt a b ≡ false → b ≤ a
not_below a b h =
    elim (cases_lt a b) [
      | inl below ↦ absurd (true≢false (sym (lt-ltb a b below) ∙ h))
      | inr high ↦ high
    ]

pub and_true : (a : Bool) → (a && true) ≡ a
and_true true = refl
and_true false = refl

-- a word of its core, T and S
abbrev pub encoded : ℕ → Bool → Bool → ℕ
encoded core t s = with_sleepers (with_turn core t) s

pub encoded_core : (core : ℕ) (t s : Bool) → core < 2 ^ 35 → core_of (encoded core t s) ≡ core
encoded_core core true true small = omega arith
encoded_core core true false small = omega arith
encoded_core core false true small = omega arith
encoded_core core false false small = omega arith

pub encoded_low : (core : ℕ) (t s : Bool) → core < 2 ^ 35 → encoded core t s % sleepers ≡ with_turn core t
encoded_low core true true small = omega arith
encoded_low core true false small = omega arith
encoded_low core false true small = omega arith
encoded_low core false false small = omega arith

-- a comparison that does not hold
pub high_is : (n m : ℕ) → m ≤ n → not (nat_lt n m) ≡ true
high_is n m high = ap not (false_from_ne_true (nat_lt n m) (λ e. let l = ltb-true n m e in omega arith))

pub low_is : (n m : ℕ) → n < m → not (nat_lt n m) ≡ false
low_is n m low = ap not (lt-ltb n m low)

pub encoded_turn : (core : ℕ) (t s : Bool) → core < 2 ^ 35 → has_turn (encoded core t s) ≡ t
encoded_turn core t s small = ap (λ n. not (nat_lt n turn)) (encoded_low core t s small) ∙ by t
  where
    by : (t : Bool) → not (nat_lt (with_turn core t) turn) ≡ t
    by true = high_is (core + 2 ^ 35) (2 ^ 35) (omega arith)
    by false = low_is core (2 ^ 35) small

pub encoded_bit : (core : ℕ) (t s : Bool) → core < 2 ^ 35 → has_sleepers (encoded core t s) ≡ s
encoded_bit core true true small = high_is (core + 2 ^ 35 + 2 ^ 36) (2 ^ 36) (omega arith)
encoded_bit core true false small = low_is (core + 2 ^ 35) (2 ^ 36) (omega arith)
encoded_bit core false true small = high_is (core + 2 ^ 36) (2 ^ 36) (omega arith)
encoded_bit core false false small = low_is core (2 ^ 36) (omega arith)

pub encoded_small : (core : ℕ) (t s : Bool) → core < 2 ^ 35 → encoded core t s < 2 ^ 37
encoded_small core true true small = omega arith
encoded_small core true false small = omega arith
encoded_small core false true small = omega arith
encoded_small core false false small = omega arith

pub bit_of : (word : ℕ) → sleepers ≤ word → has_sleepers word ≡ true
bit_of word high = high_is word (2 ^ 36) high

is_on : (b : Bool) → not b ≡ false → b ≡ true
is_on true e = refl
is_on false e = absurd (true≢false e)

is_off : (b : Bool) → not b ≡ true → b ≡ false
is_off true e = absurd (false≢true e)
is_off false e = refl

-- T, as a bit of the word
pub turn_is : (word : ℕ) → has_turn word ≡ true → 2 ^ 35 ≤ word % 2 ^ 36
turn_is word set =
    elim (cases_lt (word % 2 ^ 36) (2 ^ 35)) [
      | inl low ↦ absurd (false≢true (sym (low_is (word % 2 ^ 36) (2 ^ 35) low) ∙ set))
      | inr high ↦ high
    ]

pub turn_clear : (word : ℕ) → has_turn word ≡ false → word % 2 ^ 36 < 2 ^ 35
turn_clear word clear =
    elim (cases_lt (word % 2 ^ 36) (2 ^ 35)) [
      | inl low ↦ low
      | inr high ↦ absurd (true≢false (sym (high_is (word % 2 ^ 36) (2 ^ 35) high) ∙ clear))
    ]

pub decoded : (word : ℕ) → word < 2 ^ 37 → encoded (core_of word) (has_turn word) (has_sleepers word) ≡ word
decoded word small = by (has_turn word) (has_sleepers word) refl refl
  where
    by : (t s : Bool) → has_turn word ≡ t → has_sleepers word ≡ s → encoded (core_of word) t s ≡ word
    by true true et es = let high = turn_is word et in let big = not_below word (2 ^ 36) (is_off (nat_lt word (2 ^ 36)) es) in omega arith
    by true false et es = let high = turn_is word et in let low = ltb-true word (2 ^ 36) (is_on (nat_lt word (2 ^ 36)) es) in omega arith
    by false true et es = let low_t = turn_clear word et in let big = not_below word (2 ^ 36) (is_off (nat_lt word (2 ^ 36)) es) in omega arith
    by false false et es = let low_t = turn_clear word et in let low = ltb-true word (2 ^ 36) (is_on (nat_lt word (2 ^ 36)) es) in omega arith

-- the word without T
pub dropped : (word : ℕ) → word < 2 ^ 37 → has_turn word ≡ true → encoded (core_of word) false (has_sleepers word) ≡ word - turn
dropped word small set = by (has_sleepers word) (subst (λ b. encoded (core_of word) b (has_sleepers word) ≡ word) set (decoded word small))
  where
    by : (s : Bool) → encoded (core_of word) true s ≡ word → encoded (core_of word) false s ≡ word - turn
    by true is = omega arith
    by false is = omega arith

pub lessened : (word n : ℕ) → word < 2 ^ 37 → n ≤ core_of word → encoded (core_of word - n) (has_turn word) (has_sleepers word) ≡ word - n
lessened word n small within = by (has_turn word) (has_sleepers word) (decoded word small)
  where
    by : (t s : Bool) → encoded (core_of word) t s ≡ word → encoded (core_of word - n) t s ≡ word - n
    by true true is = omega arith
    by true false is = omega arith
    by false true is = omega arith
    by false false is = omega arith

-- whether a word refuses

pub refuses_core : (a : Bool) (limit word : ℕ) (wish : ExWant) → has_turn word ≡ false → admits_word a limit word wish ≡ false
    → word_admits a limit (core_of word) wish ≡ false
refuses_core a limit word wish clear refuses =
    sym (and_true (word_admits a limit (core_of word) wish))
    ∙ (ap (λ t. word_admits a limit (core_of word) wish && (not t || passes_turn a wish)) (sym clear) ∙ refuses)

pub refusal_of : (a : Bool) (limit word : ℕ) (wish : ExWant) → admits_word a limit word wish ≡ false
    → (word_admits a limit (core_of word) wish ≡ false) ⊎ ((has_turn word ≡ true) × (passes_turn a wish ≡ false))
refusal_of a limit word wish refuses =
    elim (cases_Bool (word_admits a limit (core_of word) wish)) [
      | inr never ↦ inl never
      | inl yes_it ↦
          (let rest : (not (has_turn word) || passes_turn a wish) ≡ false
          = sym (ap (λ b. b && (not (has_turn word) || passes_turn a wish)) yes_it) ∙ refuses in
          let two = or_parts (not (has_turn word)) (passes_turn a wish) rest in
          inr (is_on (has_turn word) two.0, two.1))
    ]

pub core_refuses_it : (a : Bool) (limit word : ℕ) (wish : ExWant) → word_admits a limit (core_of word) wish ≡ false → admits_word a limit word wish ≡ false
core_refuses_it a limit word wish refuses = ap (λ b. b && (not (has_turn word) || passes_turn a wish)) refuses

-- two words of one core and one T refuse alike
pub refuses_alike : (a : Bool) (limit word other : ℕ) (wish : ExWant) → core_of other ≡ core_of word → has_turn other ≡ has_turn word
    → admits_word a limit word wish ≡ false → admits_word a limit other wish ≡ false
refuses_alike a limit word other wish core t refuses =
    ap (λ n. word_admits a limit n wish && (not (has_turn other) || passes_turn a wish)) core
    ∙ (ap (λ b. word_admits a limit (core_of word) wish && (not b || passes_turn a wish)) t ∙ refuses)

pub no_both : (wish : ExWant) → is_exclusive wish ≡ true → is_shared wish ≡ true → ⊥
no_both want.Shared x s = false≢true x
no_both want.Exclusive x s = false≢true s
no_both want.Upgradable x s = false≢true x
no_both want.Upgrade x s = false≢true x
no_both want.Announce x s = false≢true x

pub small_core : (limits : WordLimits) (core : ℕ) (t s : Bool) (views : List SleepView) → IsLimit limits.readers → KeepsSleepers limits core t s views
    → core < 2 ^ 35
small_core limits core t s views range kept =
    let parts = parts_of_word limits.readers (all_of (holds_of views)) range.1 kept.legal in
    let low = parts.small in
    let coded = kept.coded in
    omega arith

pub keeps_word : (limits : WordLimits) (core : ℕ) (t s : Bool) (views : List SleepView) → IsLimit limits.readers → KeepsSleepers limits core t s views
    → Keeps limits (encoded core t s) views
keeps_word limits core t s views range kept =
    let small = small_core limits core t s views range kept in
    let word = encoded core t s in
    record {
      small = encoded_small core t s small;
      kept =
          subst (λ c. KeepsSleepers limits c (has_turn word) (has_sleepers word) views) (sym (encoded_core core t s small))
          (subst (λ b. KeepsSleepers limits core b (has_sleepers word) views) (sym (encoded_turn core t s small))
          (subst (λ b. KeepsSleepers limits core t b views) (sym (encoded_bit core t s small)) kept));
    }

-- booleans

pub or_right : (a b : Bool) → IsTrue b → IsTrue (a || b)
or_right true b h = refl
or_right false b h = h

pub or_false : (a : Bool) → (a || false) ≡ a
or_false true = refl
or_false false = refl

pub not_true : (a : Bool) → IsTrue (not a) → a ≡ false
not_true true h = absurd (false≢true h)
not_true false h = refl

pub and_false : (a : Bool) → (a && false) ≡ false
and_false true = refl
and_false false = refl

-- parties

pub is_awake : (state : SleepState) → is_asleep state ≡ false → (IsTrue (is_woken state) → ⊥) → state ≡ Awake
is_awake Awake a w = refl
is_awake (Asleep x) a w = absurd (true≢false a)
is_awake Woken a w = absurd (w refl)

-- in a lock for one, a word that refuses is not free
pub refused_is_taken : (limits : WordLimits) (core : ℕ) (t s : Bool) (views : List SleepView) (k : ℕ) (v : SleepView) (wish : ExWant) → IsLimit limits.readers
    → KeepsSleepers limits core t s views → slice_get views k ≡ Some v → IsTrue (is_awaited wish) → IsTrue (hold_has v.held (step_of_want wish))
    → (a : Bool) → word_admits a limits.readers core wish ≡ false → core ≢ 0
refused_is_taken limits core t s views k v wish range kept at awaited has a refuses free =
    let seen = shows limits.readers core (parties_of views) k (party_of v) range (rule_of limits.readers core views kept.coded kept.legal) (party_at views k v at) in
    by wish awaited has (subst (λ c. word_admits a limits.readers c wish ≡ false) free refuses) seen
  where
    by : (w : ExWant) → IsTrue (is_awaited w) → IsTrue (hold_has v.held (step_of_want w)) → word_admits a limits.readers 0 w ≡ false
        → WordShows limits.readers core v.held → ⊥
    by want.Shared o h r seen = let some = lt-ltb 0 limits.readers range.0 in false≢true (sym r ∙ some)
    by want.Exclusive o h r seen = true≢false r
    by want.Upgradable o h r seen = let some = lt-ltb 0 limits.readers range.0 in false≢true (sym r ∙ some)
    by want.Upgrade o h r seen =
        let one = ltb-true 0 v.held.bag.upgradable h in
        let reads = seen.reads (omega arith) in
        let low = reads.0 in
        omega arith
    by want.Announce o h r seen = false≢true o

-- a mutex that refuses a party with a bar is held
pub refused_is_held : (call : WordCall) (core : ℕ) → core < 2 ^ 35 → call.announced ≡ true → (call.announced ≡ true → is_exclusive call.want ≡ true)
    → word_admits call.announced call.readers core call.want ≡ false → core % 2 ^ 34 ≢ 0
refused_is_held call core small bar writer refuses free =
    by call.want (writer bar) (subst (λ a. word_admits a call.readers core call.want ≡ false) bar refuses)
  where
    by : (w : ExWant) → is_exclusive w ≡ true → word_admits true call.readers core w ≡ false → ⊥
    by want.Shared e refuse = false≢true e
    by want.Exclusive e refuse =
        elim (cases_lt core (2 ^ 34)) [
          | inl low ↦ true≢false (sym (or_left (core == 0) (core == 2 ^ 34) (eq-eqb core 0 (omega arith))) ∙ refuse)
          | inr high ↦ true≢false (sym (or_right (core == 0) (core == 2 ^ 34) (eq-eqb core (2 ^ 34) (omega arith))) ∙ refuse)
        ]
    by want.Upgradable e refuse = false≢true e
    by want.Upgrade e refuse = false≢true e
    by want.Announce e refuse = false≢true e

-- an acquisition leaves no bar, where only one that is exclusive has announced itself
pub leaves_no_bar : (own : Hold) (wish : ExWant) → IsTrue (is_awaited wish) → (own.announced ≡ true → is_exclusive wish ≡ true)
    → (hold_after own (step_of_want wish)).announced ≡ false
leaves_no_bar own wish awaited writer = by wish awaited writer (cases_Bool own.announced)
  where
    by : (w : ExWant) → IsTrue (is_awaited w) → (own.announced ≡ true → is_exclusive w ≡ true) → (own.announced ≡ true) ⊎ (own.announced ≡ false)
        → (hold_after own (step_of_want w)).announced ≡ false
    by want.Shared o h (inl bar) = absurd (false≢true (h bar))
    by want.Shared o h (inr none) = none
    by want.Exclusive o h c = refl
    by want.Upgradable o h (inl bar) = absurd (false≢true (h bar))
    by want.Upgradable o h (inr none) = none
    by want.Upgrade o h (inl bar) = absurd (false≢true (h bar))
    by want.Upgrade o h (inr none) = none
    by want.Announce o h c = absurd (false≢true o)

-- an action that only spends time
pub rest_leaves : (a : Action) (word : ℕ) → IsPause a → made a word ≡ word
rest_leaves action.Load word h = absurd h
rest_leaves (action.Exchange x y) word h = absurd h
rest_leaves (action.Subtract d) word h = absurd h
rest_leaves (action.Sleep n c b) word h = absurd h
rest_leaves action.WakeOne word h = absurd h
rest_leaves action.WakeAll word h = absurd h
rest_leaves action.WakeNext word h = absurd h
rest_leaves action.WakeTurn word h = absurd h
rest_leaves (action.Spin n) word h = refl
rest_leaves action.Yield word h = absurd h
rest_leaves (action.End b) word h = absurd h

-- the bar that a call sets makes no word admit it that refused
pub marked_refuses : (a : Bool) (limit core : ℕ) (wish : ExWant) → core < 2 ^ 34 → IsTrue (is_awaited wish) → word_admits a limit core wish ≡ false
    → word_admits true limit (core + 2 ^ 34) wish ≡ false
marked_refuses a limit core want.Shared low o h = false_from_ne_true (word_admits true limit (core + 2 ^ 34) want.Shared) (λ e. grind arith)
marked_refuses a limit core want.Exclusive low o h = false_from_ne_true (word_admits true limit (core + 2 ^ 34) want.Exclusive) (λ e. grind arith)
marked_refuses a limit core want.Upgradable low o h = false_from_ne_true (word_admits true limit (core + 2 ^ 34) want.Upgradable) (λ e. grind arith)
marked_refuses a limit core want.Upgrade low o h = false_from_ne_true (word_admits true limit (core + 2 ^ 34) want.Upgrade) (λ e. grind arith)
marked_refuses a limit core want.Announce low o h = absurd (false≢true o)

-- an announcement leaves what a party holds
pub has_after_announcing : (v : SleepView) (wish : ExWant) → IsTrue (is_awaited wish) → IsTrue (hold_has v.held (step_of_want wish))
    → IsTrue (hold_has (after_win v want.Announce).held (step_of_want wish))
has_after_announcing v want.Shared o h = h
has_after_announcing v want.Exclusive o h = h
has_after_announcing v want.Upgradable o h = h
has_after_announcing v want.Upgrade o h = h
has_after_announcing v want.Announce o h = h

pub no_duty : (limits : WordLimits) (v : SleepView) → limits.wakes_one ≡ false → has_duty limits v ≡ false
no_duty limits v many = ap (λ b. b && is_woken v.sleep) many
