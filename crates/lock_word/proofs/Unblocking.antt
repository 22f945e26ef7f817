-- Which waiters a step unblocks: an exchange nobody, and a take nobody that `unblocks` does not find.
use Rattle.std.proofs.Common.{◌≡◌, ℕ, not, ◌^◌, Bool, true, false, ◌&&◌, ◌||◌, ◌==◌, ◌⊎◌, inl, inr, IsTrue, refl, sym, ap, ◌∙◌, arith, eqb-true, ltb-true, lt-ltb, eq-eqb, nat_lt}
use Rattle.std.proofs.lemmas.Bool.{and_parts, and_from, or_parts, or_cases, or_left, false≢true}
use Rattle.lock_modes.specs.declared.mode.Mode.{Mode}
use Rattle.lock_modes.specs.declared.mode.Mode.TheVariants as mode
use Rattle.lock_modes.specs.Limits.{IsLimit}
use Rattle.lock_modes.specs.Modes.{tokens, admits}
use Rattle.lock_modes.specs.Bar.{passes_bar}
use Rattle.lock_word.specs.declared.occupancy.Occupancy.{Occupancy}
use Rattle.lock_word.specs.declared.want.ExWant.{ExWant}
use Rattle.lock_word.specs.declared.want.ExWant.TheVariants.{Shared, Exclusive, Upgradable, Upgrade, Announce}
use Rattle.lock_word.specs.BarredBags.{is_barred}
use Rattle.lock_word.specs.Word.{word_of, word_admits, readers_of_word, want_of_mode, barred_bag_of_word, IsPacked}
use Rattle.lock_word.specs.Unblocking.{is_awaited, occupancy_of_word, may_proceed, may_upgrade, newly_may_proceed}
use Rattle.lock_word.specs.UnblockingLaws.{ExchangesUnblockNobody, UnblocksMissesNobody}
use Rattle.lock_word.proofs.Words.{both_below, both_tests, one_of, is_one_of, same_tests, permits_of_word, word_of_permits, word_admits_mode}

-- an exclusive hold is admitted on a free word, or under the party's own bar alone
pub free_or_own : (a : Bool) (w : ℕ) → ((w == 0) || (a && (w == 2 ^ 34))) ≡ true → (w ≡ 0) ⊎ ((a ≡ true) × (w ≡ 2 ^ 34))
free_or_own a w h =
    elim (or_cases (w == 0) (a && (w == 2 ^ 34)) h) [
      | inl e ↦ inl (eqb-true w 0 e)
      | inr e ↦ (let two = and_parts a (w == 2 ^ 34) e in inr (two.0, eqb-true w (2 ^ 34) two.1))
    ]

pub exchanges_unblock_nobody : ExchangesUnblockNobody
exchanges_unblock_nobody a limit word want own other range seen h awaited has after = grind arith

-- the four tests of `unblocks`, on a packed word

-- a party may proceed if the word admits the mode to it
mode_test : (announced : Bool) (limit word : ℕ) (m : Mode) → IsLimit limit → IsPacked limit word
    → word_admits announced limit word (want_of_mode m)
    ≡ (passes_bar (is_barred (barred_bag_of_word word)) announced m && admits limit (barred_bag_of_word word).bag m)
mode_test announced limit word m range p =
    ap (λ w. word_admits announced limit w (want_of_mode m)) p.coded
    ∙ word_admits_mode announced limit (barred_bag_of_word word) m range.1 p.legal

shared_test : (limit word : ℕ) → IsLimit limit → IsPacked limit word
    → word_admits false limit word Shared ≡ may_proceed limit (occupancy_of_word word) mode.Shared
shared_test limit word range p = mode_test false limit word mode.Shared range p

upgradable_test : (limit word : ℕ) → IsLimit limit → IsPacked limit word
    → word_admits false limit word Upgradable ≡ may_proceed limit (occupancy_of_word word) mode.Upgradable
upgradable_test limit word range p = mode_test false limit word mode.Upgradable range p

-- a writer may proceed if the word admits it or would under the writer's own bar
writer_test : (limit word : ℕ) → IsLimit limit → IsPacked limit word
    → word_admits true limit word Exclusive ≡ may_proceed limit (occupancy_of_word word) mode.Exclusive
writer_test limit word range p = mode_test true limit word mode.Exclusive range p

upgrade_test : (limit word : ℕ) → IsLimit limit → IsPacked limit word
    → word_admits false limit word Upgrade ≡ may_upgrade (occupancy_of_word word)
upgrade_test limit word range p =
    let all = barred_bag_of_word word in
    ap (λ w. word_admits false limit w Upgrade) p.coded
    ∙ same_tests (word_admits false limit (word_of all) Upgrade) (nat_lt 0 all.bag.upgradable && (tokens all.bag == 1))
    (λ h.
    let permits = permits_of_word false limit all Upgrade range.1 p.legal (omega arith) h in
    and_from (nat_lt 0 all.bag.upgradable) (tokens all.bag == 1) (lt-ltb 0 all.bag.upgradable permits.0.0) permits.0.2)
    (λ h.
    let two = and_parts (nat_lt 0 all.bag.upgradable) (tokens all.bag == 1) h in
    word_of_permits false limit all Upgrade range.1 p.legal ((ltb-true 0 all.bag.upgradable two.0, refl, two.1), tt))

-- what a test finds after the step and not newly, it found before
before_too : (x y : Bool) → (not x && y) ≡ false → y ≡ true → x ≡ true
before_too true y h now = refl
before_too false y h now = sym h ∙ now

-- the same of a test on words that equals a test on occupancies
admitted_before : (a b x y : Bool) → a ≡ x → b ≡ y → (not x && y) ≡ false → IsTrue b → IsTrue a
admitted_before a b x y before after h now = before ∙ before_too x y h (sym after ∙ now)

module _ (limit before after : ℕ) (range : IsLimit limit) (was : IsPacked limit before) (is : IsPacked limit after) where
  -- what the new word admits newly, a test on the occupancies finds newly
  test_before : (a : Bool) (want : ExWant) (test : Occupancy → Bool)
      → ((word : ℕ) → IsLimit limit → IsPacked limit word → word_admits a limit word want ≡ test (occupancy_of_word word))
      → (not (test (occupancy_of_word before)) && test (occupancy_of_word after)) ≡ false
      → IsTrue (word_admits a limit after want) → IsTrue (word_admits a limit before want)
  test_before a want test same h now =
      admitted_before (word_admits a limit before want) (word_admits a limit after want) (test (occupancy_of_word before))
      (test (occupancy_of_word after)) (same before range was) (same after range is) h now

  shared_before : newly_may_proceed limit (occupancy_of_word before) (occupancy_of_word after) mode.Shared ≡ false
      → IsTrue (word_admits false limit after Shared) → IsTrue (word_admits false limit before Shared)
  shared_before = test_before false Shared (λ o. may_proceed limit o mode.Shared) (shared_test limit)

  upgradable_before : newly_may_proceed limit (occupancy_of_word before) (occupancy_of_word after) mode.Upgradable ≡ false
      → IsTrue (word_admits false limit after Upgradable) → IsTrue (word_admits false limit before Upgradable)
  upgradable_before = test_before false Upgradable (λ o. may_proceed limit o mode.Upgradable) (upgradable_test limit)

  writer_before : newly_may_proceed limit (occupancy_of_word before) (occupancy_of_word after) mode.Exclusive ≡ false
      → IsTrue (word_admits true limit after Exclusive) → IsTrue (word_admits true limit before Exclusive)
  writer_before = test_before true Exclusive (λ o. may_proceed limit o mode.Exclusive) (writer_test limit)

  upgrade_before : (not (may_upgrade (occupancy_of_word before)) && may_upgrade (occupancy_of_word after)) ≡ false
      → IsTrue (word_admits false limit after Upgrade) → IsTrue (word_admits false limit before Upgrade)
  upgrade_before = test_before false Upgrade may_upgrade (upgrade_test limit)

  -- a writer without the bar gains by a foreign withdrawal alone, which admits readers too
  exclusive_before : (a : Bool) → newly_may_proceed limit (occupancy_of_word before) (occupancy_of_word after) mode.Shared ≡ false
      → newly_may_proceed limit (occupancy_of_word before) (occupancy_of_word after) mode.Exclusive ≡ false
      → IsTrue (word_admits a limit after Exclusive) → IsTrue (word_admits a limit before Exclusive)
  exclusive_before true s x now = writer_before x now
  exclusive_before false s x now =
      elim (free_or_own false after now) [
        | inl free ↦
            elim (one_of before 0 (2 ^ 34) (writer_before x (is_one_of after 0 (2 ^ 34) (inl free)))) [
              | inl e ↦ or_left (before == 0) false (eq-eqb before 0 e)
              | inr e ↦
                  (let positive = range.0 in
                  let reads = both_tests after (2 ^ 33) (readers_of_word after) limit (omega arith) (omega arith) in
                  let read = both_below before (2 ^ 33) (readers_of_word before) limit (shared_before s reads) in
                  absurd (omega arith))
            ]
        | inr own ↦ absurd (false≢true own.0)
      ]

pub unblocks_misses_nobody : UnblocksMissesNobody
unblocks_misses_nobody announced limit before after want range was is awaited blocked now =
    let b = occupancy_of_word before in
    let n = occupancy_of_word after in
    let s = newly_may_proceed limit b n mode.Shared in
    let x = newly_may_proceed limit b n mode.Exclusive in
    let u = newly_may_proceed limit b n mode.Upgradable in
    let g = not (may_upgrade b) && may_upgrade n in
    let one = or_parts s (x || (u || g)) blocked in
    let two = or_parts x (u || g) one.1 in
    let three = or_parts u g two.1 in
    by want awaited now one.0 two.0 three.0 three.1
  where
    by : (want : ExWant) → IsTrue (is_awaited want) → IsTrue (word_admits announced limit after want)
        → newly_may_proceed limit (occupancy_of_word before) (occupancy_of_word after) mode.Shared ≡ false
        → newly_may_proceed limit (occupancy_of_word before) (occupancy_of_word after) mode.Exclusive ≡ false
        → newly_may_proceed limit (occupancy_of_word before) (occupancy_of_word after) mode.Upgradable ≡ false
        → (not (may_upgrade (occupancy_of_word before)) && may_upgrade (occupancy_of_word after)) ≡ false
        → IsTrue (word_admits announced limit before want)
    by Shared w h s x u g = shared_before limit before after range was is s h
    by Exclusive w h s x u g = exclusive_before limit before after range was is announced s x h
    by Upgradable w h s x u g = upgradable_before limit before after range was is u h
    by Upgrade w h s x u g = upgrade_before limit before after range was is g h
    by Announce w h s x u g = absurd (false≢true w)
