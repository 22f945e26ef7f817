-- A chain of holders that sleep would rise for ever.
use Rattle.std.proofs.Common.{◌≡◌, ℕ, zero, suc, ◌+◌, ◌^◌, ◌<◌, ◌≤◌, Bool, true, false, not, ◌==◌, ◌&&◌, ◌||◌, List, [], ◌∷◌, slice_get, Some, ◌⊎◌, inl, inr, IsTrue, refl, sym, ap, subst, ◌∙◌, arith, ltb-true}
use Rattle.std.proofs.lemmas.Bool.{false≢true, cases_Bool}
use Rattle.std.proofs.lemmas.List.Sums.{sum_by-cons}
use Rattle.std.proofs.lemmas.Option.{slice_get-map}
use Rattle.lock_modes.specs.declared.hold.Hold.{Hold}
use Rattle.lock_modes.specs.Modes.{tokens}
use Rattle.lock_modes.specs.Holds.{hold_has}
use Rattle.lock_word.specs.declared.want.ExWant.{ExWant}
use Rattle.lock_word.specs.declared.want.ExWant.TheVariants.{Shared, Exclusive, Upgradable, Upgrade, Announce}
use Rattle.lock_word.specs.BarredBags.{bars_of}
use Rattle.lock_word.specs.Holders.{all_of}
use Rattle.lock_word.specs.Word.{word_admits, step_of_want}
use Rattle.lock_word.specs.Unblocking.{is_awaited}
use Rattle.lock_word.proofs.Holders.{part_of_all}
use Rattle.lock_one.specs.declared.sleep_view.SleepView.{SleepView}
use Rattle.lock_one.specs.declared.sleep_view.SleepState.TheVariants.{Asleep}
use Rattle.lock_one.specs.declared.sleep_view.Debt.TheVariants.{Nothing}
use Rattle.lock_one.specs.Machine.{core_of, has_turn}
use Rattle.lock_one.specs.Rule.{holds_of, admits_to, passes_turn, IsRefused, is_woken, reaches, has_duty, serves}
use Rattle.lock_one.specs.Runs.{Thread, LockInUse, views_of, limits_in, IsTurnOf, ThreadsAreServed}
use Rattle.lock_one.proofs.RunViews.{view_in}
use Rattle.lock_one.proofs.EachStep.{mutex_held, mutex_taken, others_admit}
use Rattle.lock_ranked.specs.Moments.{Moment, PartyOf, SleepsFor, HoldsLock, IsPending, IsTurning, IsInOrder, SomeHolderIsAwake}

abbrev tokens_of : SleepView → ℕ
tokens_of v = tokens v.held.bag

abbrev bar_of : SleepView → ℕ
bar_of v = bars_of v.held.announced

-- a seat with something
record Found (views : List SleepView) (Has : SleepView → Type 0) : Type 0 where
  number : ℕ
  view : SleepView
  is : slice_get views number ≡ Some view
  has : Has view

later : (views : List SleepView) (v : SleepView) (Has : SleepView → Type 0) → Found views Has → Found (v ∷ views) Has
later views v Has f = record { number = suc f.number; view = f.view; is = f.is; has = f.has }

-- where all seats together have a token, some seat has one
found_token : (views : List SleepView) → 0 < tokens (all_of (holds_of views)).bag → Found views (λ v. 0 < tokens_of v)
found_token [] some = absurd (omega arith)
found_token (v ∷ views) some = first v views (tokens_of v) refl (λ left. found_token views left) some
  where
    first : (v : SleepView) (views : List SleepView) (n : ℕ) → tokens_of v ≡ n
        → (0 < tokens (all_of (holds_of views)).bag → Found views (λ v. 0 < tokens_of v))
        → 0 < tokens (all_of (holds_of (v ∷ views))).bag → Found (v ∷ views) (λ v. 0 < tokens_of v)
    first v views zero none rest some =
        let hs = holds_of views in
        let shared = sum_by-cons (λ (h : Hold). h.bag.shared) v.held hs in
        let exclusive = sum_by-cons (λ (h : Hold). h.bag.exclusive) v.held hs in
        let upgradable = sum_by-cons (λ (h : Hold). h.bag.upgradable) v.held hs in
        later views v (λ v. 0 < tokens_of v) (rest (omega arith))
    first v views (suc n) is rest some = record { number = 0; view = v; is = refl; has = omega arith }

-- where all seats together have a bar, some seat has announced itself
found_bar : (views : List SleepView) → 0 < (all_of (holds_of views)).bars → Found views (λ v. v.held.announced ≡ true)
found_bar [] some = absurd (omega arith)
found_bar (v ∷ views) some = first v views v.held.announced refl (λ left. found_bar views left) some
  where
    first : (v : SleepView) (views : List SleepView) (b : Bool) → v.held.announced ≡ b
        → (0 < (all_of (holds_of views)).bars → Found views (λ v. v.held.announced ≡ true))
        → 0 < (all_of (holds_of (v ∷ views))).bars → Found (v ∷ views) (λ v. v.held.announced ≡ true)
    first v views true is rest some = record { number = 0; view = v; is = refl; has = is }
    first v views false is rest some =
        let none : bar_of v ≡ 0 = ap bars_of is in
        let bars = sum_by-cons (λ (h : Hold). bars_of h.announced) v.held (holds_of views) in
        later views v (λ v. v.held.announced ≡ true) (rest (omega arith))

-- a free word admits each acquisition
free_admits : (announced : Bool) (limit : ℕ) (want : ExWant) → 0 < limit → IsTrue (is_awaited want)
    → word_admits announced limit 0 want ≡ false → want ≡ Upgrade
free_admits announced limit Shared some awaited refused = absurd (grind arith)
free_admits announced limit Exclusive some awaited refused = absurd (grind arith)
free_admits announced limit Upgradable some awaited refused = absurd (grind arith)
free_admits announced limit Upgrade some awaited refused = refl
free_admits announced limit Announce some awaited refused = absurd (grind arith)

-- a word with the bar alone admits the writer that set it
barred_admits : (announced : Bool) (limit word : ℕ) → announced ≡ true → word ≡ 2 ^ 34
    → word_admits announced limit word Exclusive ≡ false → ⊥
barred_admits announced limit word is bar refused = grind arith

-- who may upgrade has a token
upgrades_own : (own : Hold) (want : ExWant) → want ≡ Upgrade → IsTrue (hold_has own (step_of_want want)) → 0 < own.bag.upgradable
upgrades_own own want is entitled =
    let has : IsTrue (hold_has own (step_of_want Upgrade)) = subst (λ w. IsTrue (hold_has own (step_of_want w))) is entitled in
    ltb-true 0 own.bag.upgradable has

-- where no wake-up is owed, and no woken thread has yet to look, the word refuses each sleeper
none_serves : (readers : ℕ) (server v : SleepView) (want : ExWant) → server.debt ≡ Nothing → is_woken server.sleep ≡ false → serves (limits_in readers) server v want ≡ false
none_serves readers server v want owes awake =
    ap (λ d. reaches (limits_in readers) d v want || (has_duty (limits_in readers) server && not v.held.announced)) owes
    ∙ ap (λ b. b && not v.held.announced) (by (readers == 1) awake)
  where
    by : (b : Bool) → is_woken server.sleep ≡ false → (b && is_woken server.sleep) ≡ false
    by true e = e
    by false e = refl

module _ (s : LockInUse) (served : ThreadsAreServed s)
    (rests : (k : ℕ) (v : SleepView) → slice_get (views_of s.threads) k ≡ Some v → (v.debt ≡ Nothing) × (is_woken v.sleep ≡ false))
    (pending : (k : ℕ) (v : SleepView) → slice_get (views_of s.threads) k ≡ Some v → v.held.announced ≡ true → v.sleep ≡ Asleep Exclusive)
    (turning : (k : ℕ) (t : Thread) → slice_get s.threads k ≡ Some t → IsTurnOf t → t.view.sleep ≡ Asleep Shared)
    (k : ℕ) (v : SleepView) (want : ExWant) (at : slice_get (views_of s.threads) k ≡ Some v) (sleeps : v.sleep ≡ Asleep want) where
  abbrev views : List SleepView
  views = views_of s.threads

  abbrev word : ℕ
  word = core_of s.word

  -- the core refuses each sleeper, or T does
  refuses_or_turns : (j : ℕ) (w : SleepView) (wish : ExWant) → slice_get views j ≡ Some w → w.sleep ≡ Asleep wish → IsRefused (limits_in s.readers) word (has_turn s.word) w wish
  refuses_or_turns j w wish is asleep =
      elim (served.none_forgotten j w wish is asleep) [
        | inl set ↦ set.1
        | inr someone ↦
            (let rest = rests someone.number someone.server someone.is in
            absurd (false≢true (sym (none_serves s.readers someone.server w wish rest.0 rest.1) ∙ someone.does)))
      ]

  -- the core refuses those that T lets pass
  refuses : (j : ℕ) (w : SleepView) (wish : ExWant) → slice_get views j ≡ Some w → w.sleep ≡ Asleep wish → passes_turn w.held.announced wish ≡ true
      → admits_to (limits_in s.readers) word w wish ≡ false
  refuses j w wish is asleep passes =
      elim (refuses_or_turns j w wish is asleep) [ inl core ↦ core | inr turn ↦ absurd (false≢true (sym turn.1 ∙ passes)) ]

  -- in a lock for several readers, the word refuses each of them
  word_refuses : (s.readers == 1) ≡ false → (j : ℕ) (w : SleepView) (wish : ExWant) → slice_get views j ≡ Some w → w.sleep ≡ Asleep wish
      → passes_turn w.held.announced wish ≡ true → word_admits w.held.announced s.readers word wish ≡ false
  word_refuses many j w wish is asleep passes = sym (others_admit (limits_in s.readers) word w wish many) ∙ refuses j w wish is asleep passes

  own_part : (j : ℕ) (w : SleepView) → slice_get views j ≡ Some w → slice_get (holds_of views) j ≡ Some w.held
  own_part j w is = rw (slice_get-map (λ (x : SleepView). x.held) views j, is)

  -- the core of a free word refuses no sleeper
  not_refused : (all_of (holds_of views)).bars ≡ 0 → tokens (all_of (holds_of views)).bag ≡ 0
      → (j : ℕ) (w : SleepView) (wish : ExWant) → slice_get views j ≡ Some w → w.sleep ≡ Asleep wish → admits_to (limits_in s.readers) word w wish ≡ false → ⊥
  not_refused none empty j w wish is asleep core =
      let coded = served.coded in
      let free : word ≡ 0 = omega arith in
      elim (cases_Bool (s.readers == 1)) [
        | inl one ↦ mutex_taken (limits_in s.readers) word w wish one core free
        | inr many ↦
            (let refused : word_admits w.held.announced s.readers 0 wish ≡ false
            = subst (λ n. word_admits w.held.announced s.readers n wish ≡ false) free (sym (others_admit (limits_in s.readers) word w wish many) ∙ core) in
            let entitled = served.entitled j w wish is asleep in
            let upgrade = free_admits w.held.announced s.readers wish served.range.0 entitled.0 refused in
            let own = upgrades_own w.held wish upgrade entitled.1 in
            let part = part_of_all (holds_of views) j w.held (own_part j w is) in
            let le = part.upgradable in
            omega arith)
      ]

  -- a sleeper is not refused by a free word, nor by the turn of a reader that sleeps too
  not_free : (all_of (holds_of views)).bars ≡ 0 → tokens (all_of (holds_of views)).bag ≡ 0 → ⊥
  not_free none empty =
      elim (refuses_or_turns k v want at sleeps) [
        | inl core ↦ not_refused none empty k v want at sleeps core
        | inr turn ↦
            (let owner = served.turn_owned turn.0 in
            let asleep = turning owner.number owner.thread owner.is owner.owns in
            let is = view_in s.threads owner.number owner.thread owner.is in
            not_refused none empty owner.number owner.thread.view Shared is asleep (refuses owner.number owner.thread.view Shared is asleep refl))
      ]

  -- nor by the bar of a writer that sleeps too
  not_barred : 0 < (all_of (holds_of views)).bars → tokens (all_of (holds_of views)).bag ≡ 0 → ⊥
  not_barred some empty =
      let coded = served.coded in
      let one_bar = served.legal.one_bar in
      let bar : word ≡ 2 ^ 34 = omega arith in
      let f = found_bar views some in
      let asleep = pending f.number f.view f.is f.has in
      elim (cases_Bool (s.readers == 1)) [
        | inl one ↦ mutex_held (limits_in s.readers) word f.view Exclusive one f.has (refuses f.number f.view Exclusive f.is asleep f.has) (omega arith)
        | inr many ↦ barred_admits f.view.held.announced s.readers word f.has bar (word_refuses many f.number f.view Exclusive f.is asleep f.has)
      ]

  -- so a lock for which a thread sleeps has a token
  pub some_token : (n : ℕ) → tokens (all_of (holds_of views)).bag ≡ n → 0 < tokens (all_of (holds_of views)).bag
  some_token zero empty = absurd (by_bars (all_of (holds_of views)).bars refl)
    where
      by_bars : (n : ℕ) → (all_of (holds_of views)).bars ≡ n → ⊥
      by_bars zero none = not_free none empty
      by_bars (suc n) is = not_barred (omega arith) empty
  some_token (suc n) is = omega arith

module _ (top : ℕ) (m : Moment) (o : IsInOrder top m)
    (all : (thread lock : ℕ) → HoldsLock m thread lock ⊎ (IsPending m thread lock ⊎ IsTurning m thread lock) → (wanted : ℕ) × SleepsFor m thread wanted) where
  abbrev party_at : (lock k : ℕ) (v : SleepView) → slice_get (views_of (m.lock lock).threads) k ≡ Some v → PartyOf m (m.thread lock k) lock
  party_at lock k v at = record { number = k; view = v; is = at; own = refl }

  writer_sleeps : (lock k : ℕ) (v : SleepView) → slice_get (views_of (m.lock lock).threads) k ≡ Some v → v.held.announced ≡ true → v.sleep ≡ Asleep Exclusive
  writer_sleeps lock k v at is =
      let writer : IsPending m (m.thread lock k) lock = record { party = party_at lock k v at; announced = is } in
      let next = all (m.thread lock k) lock (inr (inl writer)) in
      o.pending (m.thread lock k) lock next.0 writer next.1

  reader_sleeps : (lock k : ℕ) (t : Thread) → slice_get (m.lock lock).threads k ≡ Some t → IsTurnOf t → t.view.sleep ≡ Asleep Shared
  reader_sleeps lock k t at turns =
      let reader : IsTurning m (m.thread lock k) lock = record { number = k; party = t; is = at; own = refl; turns = turns } in
      let next = all (m.thread lock k) lock (inr (inr reader)) in
      o.turning (m.thread lock k) lock next.0 reader next.1

  rises : (n thread lock : ℕ) → SleepsFor m thread lock → top ≤ m.rank lock + n → ⊥
  rises zero thread lock s le = let h = o.below thread lock s in omega (arith, h, le)
  rises (suc n) thread lock s le =
      let views = views_of (m.lock lock).threads in
      let some = some_token (m.lock lock) (o.served lock) (o.at_rest lock) (writer_sleeps lock) (reader_sleeps lock) s.party.number s.party.view s.want s.party.is s.sleeps
      (tokens (all_of (holds_of views)).bag) refl in
      let f = found_token views some in
      let holder : HoldsLock m (m.thread lock f.number) lock = record { party = party_at lock f.number f.view f.is; holds = f.has } in
      let next = all (m.thread lock f.number) lock (inl holder) in
      let above = o.upward (m.thread lock f.number) next.0 lock next.1 holder in
      rises n (m.thread lock f.number) next.0 next.1 (omega (arith, above, le))

pub some_holder_is_awake : SomeHolderIsAwake
some_holder_is_awake top m o all thread lock s = rises top m o all top thread lock s (omega arith)
