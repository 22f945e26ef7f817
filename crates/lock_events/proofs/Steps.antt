-- Each step of a call on a condition variable keeps the rule.
use Rattle.std.proofs.Common.{◌≡◌, ℕ, ◌+◌, ◌-◌, ◌^◌, ◌<◌, ◌≤◌, min, bit_or, Bool, true, false, not, ◌==◌, ◌&&◌, ◌||◌, nat_lt, List, [], ◌∷◌, ◌++◌, length, slice_get, slice_set, Some, if◌then◌else◌, ◌⊎◌, inl, inr, IsTrue, refl, sym, ap, subst, ◌∙◌, arith, length-append}
use Rattle.std.proofs.lemmas.Bool.{eqb-true, ltb-true, ltb-false, false≢true, cases_lt}
use Rattle.std.proofs.lemmas.List.{length-set}
use Rattle.std.proofs.lemmas.Option.{slice_get_within}
use Rattle.lock_events.specs.declared.act.Begun.{Begun}
use Rattle.lock_events.specs.declared.call.EventCall.{EventCall}
use Rattle.lock_events.specs.declared.stage.EventStage.{EventStage}
use Rattle.lock_events.specs.declared.stage.EventStage.TheVariants as stage
use Rattle.lock_events.specs.declared.word.EventWord.{EventWord}
use Rattle.lock_events.specs.Words.{last_epoch, most_waits, many, one_wait, decoded, encoded, unclaimed_in, takes_in, has_none, with_wait, one_less, in_next_epoch}
use Rattle.lock_events.specs.Events.{waiting, notifying, most_lost, action_at, action_of, event_to, event_at, wait_at, notify_at, ended_epoch, after_loss, is_notified}
use Rattle.lock_events.specs.Kept.{is_registered, count_at, count_of, watch_of, sum_of, ReachesAt, Reaches, Knows, IsSound, IsKept}
use Rattle.lock_events.specs.Runs.{made, answer, before_at, begun_call, answered, wake_of}
use Rattle.lock_events.proofs.CallSums.{changed_or_not, element_of_longer, sum_set, sum_snoc, one_counts, sum_below, sum_none}
use Rattle.lock_events.proofs.WordLemmas.{word_of, back, back_leave, back_last, epoch_small}

pub chosen : {A : Type 0} (P : A → Type 0) (b : Bool) (x y : A) → (b ≡ true → P x) → (b ≡ false → P y) → P (if b then x else y)
chosen P true x y hit miss = hit refl
chosen P false x y hit miss = miss refl

-- an exchange that is made or lost, and what the call does then
exchanged : (P : ℕ → EventCall → Type 0) (hits : Bool) (v w : ℕ) (f g : EventCall) → (hits ≡ true → P v f) → (hits ≡ false → P w g)
    → P (if hits then v else w) (if hits then f else g)
exchanged P true v w f g hit miss = hit refl
exchanged P false v w f g hit miss = miss refl

-- and what the call notes
noted : (P : ℕ → EventCall → ℕ → Type 0) (hits : Bool) (v w : ℕ) (f g : EventCall) (m n : ℕ) → (hits ≡ true → P v f m) → (hits ≡ false → P w g n)
    → P (if hits then v else w) (if hits then f else g) (if hits then m else n)
noted P true v w f g m n hit miss = hit refl
noted P false v w f g m n hit miss = miss refl

never : {A : Type 0} → IsTrue false → A
never is = absurd (false≢true is)

both : (a b : Bool) → (a && b) ≡ true → (a ≡ true) × (b ≡ true)
both true true is = (refl, refl)
both true false is = absurd (false≢true is)
both false b is = absurd (false≢true is)

-- what a registered wait counts for

pub counts_one : (at : EventStage) → IsTrue (is_registered at) → count_at at ≡ 1
counts_one at is = chosen (λ n. n ≡ 1) (is_registered at) 1 0 (λ _. refl) (λ no. absurd (false≢true (sym no ∙ is)))

watch_none : (epoch : ℕ) (b : Begun) → count_of b ≡ 0 → watch_of epoch b ≡ 0
watch_none epoch b none = chosen (λ n. n ≡ 0) (nat_lt b.call.epoch epoch) 0 (count_of b) (λ _. refl) (λ _. none)

watch_below : (epoch : ℕ) (b : Begun) → watch_of epoch b ≤ count_of b
watch_below epoch b = chosen (λ n. n ≤ count_of b) (nat_lt b.call.epoch epoch) 0 (count_of b) (λ _. omega arith) (λ _. omega arith)

watch_same : (epoch : ℕ) (b c : Begun) → b.call.epoch ≡ c.call.epoch → count_of b ≡ count_of c → watch_of epoch b ≡ watch_of epoch c
watch_same epoch b c epochs counts = cc

-- the epoch of a wait that is not watched has ended
has_ended : (epoch : ℕ) (b : Begun) → IsTrue (is_registered b.call.stage) → watch_of epoch b ≡ 0 → b.call.epoch < epoch
has_ended epoch b registered none =
    chosen (λ n. n ≡ 0 → b.call.epoch < epoch) (nat_lt b.call.epoch epoch) 0 (count_of b) (λ ended _. ltb-true _ _ ended)
    (λ _ zero_of. absurd (let one = counts_one b.call.stage registered in omega arith)) none

-- a notification reaches on while the epoch grows
reaches_on : (at : EventStage) (epoch later watched noted found : ℕ) → epoch ≤ later → ReachesAt at epoch watched noted found
    → ReachesAt at later watched noted found
reaches_on stage.Wake epoch later watched noted found grows h = (h.0, (let b = h.1 in omega arith))
reaches_on stage.Notified epoch later watched noted found grows h = (h.0, (let b = h.1 in omega arith))
reaches_on stage.Skipped epoch later watched noted found grows h = ((let b = h.0 in omega arith), h.1)
reaches_on other epoch later watched noted found grows h = tt

-- a notification that has ended reached the wait
pub ended : (at : EventStage) (epoch watched noted found : ℕ) → is_notified at ≡ true → ReachesAt at epoch watched noted found → watched < epoch
ended stage.Notified epoch watched noted found is by = let a = by.0 in let b = by.1 in omega arith
ended stage.Skipped epoch watched noted found is by = by.0
ended other epoch watched noted found is by = absurd (false≢true is)

-- what a step of the call at k, from b to c, has to keep. The word was v, and is w
record Keeps (v : EventWord) (calls : List Begun) (k : ℕ) (b c : Begun) (w : EventWord) : Type 0 where
  counts : w.count + count_of b ≡ v.count + count_of c
  claimed : w.unclaimed < many → sum_of (watch_of w.epoch) (slice_set calls k c) ≤ w.unclaimed
  fits : w.count ≤ most_waits
  -- the epoch does not fall under a wait that stays registered
  grows : (j : ℕ) (z : Begun) → slice_get calls j ≡ Some z → IsTrue (is_registered z.call.stage)
      → (j ≡ k → IsTrue (is_registered c.call.stage)) → v.epoch ≤ w.epoch
  sound : IsSound w.epoch (length calls) c
  -- the call registers now, or it was registered
  registers : IsTrue (is_registered c.call.stage)
      → (c.before ≡ length calls) ⊎ (IsTrue (is_registered b.call.stage) × (c.call.epoch ≡ b.call.epoch) × (c.before ≡ b.before))
  -- what the call was to a registered wait, it still is
  follows : (watched : ℕ) → 0 < v.count → watched ≤ v.epoch → watched < last_epoch → (unclaimed_in v ≡ 0 → watched < v.epoch)
      → Reaches v.epoch watched b.call → Reaches w.epoch watched c.call

module _ (v : EventWord) (calls : List Begun) (h : IsKept v calls) (k : ℕ) (b : Begun) (at : slice_get calls k ≡ Some b) where
  -- the pair of a wait that was there and a notification that was there
  old_pair : (c : Begun) (w : EventWord) → Keeps v calls k b c w → (i n : ℕ) (wait note : Begun) → slice_get calls i ≡ Some wait
      → slice_get calls n ≡ Some note → IsTrue (is_registered wait.call.stage) → (i ≡ k → IsTrue (is_registered c.call.stage))
      → wait.before ≤ n → Reaches w.epoch wait.call.epoch note.call
  old_pair c w by i n wait note iw inn registered still less =
      reaches_on note.call.stage v.epoch w.epoch wait.call.epoch note.call.epoch (decoded note.call.loaded).count (by.grows i wait iw registered still)
      (h.reached i n wait note iw inn registered less)

  -- where every wait is claimed, each one's epoch has ended
  all_ended : (i : ℕ) (wait : Begun) → slice_get calls i ≡ Some wait → IsTrue (is_registered wait.call.stage) → unclaimed_in v ≡ 0
      → wait.call.epoch < v.epoch
  all_ended i wait iw registered full =
      let one = one_counts (watch_of v.epoch) calls i wait iw in
      let counts = one_counts count_of calls i wait iw in
      let weighs = counts_one wait.call.stage registered in
      let sum = h.counted in
      let claimed = h.claimed (omega arith) in
      has_ended v.epoch wait registered (omega arith)

  -- the call itself may be the notification
  with_old_wait : (c : Begun) (w : EventWord) → Keeps v calls k b c w → (i n : ℕ) (wait note : Begun) → slice_get calls i ≡ Some wait
      → slice_get (slice_set calls k c) n ≡ Some note → IsTrue (is_registered wait.call.stage) → (i ≡ k → IsTrue (is_registered c.call.stage))
      → wait.before ≤ n → Reaches w.epoch wait.call.epoch note.call
  with_old_wait c w by i n wait note iw inn registered still less =
      elim (changed_or_not calls k n c note inn) [
        | inl e ↦
            (let counts = one_counts count_of calls i wait iw in
            let one = counts_one wait.call.stage registered in
            let sum = h.counted in
            let sound = h.each i wait iw in
            subst (λ (x : Begun). Reaches w.epoch wait.call.epoch x.call) (sym e.1)
            (by.follows wait.call.epoch (omega arith) (sound.past registered) (sound.early registered) (all_ended i wait iw registered)
            (h.reached i k wait b iw at registered (subst (λ m. wait.before ≤ m) e.0 less))))
        | inr e ↦ old_pair c w by i n wait note iw e.1 registered still less
      ]

  new_wait : (c : Begun) (w : EventWord) → Keeps v calls k b c w → (n : ℕ) (note : Begun) → slice_get (slice_set calls k c) n ≡ Some note
      → IsTrue (is_registered c.call.stage) → c.before ≤ n → Reaches w.epoch c.call.epoch note.call
  new_wait c w by n note inn registered less =
      elim (by.registers registered) [
        | inl now ↦
            absurd (let within = slice_get_within (slice_set calls k c) n note inn in let same = length-set calls k c in omega arith)
        | inr was ↦
            subst (λ m. Reaches w.epoch m note.call) (sym was.1)
            (with_old_wait c w by k n b note at inn was.0 (λ _. registered) (subst (λ m. m ≤ n) was.2 less))
      ]

  moved : (c : Begun) (w : EventWord) → Keeps v calls k b c w → IsKept w (slice_set calls k c)
  moved c w by =
      let sums = sum_set count_of calls k b c at in
      let before = h.counted in
      let counts = by.counts in
      let same : length (slice_set calls k c) ≡ length calls = length-set calls k c in
      record {
        counted = omega arith;
        claimed = by.claimed;
        fits = by.fits;
        each = λ j z is.
            subst (λ m. IsSound w.epoch m z) (sym same)
            (elim (changed_or_not calls k j c z is) [
              | inl e ↦ subst (λ (x : Begun). IsSound w.epoch (length calls) x) (sym e.1) by.sound
              | inr e ↦
                  (let old = h.each j z e.1 in
                  record {
                    past = λ registered.
                        let grows = by.grows j z e.1 registered (λ is_k. absurd (e.0 is_k)) in let past = old.past registered in omega arith;
                    early = old.early;
                    known = old.known;
                    knows = old.knows;
                  })
            ]);
        reached = λ i n wait note iw inn registered less.
            elim (changed_or_not calls k i c wait iw) [
              | inl e ↦
                  subst (λ (x : Begun). IsTrue (is_registered x.call.stage) → x.before ≤ n → Reaches w.epoch x.call.epoch note.call)
                  (sym e.1) (new_wait c w by n note inn) registered less
              | inr e ↦ with_old_wait c w by i n wait note e.1 inn registered (λ is_k. absurd (e.0 is_k)) less
            ];
      }

  own : IsSound v.epoch (length calls) b
  own = h.each k b at

  abbrev made_of : EventCall → Begun
  made_of call = record { call = call; before = b.before }

  -- a call that is not registered goes on, and the word stays
  away : (call : EventCall) → count_of b ≡ 0 → is_registered call.stage ≡ false → Knows call.stage call
      → ((watched : ℕ) → 0 < v.count → watched ≤ v.epoch → watched < last_epoch → (unclaimed_in v ≡ 0 → watched < v.epoch)
      → Reaches v.epoch watched b.call → Reaches v.epoch watched call)
      → IsKept v (slice_set calls k (made_of call))
  away call none out knows follows =
      let c = made_of call in
      let none_after : count_of c ≡ 0 = ap (λ r. if r then 1 else 0) out in
      let watches = sum_set (watch_of v.epoch) calls k b c at in
      let before = watch_none v.epoch b none in
      let after = watch_none v.epoch c none_after in
      let absent : IsTrue (is_registered call.stage) → ⊥ = λ is. false≢true (sym out ∙ is) in
      moved c v record {
        counts = omega arith;
        claimed = λ few. let claimed = h.claimed few in omega arith;
        fits = h.fits;
        grows = λ j z is registered still. omega arith;
        sound = record { past = λ is. absurd (absent is); early = λ is. absurd (absent is); known = λ is. absurd (absent is); knows = knows };
        registers = λ is. absurd (absent is);
        follows = follows;
      }

  -- a registered wait goes on, and the word stays
  stays : (call : EventCall) → IsTrue (is_registered b.call.stage) → IsTrue (is_registered call.stage) → call.epoch ≡ b.call.epoch
      → Knows call.stage call → ((watched : ℕ) → Reaches v.epoch watched call) → IsKept v (slice_set calls k (made_of call))
  stays call was is same knows reaches =
      let c = made_of call in
      let one = counts_one b.call.stage was in
      let one_after = counts_one call.stage is in
      let watches = sum_set (watch_of v.epoch) calls k b c at in
      let watch = watch_same v.epoch b c (sym same) (one ∙ sym one_after) in
      let past = own.past was in
      let early = own.early was in
      moved c v record {
        counts = omega arith;
        claimed = λ few. let claimed = h.claimed few in omega arith;
        fits = h.fits;
        grows = λ j z there registered still. omega arith;
        sound = record { past = λ _. omega arith; early = λ _. omega arith; known = λ _. own.known was; knows = knows };
        registers = λ _. inr (was, same, refl);
        follows = λ watched some before late claims old. reaches watched;
      }

-- a notification that has none to wake finds that each wait's epoch has ended
none_watched : (all : Bool) (v : EventWord) (watched : ℕ) → has_none all v ≡ true → 0 < v.count → (unclaimed_in v ≡ 0 → watched < v.epoch)
    → watched < v.epoch
none_watched true v watched none some claims = absurd (let nobody = eqb-true _ _ none in omega arith)
none_watched false v watched none some claims = claims (eqb-true _ _ none)

pub one_less_small : (n : ℕ) → one_less n < 2 ^ 8
one_less_small n =
    chosen (λ m. m < 2 ^ 8) (nat_lt n many) (n - 1) many (λ few. let small = ltb-true _ _ few in omega arith) (λ _. omega arith)

pub next_small : (all : Bool) (v : EventWord) → (in_next_epoch all v).unclaimed < 2 ^ 8
next_small true v = omega arith
next_small false v = one_less_small (unclaimed_in v)

not_watched : (epoch : ℕ) (b : Begun) → (IsTrue (is_registered b.call.stage) → b.call.epoch < epoch) → watch_of epoch b ≡ 0
not_watched epoch b ended =
    chosen (λ n. n ≡ 0) (nat_lt b.call.epoch epoch) 0 (count_of b) (λ _. refl)
    (λ not_yet.
    let late = ltb-false _ _ not_yet in
    chosen (λ n. n ≡ 0) (is_registered b.call.stage) 1 0 (λ registered. absurd (let soon = ended registered in omega arith)) (λ _. refl))

wakes_quietly : (all : Bool) (w : ℕ) → w ≡ made (wake_of all) w
wakes_quietly true w = refl
wakes_quietly false w = refl

-- where the next wait is still counted, those that watch are counted
claimed_now : (v : EventWord) (calls : List Begun) → IsKept v calls → unclaimed_in v + 1 < many → sum_of (watch_of v.epoch) calls ≤ unclaimed_in v
claimed_now v calls h small =
    let counted = h.counted in
    let below = sum_below (watch_of v.epoch) count_of (watch_below v.epoch) calls in
    elim (cases_lt v.unclaimed many) [
      | inl few ↦ (let claimed = h.claimed few in omega arith)
      | inr lots ↦ omega arith
    ]

other : (a b : Bool) → (a || b) ≡ true → a ≡ false → b ≡ true
other true b is first = absurd (false≢true (sym first))
other false b is first = is

back_wait : (w : ℕ) → decoded (encoded (with_wait (decoded w))) ≡ with_wait (decoded w)
back_wait w =
    let epoch = epoch_small w in
    chosen (λ x. decoded (encoded x) ≡ x) ((decoded w).count == 0) (word_of 1 1 0)
    (word_of ((decoded w).count + 1) (min (unclaimed_in (decoded w) + 1) many) (decoded w).epoch) (λ _. back (word_of 1 1 0) (omega arith) (omega arith))
    (λ _. back (word_of ((decoded w).count + 1) (min (unclaimed_in (decoded w) + 1) many) (decoded w).epoch) (omega arith) epoch)

-- each step
module _ (w : ℕ) (calls : List Begun) (h : IsKept (decoded w) calls) (k : ℕ) (b : Begun) (at : slice_get calls k ≡ Some b) where
  abbrev v : EventWord
  v = decoded w

  abbrev Kept : ℕ → EventCall → ℕ → Type 0
  Kept word call before = IsKept (decoded word) (slice_set calls k record { call = call; before = before })

  abbrev Next : EventStage → ℕ → Type 0
  Next now told =
      Kept (made (action_at now b.call) w) (event_at now (answer (action_at now b.call) w told) b.call)
      (before_at now (answer (action_at now b.call) w told) b.call.loaded (length calls) b.before)

  sound : IsSound (decoded w).epoch (length calls) b
  sound = h.each k b at

  -- a wait that looks at the word
  waits : count_of b ≡ 0 → Kept w (wait_at w b.call) b.before
  waits none =
      chosen (λ c. Kept w c b.before) (takes_in (decoded w)) (event_to stage.CountIn (record b.call { loaded = w; epoch = (with_wait (decoded w)).epoch }))
      (event_to stage.UnlockAway b.call)
      (λ few. away (decoded w) calls h k b at (event_to stage.CountIn (record b.call { loaded = w; epoch = (with_wait (decoded w)).epoch })) none refl (few, refl)
      (λ watched some past before claims old. tt))
      (λ full. away (decoded w) calls h k b at (event_to stage.UnlockAway b.call) none refl tt (λ watched some past before claims old. tt))

  -- a notification that looks at the word
  notifies : count_of b ≡ 0 → (lost : ℕ) → Kept w (notify_at w (record b.call { lost = lost })) b.before
  notifies none lost =
      let skipped : EventCall = event_to stage.Skipped (record b.call { lost = lost; loaded = w }) in
      let ending : EventCall = event_to stage.EndEpoch (record b.call { lost = lost; loaded = w; epoch = (decoded w).epoch + 1 }) in
      let waking : EventCall = event_to stage.Wake (record b.call { lost = lost; loaded = w; epoch = (decoded w).epoch }) in
      chosen (λ c. Kept w c b.before) (has_none b.call.all (decoded w)) skipped (if nat_lt (decoded w).epoch last_epoch then ending else waking)
      (λ nobody. away (decoded w) calls h k b at skipped none refl tt
      (λ watched some past before claims old. (none_watched b.call.all (decoded w) watched nobody some claims, some)))
      (λ somebody.
      chosen (λ c. Kept w c b.before) (nat_lt (decoded w).epoch last_epoch) ending waking
      (λ early. away (decoded w) calls h k b at ending none refl (somebody, ltb-true _ _ early, refl) (λ watched some past before claims old. tt))
      (λ last.
      let late = ltb-false _ _ last in
      away (decoded w) calls h k b at waking none refl tt (λ watched some past before claims old. ((omega arith), (omega arith)))))

  count_in : b.call.stage ≡ stage.CountIn → (told : ℕ) → Next stage.CountIn told
  count_in is told =
      let none = ap count_at is in
      noted Kept (w == b.call.loaded) (encoded (with_wait (decoded b.call.loaded))) w (event_to stage.Unlock b.call) (wait_at w b.call)
      (length calls) b.before
      (λ hits.
      let hit = eqb-true _ _ hits in
      let knows : Knows stage.CountIn b.call = subst (λ x. Knows x b.call) is sound.knows in
      let room : takes_in (decoded w) ≡ true = subst (λ x. takes_in (decoded x) ≡ true) (sym hit) knows.0 in
      let tests = both (nat_lt (decoded w).count most_waits) (((decoded w).count == 0) || nat_lt (decoded w).epoch last_epoch) room in
      let few : (decoded w).count < most_waits = ltb-true _ _ tests.0 in
      let epoch : b.call.epoch ≡ (with_wait (decoded w)).epoch = subst (λ x. b.call.epoch ≡ (with_wait (decoded x)).epoch) (sym hit) knows.1 in
      let c : Begun = record { call = event_to stage.Unlock b.call; before = length calls } in
      let counted = h.counted in
      let watches = sum_set (watch_of (decoded w).epoch) calls k b c at in
      let before = watch_none (decoded w).epoch b none in
      let after = watch_below (decoded w).epoch c in
      let counts = sum_set count_of calls k b c at in
      let below = sum_below (watch_of 0) count_of (watch_below 0) (slice_set calls k c) in
      let below_now = sum_below (watch_of (decoded w).epoch) count_of (watch_below (decoded w).epoch) calls in
      let first : EventWord = word_of 1 1 0 in
      let more : EventWord = word_of ((decoded w).count + 1) (min (unclaimed_in (decoded w) + 1) many) (decoded w).epoch in
      let there : decoded (encoded (with_wait (decoded b.call.loaded))) ≡ with_wait (decoded w)
      = subst (λ x. decoded (encoded (with_wait (decoded x))) ≡ with_wait (decoded w)) hit (back_wait w) in
      subst (λ u. IsKept u (slice_set calls k c)) (sym there)
      (chosen (λ (u : EventWord). (b.call.epoch ≡ u.epoch → IsKept u (slice_set calls k c))) ((decoded w).count == 0) first more
      (λ nobody begins.
      let zero_count : (decoded w).count ≡ 0 = eqb-true _ _ nobody in
      moved (decoded w) calls h k b at c first record {
        counts = omega arith;
        claimed = λ _. omega arith;
        fits = omega arith;
        grows = λ j z there_z registered still.
            absurd
            (let one = one_counts count_of calls j z there_z in let weighs = counts_one z.call.stage registered in omega arith);
        sound = record { past = λ _. omega arith; early = λ _. omega arith; known = λ _. omega arith; knows = tt };
        registers = λ _. inl refl;
        follows = λ watched some past before claims old. tt;
      })
      (λ somebody goes.
      let early : (decoded w).epoch < last_epoch = ltb-true _ _ (other ((decoded w).count == 0) (nat_lt (decoded w).epoch last_epoch) tests.1 somebody) in
      moved (decoded w) calls h k b at c more record {
        counts = omega arith;
        claimed = λ small. let now = claimed_now (decoded w) calls h (omega arith) in omega arith;
        fits = omega arith;
        grows = λ j z there_z registered still. omega arith;
        sound = record { past = λ _. omega arith; early = λ _. omega arith; known = λ _. omega arith; knows = tt };
        registers = λ _. inl refl;
        follows = λ watched some past before claims old. tt;
      }) epoch))
      (λ misses. waits none)

  still : (now : EventStage) → b.call.stage ≡ now → IsTrue (is_registered now) → IsTrue (is_registered b.call.stage)
  still now is there = subst (λ x. IsTrue (is_registered x)) (sym is) there

  pub leave : IsTrue (is_registered b.call.stage) → Kept (w - one_wait) (event_to stage.Lock b.call) b.before
  leave was =
      let one = counts_one b.call.stage was in
      let c : Begun = record { call = event_to stage.Lock b.call; before = b.before } in
      let some = one_counts count_of calls k b at in
      let counted = h.counted in
      let fits = h.fits in
      let watches = sum_set (watch_of (decoded w).epoch) calls k b c at in
      let after = watch_none (decoded w).epoch c refl in
      let left : EventWord = word_of ((decoded w).count - 1) (decoded w).unclaimed (decoded w).epoch in
      subst (λ u. IsKept u (slice_set calls k c)) (sym (back_leave w (omega arith))) (moved (decoded w) calls h k b at c left record {
        counts = omega arith;
        claimed = λ few. let claimed = h.claimed few in omega arith;
        fits = omega arith;
        grows = λ j z there_z registered stays_k. omega arith;
        sound = record { past = never; early = never; known = never; knows = tt };
        registers = never;
        follows = λ watched some past before claims old. tt;
      })

  -- the last epoch begins at once
  end_all : b.call.stage ≡ stage.EndAllEpochs → Kept (bit_or w last_epoch) (event_to stage.Wake b.call) b.before
  end_all is =
      let none = ap count_at is in
      let c : Begun = record { call = event_to stage.Wake b.call; before = b.before } in
      let last : b.call.epoch ≡ last_epoch = subst (λ x. Knows x b.call) is sound.knows in
      let low = epoch_small w in
      let closed : EventWord = word_of (decoded w).count (decoded w).unclaimed last_epoch in
      let nobody : sum_of (watch_of last_epoch) (slice_set calls k c) ≡ 0
      = sum_none (watch_of last_epoch) (slice_set calls k c)
      (λ j z is_z. elim (changed_or_not calls k j c z is_z) [
        | inl e ↦ subst (λ (x : Begun). watch_of last_epoch x ≡ 0) (sym e.1) (watch_none last_epoch c refl)
        | inr e ↦ not_watched last_epoch z (λ registered. (h.each j z e.1).early registered)
      ]) in
      subst (λ u. IsKept u (slice_set calls k c)) (sym (back_last w)) (moved (decoded w) calls h k b at c closed record {
        counts = omega arith;
        claimed = λ _. omega arith;
        fits = h.fits;
        grows = λ j z there_z registered stays_k. omega arith;
        sound = record { past = never; early = never; known = never; knows = tt };
        registers = never;
        follows = λ watched some past before claims old. ((omega arith), (omega arith));
      })

  -- a notification that has lost an exchange
  after_loss_at : count_of b ≡ 0 → Kept w (after_loss w b.call) b.before
  after_loss_at none =
      chosen (λ c. Kept w c b.before) (nat_lt b.call.lost most_lost) (notify_at w (record b.call { lost = b.call.lost + 1 }))
      (event_to stage.EndAllEpochs (record b.call { all = true; epoch = last_epoch })) (λ _. notifies none (b.call.lost + 1))
      (λ _. away (decoded w) calls h k b at (event_to stage.EndAllEpochs (record b.call { all = true; epoch = last_epoch })) none refl refl
      (λ watched some past before claims old. tt))

  end_epoch : b.call.stage ≡ stage.EndEpoch → (told : ℕ) → Next stage.EndEpoch told
  end_epoch is told =
      let none = ap count_at is in
      exchanged (λ x c. Kept x c b.before) (w == b.call.loaded) (encoded (in_next_epoch b.call.all (decoded b.call.loaded))) w (ended_epoch b.call)
      (after_loss w b.call)
      (λ hits.
      let hit = eqb-true _ _ hits in
      let knows : Knows stage.EndEpoch b.call = subst (λ x. Knows x b.call) is sound.knows in
      let some : has_none b.call.all (decoded w) ≡ false = subst (λ x. has_none b.call.all (decoded x) ≡ false) (sym hit) knows.0 in
      let early : (decoded w).epoch < last_epoch = subst (λ x. (decoded x).epoch < last_epoch) (sym hit) knows.1 in
      let epoch : b.call.epoch ≡ (decoded w).epoch + 1 = subst (λ x. b.call.epoch ≡ (decoded x).epoch + 1) (sym hit) knows.2 in
      let after = in_next_epoch b.call.all (decoded w) in
      let there : decoded (encoded (in_next_epoch b.call.all (decoded b.call.loaded))) ≡ in_next_epoch b.call.all (decoded w)
      = subst (λ x. decoded (encoded (in_next_epoch b.call.all (decoded x))) ≡ in_next_epoch b.call.all (decoded w)) hit
      (back (in_next_epoch b.call.all (decoded w)) (next_small b.call.all (decoded w)) (omega arith)) in
      let c : Begun = record { call = ended_epoch b.call; before = b.before } in
      let fits = h.fits in
      let nobody : sum_of (watch_of ((decoded w).epoch + 1)) (slice_set calls k c) ≡ 0
      = sum_none (watch_of ((decoded w).epoch + 1)) (slice_set calls k c)
      (λ j z is_z. elim (changed_or_not calls k j c z is_z) [
        | inl e ↦ subst (λ (x : Begun). watch_of ((decoded w).epoch + 1) x ≡ 0) (sym e.1) (watch_none ((decoded w).epoch + 1) c refl)
        | inr e ↦ not_watched ((decoded w).epoch + 1) z (λ registered. let past = (h.each j z e.1).past registered in omega arith)
      ]) in
      subst (λ u. IsKept u (slice_set calls k c)) (sym there) (moved (decoded w) calls h k b at c (in_next_epoch b.call.all (decoded w)) record {
        counts = omega arith;
        claimed = λ _. omega arith;
        fits = fits;
        grows = λ j z there_z registered stays_k. omega arith;
        sound = record { past = never; early = never; known = never; knows = tt };
        registers = never;
        follows = λ watched some_wait past before claimed old. ((omega arith), (omega arith));
      }))
      (λ misses. after_loss_at none)

  -- a registered wait goes on without a step on the word
  goes_on : (now later : EventStage) → b.call.stage ≡ now → IsTrue (is_registered now) → (late : Bool) → (later ≡ stage.Sleep) ⊎ (later ≡ stage.Leave)
      → Kept w (event_to later (record b.call { late = late })) b.before
  goes_on now later is there late (inl sleeps) =
      subst (λ x. Kept w (event_to x (record b.call { late = late })) b.before) (sym sleeps)
      (stays (decoded w) calls h k b at (event_to stage.Sleep (record b.call { late = late })) (still now is there) refl refl tt (λ watched. tt))
  goes_on now later is there late (inr leaves) =
      subst (λ x. Kept w (event_to x (record b.call { late = late })) b.before) (sym leaves)
      (stays (decoded w) calls h k b at (event_to stage.Leave (record b.call { late = late })) (still now is there) refl refl tt (λ watched. tt))

  -- a call that is not registered goes on to a stage at which it is no notification
  passes : (now : EventStage) → b.call.stage ≡ now → is_registered now ≡ false → (call : EventCall) → is_registered call.stage ≡ false
      → Knows call.stage call → ((watched : ℕ) → Reaches (decoded w).epoch watched call) → Kept w call b.before
  passes now is out call after knows reaches =
      away (decoded w) calls h k b at call (ap count_at is ∙ ap (λ r. if r then 1 else 0) out) after knows
      (λ watched some past before claims old. reaches watched)

  -- a notification that has made its wake-up, or needs none
  ends : (now later : EventStage) → b.call.stage ≡ now → is_registered now ≡ false → is_registered later ≡ false → Knows later (event_to later b.call)
      → ((watched : ℕ) → ReachesAt now (decoded w).epoch watched b.call.epoch (decoded b.call.loaded).count
      → ReachesAt later (decoded w).epoch watched b.call.epoch (decoded b.call.loaded).count) → Kept w (event_to later b.call) b.before
  ends now later is out after knows follows =
      away (decoded w) calls h k b at (event_to later b.call) (ap count_at is ∙ ap (λ r. if r then 1 else 0) out) after knows
      (λ watched some past before claims old.
      follows watched (subst (λ x. ReachesAt x (decoded w).epoch watched b.call.epoch (decoded b.call.loaded).count) is old))

  pub woken : b.call.stage ≡ stage.Wake → Kept w (event_to stage.Notified b.call) b.before
  woken is = ends stage.Wake stage.Notified is refl refl tt (λ watched reached. reached)

  each_stage : (now : EventStage) → b.call.stage ≡ now → (told : ℕ) → Next now told
  each_stage stage.Look is told = waits (ap count_at is)
  each_stage stage.CountIn is told = count_in is told
  each_stage stage.Unlock is told = goes_on stage.Unlock stage.Sleep is refl b.call.late (inl refl)
  each_stage stage.Sleep is told = goes_on stage.Sleep stage.Leave is refl (not (told == 0)) (inr refl)
  each_stage stage.Leave is told = leave (still stage.Leave is refl)
  each_stage stage.UnlockAway is told = passes stage.UnlockAway is refl (event_to stage.YieldAway b.call) refl tt (λ watched. tt)
  each_stage stage.YieldAway is told =
      passes stage.YieldAway is refl (event_to stage.Lock (record b.call { late = not (told == 0) })) refl tt (λ watched. tt)
  each_stage stage.Lock is told = passes stage.Lock is refl (event_to stage.Waited b.call) refl tt (λ watched. tt)
  each_stage stage.Waited is told = passes stage.Waited is refl (event_to stage.Waited b.call) refl tt (λ watched. tt)
  each_stage stage.FindWaits is told = notifies (ap count_at is) b.call.lost
  each_stage stage.EndEpoch is told = end_epoch is told
  each_stage stage.EndAllEpochs is told = end_all is
  each_stage stage.Wake is told =
      subst (λ x. Kept x (event_to stage.Notified b.call) b.before) (wakes_quietly b.call.all w) (woken is)
  each_stage stage.Notified is told = ends stage.Notified stage.Notified is refl refl tt (λ watched reached. reached)
  each_stage stage.Skipped is told = ends stage.Skipped stage.Skipped is refl refl tt (λ watched reached. reached)

-- a step of a call that has begun
pub step_kept : (w : ℕ) (calls : List Begun) → IsKept (decoded w) calls → (k : ℕ) (b : Begun) → slice_get calls k ≡ Some b → (told : ℕ)
    → IsKept (decoded (made (action_of b.call) w)) (slice_set calls k (answered b (answer (action_of b.call) w told) (length calls)))
step_kept w calls h k b at told = each_stage w calls h k b at b.call.stage refl told

-- a call begins, with or without its first step
pub joined : (v : EventWord) (calls : List Begun) → IsKept v calls → (call : EventCall) → is_registered call.stage ≡ false → Knows call.stage call
    → ((watched : ℕ) → 0 < v.count → watched < last_epoch → (unclaimed_in v ≡ 0 → watched < v.epoch) → Reaches v.epoch watched call)
    → IsKept v (calls ++ begun_call call ∷ [])
joined v calls h call out knows reaches =
    let new = begun_call call in
    let none : count_of new ≡ 0 = ap (λ r. if r then 1 else 0) out in
    let unwatched = watch_none v.epoch new none in
    let more : length (calls ++ new ∷ []) ≡ length calls + 1 = length-append calls (new ∷ []) in
    let sum = sum_snoc count_of calls new in
    let watches = sum_snoc (watch_of v.epoch) calls new in
    let all = h.counted in
    let absent : IsTrue (is_registered call.stage) → ⊥ = λ is. false≢true (sym out ∙ is) in
    record {
      counted = omega arith;
      claimed = λ few. let claimed = h.claimed few in omega arith;
      fits = h.fits;
      each = λ j z is.
          elim (element_of_longer calls new z j is) [
            | inl old ↦
                (let sound = h.each j z old in
                record { past = sound.past; early = sound.early; known = λ registered. let least = sound.known registered in omega arith; knows = sound.knows })
            | inr same ↦
                subst (λ (x : Begun). IsSound v.epoch (length (calls ++ new ∷ [])) x) (sym same) record {
                  past = λ is_new. absurd (absent is_new);
                  early = λ is_new. absurd (absent is_new);
                  known = λ is_new. absurd (absent is_new);
                  knows = knows;
                }
          ];
      reached = λ i n wait note iw inn registered less.
          elim (element_of_longer calls new wait i iw) [
            | inl old ↦
                elim (element_of_longer calls new note n inn) [
                  | inl there ↦ h.reached i n wait note old there registered less
                  | inr same ↦
                      subst (λ (x : Begun). Reaches v.epoch wait.call.epoch x.call) (sym same)
                      (reaches wait.call.epoch
                      (let some = one_counts count_of calls i wait old in let one = counts_one wait.call.stage registered in omega arith)
                      ((h.each i wait old).early registered)
                      (λ full.
                      let one = one_counts (watch_of v.epoch) calls i wait old in
                      let counts = one_counts count_of calls i wait old in
                      let weighs = counts_one wait.call.stage registered in
                      let claimed = h.claimed (omega arith) in
                      has_ended v.epoch wait registered (omega arith)))
                ]
            | inr same ↦ absurd (absent (subst (λ (x : Begun). IsTrue (is_registered x.call.stage)) same registered))
          ];
    }

-- a wait begins, and loads the word
pub wait_joins : (w : ℕ) (calls : List Begun) → IsKept (decoded w) calls → IsKept (decoded w) (calls ++ begun_call (wait_at w waiting) ∷ [])
wait_joins w calls h =
    let counting : EventCall = event_to stage.CountIn (record waiting { loaded = w; epoch = (with_wait (decoded w)).epoch }) in
    let away_now : EventCall = event_to stage.UnlockAway waiting in
    chosen (λ c. IsKept (decoded w) (calls ++ begun_call c ∷ [])) (takes_in (decoded w)) counting away_now
    (λ room. joined (decoded w) calls h counting refl (room, refl) (λ watched some early claims. tt))
    (λ full. joined (decoded w) calls h away_now refl tt (λ watched some early claims. tt))

-- a notification begins, and loads the word
pub notify_joins : (all : Bool) (w : ℕ) (calls : List Begun) → IsKept (decoded w) calls
    → IsKept (decoded w) (calls ++ begun_call (notify_at w (notifying all)) ∷ [])
notify_joins all w calls h =
    let skipped : EventCall = event_to stage.Skipped (record (notifying all) { loaded = w }) in
    let ending : EventCall = event_to stage.EndEpoch (record (notifying all) { loaded = w; epoch = (decoded w).epoch + 1 }) in
    let waking : EventCall = event_to stage.Wake (record (notifying all) { loaded = w; epoch = (decoded w).epoch }) in
    chosen (λ c. IsKept (decoded w) (calls ++ begun_call c ∷ [])) (has_none all (decoded w)) skipped
    (if nat_lt (decoded w).epoch last_epoch then ending else waking)
    (λ nobody. joined (decoded w) calls h skipped refl tt (λ watched some early claims. (none_watched all (decoded w) watched nobody some claims, some)))
    (λ somebody.
    chosen (λ c. IsKept (decoded w) (calls ++ begun_call c ∷ [])) (nat_lt (decoded w).epoch last_epoch) ending waking
    (λ early. joined (decoded w) calls h ending refl (somebody, ltb-true _ _ early, refl) (λ watched some early claims. tt))
    (λ last. joined (decoded w) calls h waking refl tt (λ watched some early claims. let late = ltb-false _ _ last in ((omega arith), (omega arith)))))

-- no call has begun
pub none_begun : (v : EventWord) → v.count ≡ 0 → IsKept v []
none_begun v nobody =
    record {
      counted = nobody;
      claimed = λ few. omega arith;
      fits = omega arith;
      each = λ k b is. cc;
      reached = λ i n wait note iw inn registered less. cc;
    }
