-- Each kind of step of a user keeps the rule of the table.
use Rattle.std.proofs.Common.{◌≡◌, ◌≢◌, ℕ, zero, suc, ◌+◌, ◌<◌, ◌≤◌, inl, inr, List, [], ◌∷◌, ◌++◌, eqb, eq-eqb, Bool, true, false, set, get_or, slice_index, replicate, sym, refl, ap, subst, ◌∙◌, ⊎_elim, arith, suc-ne-zero, length-set, get_or-set_same, append_assoc}
use Rattle.std.specs.Prelude.{Some, None}
use Rattle.std.specs.Prelude as std
use Rattle.std.specs.Option.{unwrap_or}
use mathlib.Core.Option.{Option, some, none, some-injective, some-ne-none}
use mathlib.Core.Logic.{dite}
use native.Mathlib.Decide.{ℕ_discrete, dec_lt}
use lib.ListN.{get_elem?}
use prog.Atomic.{either}
use Rattle.std.proofs.lemmas.Bool.{cases_lt}
use Rattle.std.proofs.lemmas.List.{get_or-set_other}
use Rattle.atomic_table.specs.Table.{State, Act, keeps, takes, gives, stepped, carried_after, Valid, Allows, Splits, Joins, Final, Seen, opening, put_back, rest}
use Rattle.atomic_table.proofs.Lists.{at_set, at_snoc, at_longer, set_else, set_again, exchanged}
use Rattle.lock_ruled.specs.declared.rule.UserStage.{UserStage}
use Rattle.lock_ruled.specs.declared.rule.UserStage.TheVariants.{Free, Opens, Holds, Watches, Sleeps, Owes, OwesAt}
use Rattle.lock_ruled.specs.declared.rule.UserView.{UserView}
use Rattle.lock_ruled.specs.Ruled.{UserState, Taken, all_parts, HasLocked, Meets, Keeps}
use Rattle.lock_ruled.specs.Ruled as asked
use Rattle.lock_ruled.specs.SleepingUsers.{awaited, last_epoch, IsAsleep, IsDue, watched, KeepsWakes}
use Rattle.lock_ruled.specs.Slots.{Fits, IsAway, IsHolding, IsOut, IsRuled, word_in, epoch_in, EveryStateForgetsNoUser, taken_value, known_if, known_views, opener, one_fewer, one_part, both_of, spent_view}
use Rattle.lock_ruled.specs.Plays.{Self, at_stage, HasAcquired, Carries, IsIdle, stage_after_release, AcquiresValue, MarksAwaited, ReleasesValue, OpensMutex, WatchesEpoch, Leaves, NotesEpoch, EndsEpoch}
use Rattle.lock_ruled.proofs.Wakes.{changes, moves, frees, ends, finds_last, newcomer, forgets_no_user}
use Rattle.lock_ruled.proofs.Views.{known_of, known_one, known_append, parts_append, around, both_around, two_parts, alone, set_at}

abbrev Homes : Type 0 → Type 0
Homes T = List (Option (std.Option T))

-- a user that has released the value neither has it nor sleeps
home_after_release : (T : Type 0) (was_awaited : Bool) → IsAway {T = T} (stage_after_release was_awaited) → ⊥
home_after_release T true away = away
home_after_release T false away = away

up_after_release : (T : Type 0) (was_awaited : Bool) (epoch : ℕ) → watched {T = T} (stage_after_release was_awaited) ≤ epoch
up_after_release T true epoch = omega arith
up_after_release T false epoch = omega arith

awake_after_release : (T : Type 0) (was_awaited : Bool) (epoch : ℕ) → IsAsleep {T = T} epoch (stage_after_release was_awaited) → ⊥
awake_after_release T true epoch asleep = let e = asleep.0 in cc
awake_after_release T false epoch asleep = let e = asleep.0 in cc

module _ {T : Type 0} where
  -- a user without the value fits any state
  is_free : (st : UserStage T) (word holder number word' holder' : ℕ) (homes homes' : Homes T) (y y' : T)
      → (holder ≡ number → word ≢ 0 → ⊥) → Fits word homes y holder number st → Fits word' homes' y' holder' number st
  is_free (Opens x) word holder number word' holder' homes homes' y y' not fits = absurd (not fits.0 fits.1)
  is_free (Holds x) word holder number word' holder' homes homes' y y' not fits = absurd (not fits.0 fits.1)
  is_free stage word holder number word' holder' homes homes' y y' not fits = tt

  -- the word may change if it does not become 0
  still_fits : (st : UserStage T) (word word' holder number : ℕ) (homes : Homes T) (y : T) → word' ≢ 0
      → Fits word homes y holder number st → Fits word' homes y holder number st
  still_fits (Opens x) word word' holder number homes y away fits = (fits.0, away, fits.2, fits.3)
  still_fits (Holds x) word word' holder number homes y away fits = (fits.0, away, fits.2, fits.3)
  still_fits stage word word' holder number homes y away fits = tt

  -- a user without the value fits any state
  fits_any : (st : UserStage T) (word holder number : ℕ) (homes : Homes T) (y : T) → (IsAway st → ⊥)
      → Fits word homes y holder number st
  fits_any (Opens x) word holder number homes y not = absurd (not tt)
  fits_any (Holds x) word holder number homes y not = absurd (not tt)
  fits_any stage word holder number homes y not = tt

  -- what lies in the slot that was acquired last
  abbrev slot_in : List (ℕ × std.Option T) → T → T
  slot_in ((k, Some x) ∷ xs) other = x
  slot_in xs other = other

module _ {T : Type 0} where
  pub holds_taken : (st : UserStage T) (other : T) → IsHolding st → st ≡ Holds (taken_value st other)
  holds_taken (Holds x) other h = refl
  holds_taken stage other h = absurd h

pub not_away : {T : Type 0} (st : UserStage T) → st ≡ Free → IsAway st → ⊥
not_away st free away = subst IsAway free away

module _ {T V : Type 0} (rule : T → List V → Type 0) (me after : Self T V) where
  -- a user that acquired a value holds it
  pub has_out : IsIdle me → (took : HasAcquired rule me after) → Carries after took.0 took.0
  has_out idle took =
      (ap (λ (m : Self T V). m.0.stage) took.1, ap (λ (m : Self T V). m.1) took.1 ∙ ap (λ (c : List (ℕ × std.Option T)). (0, Some took.0) ∷ c) idle.0)

  -- and the rule holds of it, with the view that contracts see
  pub has_met : (took : HasAcquired rule me after) (taken : T) (view : V) → taken ≡ took.0 → me.0.own ≡ view → Meets rule taken view
  has_met took taken view same is = subst (λ (z : T × V). Meets rule z.0 z.1) (λ i. (sym same i, is i)) took.2

  -- so a guard of that value has what contracts say of a new guard
  pub has_locked : IsIdle me → (took : HasAcquired rule me after) (own : UserState V) (guard : Taken T V)
      → ((value : T) → Carries after value value → (guard.taken ≡ value) × (guard.value ≡ value)) → guard.user ≡ own → me.0.own ≡ own.view
      → HasLocked rule own guard
  has_locked idle took own guard value_of user view =
      let is = value_of took.0 (has_out idle took) in
      record { user = user; value = is.1 ∙ sym is.0; met = has_met took guard.taken own.view is.0 view }

-- a guard's value, put into its slot
pub refilled : {T V : Type 0} (me now : Self T V) (value : T) → now ≡ (me.0, (0, Some value) ∷ rest me.1)
    → me.1 ≡ (0, None) ∷ [] → IsHolding me.0.stage
    → Carries now (taken_value me.0.stage value) value
refilled me now value is out holds =
    (ap (λ m. m.0.stage) is ∙ holds_taken me.0.stage value holds, ap (λ m. m.1) is ∙ ap (λ l. (0, Some value) ∷ rest l) out)

module _ {T V : Type 0} (rule : T → List V → Type 0) where
  -- the user that holds the value is not one that does not
  others_out : (s : State (std.Option T) (UserView T V)) (r : IsRuled rule s) (id : ℕ) (u w : UserView T V) → get_elem? s.views id ≡ some u
      → (IsAway u.stage → ⊥) → IsOut s.views r.holder → IsOut (set s.views id w) r.holder
  others_out s r id u w at not out =
      dite (ℕ_discrete r.holder id)
      (λ same. absurd (not (subst (λ (x : UserView T V). IsAway x.stage)
      (some-injective out.0 u (sym out.1 ∙ ap (λ (k : ℕ). get_elem? s.views k) same ∙ at)) out.3)))
      (λ apart. (out.0, set_else s.views id r.holder w apart ∙ out.1, out.2, out.3))

  -- the state after a step of one user on the word
  left : (s : State (std.Option T) (UserView T V)) (r : IsRuled rule s) (id n holder : ℕ) (homes : Homes T)
      (u w : UserView T V) (y : T) → get_elem? s.views id ≡ some u
      → w.parts ≡ u.parts → rule y (known_views (set s.views id w)) → (n ≡ 0 → homes ≡ some (Some y) ∷ [])
      → (n ≢ 0 → IsOut (set s.views id w) holder) → Fits n homes y holder id w.stage
      → ((k : ℕ) (x : UserView T V) → k ≢ id → get_elem? s.views k ≡ some x → Fits n homes y holder k x.stage)
      → KeepsWakes n (epoch_in s) (set s.views id w)
      → IsRuled rule record { words = set s.words 0 n; homes = homes; views = set s.views id w }
  left s r id n holder homes u w y at same rules home out mine others wakes =
      let two = r.two_words in
      let is : get_or (set s.words 0 n) 0 0 ≡ n = get_or-set_same s.words 0 n 0 (omega arith) in
      let epoch : get_or (set s.words 0 n) 1 0 ≡ get_or s.words 1 0 = get_or-set_other s.words 0 1 n 0 (λ e. omega arith) in
      let sum = (around s.views id u at).parts w in
      let all = r.parts in
      record {
        value = y;
        holder = holder;
        two_words = length-set s.words 0 n ∙ r.two_words;
        parts = omega arith;
        kept = rules;
        at_home = λ free. home (sym is ∙ free);
        is_out = λ away. out (λ none. away (is ∙ none));
        each = λ k x e. subst (λ (m : ℕ). Fits m homes y holder k x.stage) (sym is)
            (⊎_elim (λ (here : (k ≡ id) × (w ≡ x)). subst
            (λ (z : ℕ × UserView T V). Fits n homes y holder z.0 z.1.stage) (λ i. (sym here.0 i, here.1 i)) mine)
            (λ (there : (k ≢ id) × (get_elem? s.views k ≡ some x)). others k x there.0 there.1) (at_set s.views id k w x e));
        wakes = subst (λ (z : ℕ × ℕ). KeepsWakes z.0 z.1 (set s.views id w)) (λ i. (sym is i, sym epoch i)) wakes;
      }

  -- the state after a step on the epoch of a user that has no value, before and after
  aside : (s : State (std.Option T) (UserView T V)) (r : IsRuled rule s) (id n : ℕ) (u : UserView T V) (stage : UserStage T)
      → get_elem? s.views id ≡ some u → (IsAway u.stage → ⊥) → (IsAway stage → ⊥)
      → KeepsWakes (word_in s) n (set s.views id (record u { stage = stage }))
      → IsRuled rule record { words = set s.words 1 n; homes = s.homes; views = set s.views id (record u { stage = stage }) }
  aside s r id n u stage at before after wakes =
      let w : UserView T V = record u { stage = stage } in
      let two = r.two_words in
      let is : get_or (set s.words 1 n) 0 0 ≡ get_or s.words 0 0 = get_or-set_other s.words 1 0 n 0 (λ e. omega arith) in
      let epoch : get_or (set s.words 1 n) 1 0 ≡ n = get_or-set_same s.words 1 n 0 (omega arith) in
      let about = around s.views id u at in
      let sum = about.parts w in
      let all = r.parts in
      let known_same : known_views (set s.views id w) ≡ known_views s.views = about.becomes w ∙ sym about.was in
      record {
        value = r.value;
        holder = r.holder;
        two_words = length-set s.words 1 n ∙ r.two_words;
        parts = omega arith;
        kept = subst (rule r.value) (sym known_same) r.kept;
        at_home = λ free. r.at_home (sym is ∙ free);
        is_out = λ away. others_out s r id u w at before (r.is_out (λ none. away (is ∙ none)));
        each = λ k x e. subst (λ (m : ℕ). Fits m s.homes r.value r.holder k x.stage) (sym is)
            (⊎_elim (λ (here : (k ≡ id) × (w ≡ x)). subst (λ (y : UserView T V). Fits (word_in s) s.homes r.value r.holder k y.stage) here.1
            (fits_any stage (word_in s) r.holder k s.homes r.value after))
            (λ (there : (k ≢ id) × (get_elem? s.views k ≡ some x)). r.each k x there.1) (at_set s.views id k w x e));
        wakes = subst (λ (z : ℕ × ℕ). KeepsWakes z.0 z.1 (set s.views id w)) (λ i. (sym is i, sym epoch i)) wakes;
      }

  abbrev After : State (std.Option T) (UserView T V) → ℕ → Self T V → ℕ → (ℕ → Self T V → Type 0) → Type 0
  After s id me n then = (w : UserView T V) × (a : Act (std.Option T)) × Valid s.homes me.1 a × IsRuled rule (stepped s 0 n id me.1 w a)
      × then (word_in s) (w, carried_after me.1 a)

  -- a step that finds the mutex free acquires the value, whatever it does to a mutex that is held
  acquires : (otherwise : Self T V → Type 0) (s : State (std.Option T) (UserView T V)) (r : IsRuled rule s) (id n : ℕ) (me : Self T V) → get_elem? s.views id ≡ some me.0
      → word_in s ≡ 0 → n ≢ 0 → 0 < me.0.parts → (IsDue (epoch_in s) me.0.stage → ⊥)
      → After s id me n (λ found after. (found ≡ 0 → HasAcquired rule me after) × (found ≢ 0 → otherwise after))
  acquires otherwise s r id n me at hit away some_part not_due =
      let about = around s.views id me.0 at in
      let y = r.value in
      let w : UserView T V = record me.0 { stage = Holds y } in
      let home = r.at_home hit in
      let there : get_elem? s.homes 0 ≡ some (some (Some y)) = ap (λ (h : Homes T). get_elem? h 0) home in
      let homes : set s.homes 0 none ≡ none ∷ [] = ap (λ (h : Homes T). set h 0 none) home in
      let known_same : known_views (set s.views id w) ≡ known_views s.views = about.becomes w ∙ sym about.was in
      let mine : known_views s.views ≡ about.before ++ me.0.own ∷ about.after
      = about.was ∙ ap (λ (l : List V). about.before ++ (l ++ about.after)) (known_one me.0.parts me.0.own some_part) in (
        w,
        takes 0 (Some y),
        there,
        left s r id n id (set s.homes 0 none) me.0 w y at refl (subst (rule y) (sym known_same) r.kept) (λ none. absurd (away none))
            (λ _. (w, set_at s.views id me.0 w at, some_part, tt)) (refl, away, refl, homes)
            (λ k x apart e. is_free x.stage (word_in s) r.holder k n id s.homes (set s.homes 0 none) y y (λ _ nonzero. nonzero hit) (r.each k x e))
            (changes (word_in s) n (epoch_in s) s.views id me.0 w at r.wakes (omega arith) (λ due. absurd (not_due due))
            (λ asleep. let e = asleep.0 in cc) (λ is. absurd (suc-ne-zero 1 (sym is ∙ hit)))),
        ((λ _. (y, refl, (about.before, about.after, subst (rule y) mine r.kept))), (λ miss. absurd (miss hit))),
      )

  pub takes_value : (slots id : ℕ) (me : Self T V) → me.0.stage ≡ Free → 0 < me.0.parts
      → Allows (IsRuled rule) slots id me 0 (λ n. either (eqb n 0) 1 n) (AcquiresValue rule me)
  takes_value slots id me free some_part s r same at small =
      exchanged (word_in s) 0 1 (λ n. After s id me n (AcquiresValue rule me))
      (λ hit. acquires (λ after. after ≡ me) s r id 1 me at hit (λ e. suc-ne-zero 0 e) some_part (λ due. subst (IsDue (epoch_in s)) free due))
      (λ miss.
      let again = set_again s.views id me.0 at in (
        me.0,
        keeps,
        tt,
        left s r id (word_in s) r.holder s.homes me.0 me.0 r.value at refl
            (subst (λ (us : List (UserView T V)). rule r.value (known_views us)) (sym again) r.kept)
            r.at_home (λ _. subst (λ (us : List (UserView T V)). IsOut us r.holder) (sym again) (r.is_out miss))
            (r.each id me.0 at) (λ k x apart e. r.each k x e)
            (subst (λ (us : List (UserView T V)). KeepsWakes (word_in s) (epoch_in s) us) (sym again) r.wakes),
        ((λ hit. absurd (miss hit)), (λ _. refl)),
      ))

  pub marks_awaited : (slots id : ℕ) (me : Self T V) (epoch : ℕ) → me.0.stage ≡ Watches epoch → 0 < me.0.parts
      → Allows (IsRuled rule) slots id me 0 (λ n. awaited) (MarksAwaited rule me)
  marks_awaited slots id me epoch watches some_part s r same at small =
      let away : awaited ≢ 0 = λ e. suc-ne-zero 1 e in
      let not_due = λ (due : IsDue (epoch_in s) me.0.stage). subst (IsDue (epoch_in s)) watches due in
      dite (ℕ_discrete (word_in s) 0)
      (λ hit. acquires (λ after. (e : ℕ) → me.0.stage ≡ Watches e → after ≡ at_stage me (Sleeps e)) s r id awaited me at hit away some_part not_due)
      (λ miss.
      let w : UserView T V = record me.0 { stage = Sleeps epoch } in
      let about = around s.views id me.0 at in
      let known_same : known_views (set s.views id w) ≡ known_views s.views = about.becomes w ∙ sym about.was in
      let past : watched me.0.stage ≤ epoch_in s = r.wakes.within id me.0 at in
      let same_epoch : watched me.0.stage ≡ epoch = ap watched watches in (
        w,
        keeps,
        tt,
        left s r id awaited r.holder s.homes me.0 w r.value at refl (subst (rule r.value) (sym known_same) r.kept)
            (λ none. absurd (away none))
            (λ _. others_out s r id me.0 w at (λ out. subst IsAway watches out) (r.is_out miss)) tt
            (λ k x apart e. still_fits x.stage (word_in s) awaited r.holder k s.homes r.value away (r.each k x e))
            (changes (word_in s) awaited (epoch_in s) s.views id me.0 w at r.wakes (omega arith) (λ due. absurd (not_due due))
            (λ asleep. refl) (λ is. inl refl)),
        ((λ hit. absurd (miss hit)), (λ _ found is. (let e : found ≡ epoch = ap watched (sym is ∙ watches) in λ i. (record me.0 { stage = Sleeps (sym e i) }, me.1)))),
      ))

  pub gives_value : (slots id : ℕ) (me : Self T V) (next : T → V → T → V) (taken value : T) → Carries me taken value
      → 0 < me.0.parts → Keeps rule taken me.0.own value (next taken me.0.own value)
      → Allows (IsRuled rule) slots id me 0 (λ n. 0) (ReleasesValue next me)
  gives_value slots id me next taken value out some_part turn s r same at small =
      let holds = out.0 in
      let carries = out.1 in
      let word = word_in s in
      let epoch = epoch_in s in
      let was_awaited = eqb word awaited in
      let about = around s.views id me.0 at in
      let fits : Fits word s.homes r.value r.holder id (Holds taken)
      = subst (λ (st : UserStage T). Fits word s.homes r.value r.holder id st) holds (r.each id me.0 at) in
      let own = next taken me.0.own value in
      let w : UserView T V = record me.0 { own = own; stage = stage_after_release was_awaited } in
      let one = λ (v : V). known_one me.0.parts v some_part in
      let was : known_views s.views ≡ about.before ++ me.0.own ∷ about.after
      = about.was ∙ ap (λ (l : List V). about.before ++ (l ++ about.after)) (one me.0.own) in
      let becomes : known_views (set s.views id w) ≡ about.before ++ own ∷ about.after
      = about.becomes w ∙ ap (λ (l : List V). about.before ++ (l ++ about.after)) (one own) in
      let before : rule taken (about.before ++ me.0.own ∷ about.after)
      = subst (λ (z : T × List V). rule z.0 z.1) (λ i. (sym fits.2 i, was i)) r.kept in
      let after = subst (rule value) (sym becomes) (turn about.before about.after before) in
      let homes : List (Option (std.Option T)) = put_back s.homes me.1 in
      let is : homes ≡ some (Some value) ∷ [] = (λ i. put_back (fits.3 i) (carries i)) in
      let wakes : KeepsWakes 0 epoch (set s.views id w)
      = changes word 0 epoch s.views id me.0 w at r.wakes (up_after_release T was_awaited epoch)
      (λ due. absurd (subst (IsDue epoch) holds due)) (λ asleep. absurd (awake_after_release T was_awaited epoch asleep))
      (λ found. inr (subst (λ (b : Bool). IsDue {T = T} epoch (stage_after_release b)) (sym (eq-eqb word awaited found)) tt)) in (
        w,
        gives,
        tt,
        left s r id 0 0 homes me.0 w value at refl after (λ _. is) (λ away. absurd (away refl))
            (fits_any (stage_after_release was_awaited) 0 0 id homes value (home_after_release T was_awaited))
            (λ k x apart e. is_free x.stage word r.holder k 0 0 s.homes homes r.value value (λ mine _. apart (sym mine ∙ fits.0)) (r.each k x e))
            wakes,
        (λ x y out'.
            let held = out'.0 in
            let in_hand = out'.1 in
            let same_x : taken ≡ x = ap (λ (st : UserStage T). taken_value st taken) (sym holds ∙ held) in
            let same_y : value ≡ y = ap (λ (c : List (ℕ × std.Option T)). slot_in c value) (sym carries ∙ in_hand) in
            λ i. (record me.0 { own = next (same_x i) me.0.own (same_y i); stage = stage_after_release was_awaited }, rest (carries i))),
      )

  pub begins : (slots id : ℕ) (me : Self T V) (first : T) → me.0.stage ≡ Opens first → 0 < me.0.parts
      → Allows (IsRuled rule) slots id me 0 (λ n. n) (OpensMutex me)
  begins slots id me first opens some_part s r same at small =
      let word = slice_index s.words 0 in
      let about = around s.views id me.0 at in
      let fits : Fits word s.homes r.value r.holder id (Opens first)
      = subst (λ (st : UserStage T). Fits word s.homes r.value r.holder id st) opens (r.each id me.0 at) in
      let w : UserView T V = record me.0 { stage = Holds first } in
      let known_same : known_views (set s.views id w) ≡ known_views s.views = about.becomes w ∙ sym about.was in
      let away : word ≢ 0 = fits.1 in (
        w,
        takes 0 None,
        ap (λ (h : Homes T). get_elem? h 0) fits.3,
        left s r id word id (set s.homes 0 none) me.0 w r.value at refl (subst (rule r.value) (sym known_same) r.kept) (λ none. absurd (away none))
            (λ _. (w, set_at s.views id me.0 w at, some_part, tt))
            (refl, away, fits.2, ap (λ (h : Homes T). set h 0 none) fits.3)
            (λ k x apart e. is_free x.stage word r.holder k word id s.homes (set s.homes 0 none) r.value r.value
            (λ mine _. apart (sym mine ∙ fits.0)) (r.each k x e))
            (moves word (epoch_in s) s.views id me.0 w at r.wakes (omega arith)
            (λ due. absurd (subst (IsDue (epoch_in s)) opens due)) (λ asleep. let e = asleep.0 in cc)),
        (λ x opened i. (record me.0 { stage = Holds (ap (λ (st : UserStage T). taken_value st first) (sym opens ∙ opened) i) }, (0, None) ∷ me.1)),
      )

  maker_fits : (value : T) (view : V) (k : ℕ) (x : UserView T V) → get_elem? (opener value view ∷ []) k ≡ some x
      → Fits 1 (some None ∷ []) value 0 k x.stage
  maker_fits value view zero x at =
      subst (λ (u : UserView T V). Fits 1 (some None ∷ []) value 0 0 u.stage) (some-injective (opener value view) x at)
      (refl, (λ e. suc-ne-zero 0 e), refl, refl)
  maker_fits value view (suc k) x at = absurd (some-ne-none x (sym at))

  maker_watches : (value : T) (view : V) (k : ℕ) (x : UserView T V) → get_elem? (opener value view ∷ []) k ≡ some x → watched x.stage ≤ 0
  maker_watches value view zero x at =
      subst (λ (u : UserView T V). watched u.stage ≤ 0) (some-injective (opener value view) x at) (omega arith)
  maker_watches value view (suc k) x at = absurd (some-ne-none x (sym at))

  maker_is_up : (value : T) (view : V) (k : ℕ) (x : UserView T V) → get_elem? (opener value view ∷ []) k ≡ some x → IsAsleep 0 x.stage → ⊥
  maker_is_up value view zero x at asleep =
      let is : Opens value ≡ Sleeps 0 = ap (λ (u : UserView T V). u.stage) (some-injective (opener value view) x at) ∙ asleep.0 in cc
  maker_is_up value view (suc k) x at asleep = absurd (some-ne-none x (sym at))

  pub starts : (value : T) (view : V) → rule value (view ∷ []) → IsRuled rule (opening (1 ∷ 0 ∷ []) (replicate 1 None) (opener value view))
  starts value view law =
      let u : UserView T V = opener value view in
      record {
        value = value;
        holder = 0;
        two_words = refl;
        parts = refl;
        kept = law;
        at_home = λ e. absurd (suc-ne-zero 0 e);
        is_out = λ _. (u, refl, omega arith, tt);
        each = maker_fits value view;
        wakes = record { within = λ k x e. maker_watches value view k x e; none_forgotten = λ k x e asleep. absurd (maker_is_up value view k x e asleep) };
      }

  -- steps on the epoch

  pub watches_epoch : (slots id : ℕ) (me : Self T V) → me.0.stage ≡ Free
      → Allows (IsRuled rule) slots id me 1 (λ n. n) (WatchesEpoch me)
  watches_epoch slots id me free s r same at small =
      let epoch = epoch_in s in
      let w : UserView T V = record me.0 { stage = Watches epoch } in (
        w,
        keeps,
        tt,
        aside s r id epoch me.0 (Watches epoch) at (not_away me.0.stage free) (λ away. away)
            (moves (word_in s) epoch s.views id me.0 w at r.wakes (omega arith)
            (λ due. absurd (subst (IsDue epoch) free due)) (λ asleep. let e = asleep.0 in cc)),
        refl,
      )

  -- a user that is neither due nor has the value does nothing more
  rests : (s : State (std.Option T) (UserView T V)) (r : IsRuled rule s) (id : ℕ) (u : UserView T V) → get_elem? s.views id ≡ some u
      → (IsAway u.stage → ⊥) → (IsDue (epoch_in s) u.stage → ⊥)
      → IsRuled rule record { words = set s.words 1 (epoch_in s); homes = s.homes; views = set s.views id (record u { stage = Free }) }
  rests s r id u at not_out not_due =
      aside s r id (epoch_in s) u Free at not_out (λ away. away)
      (frees (word_in s) (epoch_in s) s.views id u (record u { stage = Free }) at r.wakes not_due refl)

  pub leaves : (slots id : ℕ) (me : Self T V) (epoch : ℕ) → me.0.stage ≡ Sleeps epoch
      → Allows (IsRuled rule) slots id me 1 (λ n. n) (Leaves me)
  leaves slots id me epoch sleeps s r same at small = (
    record me.0 { stage = Free },
    keeps,
    tt,
    rests s r id me.0 at (λ away. subst IsAway sleeps away) (λ due. subst (IsDue (epoch_in s)) sleeps due),
    refl,
  )

  pub notes_epoch : (slots id : ℕ) (me : Self T V) → me.0.stage ≡ Owes
      → Allows (IsRuled rule) slots id me 1 (λ n. n) (NotesEpoch me)
  notes_epoch slots id me owes s r same at small =
      let epoch = epoch_in s in
      let not_out = λ (away : IsAway me.0.stage). subst IsAway owes away in
      elim (cases_lt epoch last_epoch) [
        | inl early ↦
            (let w : UserView T V = record me.0 { stage = OwesAt epoch } in (
              w,
              keeps,
              tt,
              aside s r id epoch me.0 (OwesAt epoch) at not_out (λ away. away)
                  (moves (word_in s) epoch s.views id me.0 w at r.wakes (omega arith) (λ due. refl) (λ asleep. let e = asleep.0 in cc)),
              ((λ _. refl), (λ late. absurd (omega arith))),
            ))
        | inr late ↦
            (let w : UserView T V = record me.0 { stage = Free } in (
              w,
              keeps,
              tt,
              aside s r id epoch me.0 Free at not_out (λ away. away)
                  (finds_last (word_in s) epoch s.views id w r.wakes (omega arith) refl),
              ((λ early. absurd (omega arith)), (λ _. refl)),
            ))
      ]

  pub ends_epoch : (slots id : ℕ) (me : Self T V) (old new : ℕ) → me.0.stage ≡ OwesAt old → new ≡ old + 1
      → Allows (IsRuled rule) slots id me 1 (λ n. either (eqb n old) new n) (EndsEpoch me)
  ends_epoch slots id me old new owes is s r same at small =
      let epoch = epoch_in s in
      let w : UserView T V = record me.0 { stage = Free } in
      let not_out = λ (away : IsAway me.0.stage). subst IsAway owes away in
      exchanged epoch old new
      (λ n. (w : UserView T V) × (a : Act (std.Option T)) × Valid s.homes me.1 a × IsRuled rule (stepped s 1 n id me.1 w a)
      × EndsEpoch me epoch (w, carried_after me.1 a))
      (λ hit.
      let next : epoch + 1 ≡ new = ap (λ n. n + 1) hit ∙ sym is in (
        w,
        keeps,
        tt,
        aside s r id new me.0 Free at not_out (λ away. away)
            (subst (λ n. KeepsWakes (word_in s) n (set s.views id w)) next (ends (word_in s) epoch s.views id w r.wakes refl)),
        refl,
      ))
      (λ miss. (
        w,
        keeps,
        tt,
        rests s r id me.0 at not_out (λ due. miss (sym (subst (IsDue epoch) owes due))),
        refl,
      ))

  pub splits : (id : ℕ) (u : UserView T V) (left_of right_of : V → V) → u.stage ≡ Free → 1 < u.parts
      → asked.Splits rule u.own (left_of u.own) (right_of u.own)
      → Splits (IsRuled rule) id u (one_fewer left_of u) (one_part right_of u)
  splits id u left_of right_of free enough law s r at =
      let l : UserView T V = one_fewer left_of u in
      let k : UserView T V = one_part right_of u in
      let about = around s.views id u at in
      let us = set s.views id l in
      let n = slice_index s.words 0 in
      let was : known_views s.views ≡ about.before ++ u.own ∷ about.after
      = about.was ∙ ap (λ (vs : List V). about.before ++ (vs ++ about.after)) (known_one u.parts u.own (omega arith)) in
      let becomes : known_views us ≡ about.before ++ l.own ∷ about.after
      = about.becomes l ∙ ap (λ (vs : List V). about.before ++ (vs ++ about.after)) (known_one l.parts l.own (omega arith)) in
      let all : known_views (us ++ k ∷ []) ≡ about.before ++ l.own ∷ (about.after ++ k.own ∷ [])
      = known_append us (k ∷ []) ∙ (ap (λ (vs : List V). vs ++ k.own ∷ []) becomes ∙ append_assoc about.before (l.own ∷ about.after) (k.own ∷ [])) in
      let sum = about.parts l in
      let more = parts_append us (k ∷ []) in
      let total = r.parts in
      record {
        value = r.value;
        holder = r.holder;
        two_words = r.two_words;
        parts = omega arith;
        kept = subst (rule r.value) (sym all) (law r.value about.before about.after (subst (rule r.value) was r.kept));
        at_home = r.at_home;
        is_out = λ away. (let out = others_out s r id u l at (not_away u.stage free) (r.is_out away) in
            (out.0, at_longer us (k ∷ []) r.holder out.0 out.1, out.2, out.3));
        each = λ j x e. ⊎_elim
            (λ (old : get_elem? us j ≡ some x). ⊎_elim
            (λ (here : (j ≡ id) × (l ≡ x)). subst (λ (y : UserView T V). Fits n s.homes r.value r.holder j y.stage) here.1 tt)
            (λ (there : (j ≢ id) × (get_elem? s.views j ≡ some x)). r.each j x there.1) (at_set s.views id j l x old))
            (λ (new : k ≡ x). subst (λ (y : UserView T V). Fits n s.homes r.value r.holder j y.stage) new tt) (at_snoc us k x j e);
        wakes = newcomer n (epoch_in s) us k
            (frees n (epoch_in s) s.views id u l at r.wakes (λ due. subst (IsDue (epoch_in s)) free due) refl) refl;
      }

  -- the views of two users, whichever comes first, when they are joined
  joined : (us : List (UserView T V)) (id other : ℕ) (u w both gone : UserView T V) (y : T)
      → asked.Joins rule u.own w.own both.own → 0 < u.parts → 0 < w.parts → 0 < both.parts
      → gone.parts ≡ 0 → other ≢ id → get_elem? us id ≡ some u → get_elem? us other ≡ some w → rule y (known_views us)
      → rule y (known_views (set (set us id both) other gone))
  joined us id other u w both gone y law some_u some_w some_both no_part apart at at' kept =
      let one_u = known_one u.parts u.own some_u in
      let one_w = known_one w.parts w.own some_w in
      let one = known_one both.parts both.own some_both in
      let nothing : known_of gone ≡ [] = ap (λ (n : ℕ). known_if n gone.own) no_part in
      dite (dec_lt id other)
      (λ less.
      let a = both_around us id other u w less at at' in
      let was : known_views us ≡ a.before ++ u.own ∷ (a.between ++ w.own ∷ a.after)
      = a.was ∙ (λ i. a.before ++ (one_u i ++ (a.between ++ (one_w i ++ a.after)))) in
      let becomes : known_views (set (set us id both) other gone) ≡ a.before ++ both.own ∷ (a.between ++ a.after)
      = a.becomes both gone ∙ (λ i. a.before ++ (one i ++ (a.between ++ (nothing i ++ a.after)))) in
      subst (rule y) (sym becomes) (law.earlier y a.before a.between a.after (subst (rule y) was kept)))
      (λ not.
      let a = both_around us other id w u (omega arith) at' at in
      let was : known_views us ≡ a.before ++ w.own ∷ (a.between ++ u.own ∷ a.after)
      = a.was ∙ (λ i. a.before ++ (one_w i ++ (a.between ++ (one_u i ++ a.after)))) in
      let becomes : known_views (set (set us id both) other gone) ≡ a.before ++ (a.between ++ both.own ∷ a.after)
      = a.turned gone both ∙ (λ i. a.before ++ (nothing i ++ (a.between ++ (one i ++ a.after)))) in
      subst (rule y) (sym becomes) (law.later y a.before a.between a.after (subst (rule y) was kept)))

  pub joins : (id other : ℕ) (u w : UserView T V) (both : V → V → V) (gone : V) → u.stage ≡ Free → w.stage ≡ Free → 0 < u.parts → 0 < w.parts
      → asked.Joins rule u.own w.own (both u.own w.own) → Joins (IsRuled rule) id u other w (both_of both u w) (spent_view gone)
  joins id other u w both gone free free' some_u some_w law s r at apart at' =
      let one : UserView T V = both_of both u w in
      let left_over : UserView T V = spent_view gone in
      let us = set s.views id one in
      let n = slice_index s.words 0 in
      let there : get_elem? s.views other ≡ some w = sym (set_else s.views id other one apart) ∙ at' in
      let sum = (around s.views id u at).parts one in
      let sum' = (around us other w at').parts left_over in
      let total = r.parts in
      record {
        value = r.value;
        holder = r.holder;
        two_words = r.two_words;
        parts = omega arith;
        kept = joined s.views id other u w one left_over r.value law some_u some_w (omega arith) refl apart at there r.kept;
        at_home = r.at_home;
        is_out = λ away.
            (let out = others_out s r id u one at (not_away u.stage free) (r.is_out away) in
            dite (ℕ_discrete r.holder other)
            (λ same. absurd (not_away out.0.stage
            (ap (λ (x : UserView T V). x.stage)
            (some-injective out.0 w (sym out.1 ∙ ap (λ (k : ℕ). get_elem? us k) same ∙ at')) ∙ free') out.3))
            (λ differs. (out.0, set_else us other r.holder left_over differs ∙ out.1, out.2, out.3)));
        each = λ j x e. ⊎_elim
            (λ (here : (j ≡ other) × (left_over ≡ x)). subst (λ (y : UserView T V). Fits n s.homes r.value r.holder j y.stage) here.1 tt)
            (λ (rest_of : (j ≢ other) × (get_elem? us j ≡ some x)). ⊎_elim
            (λ (here : (j ≡ id) × (one ≡ x)). subst (λ (y : UserView T V). Fits n s.homes r.value r.holder j y.stage) here.1 tt)
            (λ (old : (j ≢ id) × (get_elem? s.views j ≡ some x)). r.each j x old.1) (at_set s.views id j one x rest_of.1))
            (at_set us other j left_over x e);
        wakes = frees n (epoch_in s) us other w left_over at'
            (frees n (epoch_in s) s.views id u one at r.wakes (λ due. subst (IsDue (epoch_in s)) free due) refl)
            (λ due. subst (IsDue (epoch_in s)) free' due) refl;
      }

  -- a user with all parts and no guard finds the mutex free
  pub closes : (id : ℕ) (u : UserView T V) (words : List ℕ) (slots : List (std.Option T)) → u.stage ≡ Free → u.parts ≡ all_parts
      → Final (Seen (IsRuled rule) id u) words slots → (slot : std.Option T) → get_elem? slots 0 ≡ some slot
      → (slot ≡ None → ⊥) × ((value : T) → slot ≡ Some value → rule value (u.own ∷ []))
  closes id u words slots free whole last slot lies =
      let s = last.0 in
      let r = last.1.0 in
      let at = last.1.1 in
      let total = r.parts in
      let home : slice_index s.words 0 ≡ 0 =
      dite (ℕ_discrete (slice_index s.words 0) 0) (λ zero_word. zero_word)
      (λ away.
      let out = r.is_out away in
      dite (ℕ_discrete r.holder id)
      (λ same. absurd (not_away out.0.stage
      (ap (λ (x : UserView T V). x.stage)
      (some-injective out.0 u (sym out.1 ∙ ap (λ (k : ℕ). get_elem? s.views k) same ∙ at)) ∙ free) out.3))
      (λ apart. (let sum = two_parts s.views r.holder id out.0 u apart out.1 at in let part = out.2 in absurd (omega arith)))) in
      let there : get_elem? s.homes 0 ≡ some (some (Some r.value)) = ap (λ (h : Homes T). get_elem? h 0) (r.at_home home) in
      let is : slot ≡ Some r.value = some-injective slot (Some r.value) (sym lies ∙ last.4 0 (Some r.value) there) in
      let law : rule r.value (u.own ∷ []) = subst (rule r.value) (alone s.views id u at (total ∙ sym whole) (omega arith)) r.kept in (
        (λ empty. (let both : Some r.value ≡ None = sym is ∙ empty in cc)),
        (λ value full. subst (λ (y : T). rule y (u.own ∷ [])) (ap (λ (o : std.Option T). unwrap_or o r.value) (sym is ∙ full)) law),
      )

  pub every_state_forgets_no_user : EveryStateForgetsNoUser (λ (first : T). IsRuled rule)
  every_state_forgets_no_user first s r = forgets_no_user (word_in s) (epoch_in s) s.views r.wakes
