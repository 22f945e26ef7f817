-- Each kind of step on an owner table keeps its rule.
use Rattle.std.proofs.Common.{◌≡◌, ◌≢◌, ℕ, ◌/◌, ◌^◌, ◌<◌, List, [], ◌∷◌, set, length, slice_index, refl, sym, ap, subst, ◌∙◌, arith, eqb, length-set}
use Rattle.std.specs.Prelude.{Some}
use Rattle.std.specs.Prelude as std
use mathlib.Core.Option.{Option, some, none}
use lib.ListN.{get_elem?}
use prog.Atomic.{either}
use Rattle.atomic_table.specs.Table.{State, Act, keeps, takes, gives, put_back, step, stepped, carried_after, Valid, Allows, Enters, opening}
use Rattle.atomic_table.proofs.Lists.{exchanged}
use Rattle.lock_modes.specs.Levels.{Levels, free_levels}
use Rattle.lock_remutex.specs.declared.owner_table.rule.OwnerKey.{OwnerKey}
use Rattle.lock_remutex.specs.declared.owner_table.rule.OwnerStep.{OwnerStep}
use Rattle.lock_remutex.specs.declared.owner_table.rule.OwnerStep.TheVariants.{Saw, Took, Made}
use Rattle.lock_remutex.specs.declared.owner_table.rule.OwnerView.{OwnerView}
use Rattle.lock_remutex.specs.OwnerTables.{party_in, count_in, IsWord, owned_at, IsAtHome, put_step, after_look, newcomer, IsOwnerTable, Self, Looks, Recounts, Takes, Puts}

-- the only word, written
written : (ws : List ℕ) (n : ℕ) → length ws ≡ 1 → slice_index (set ws 0 n) 0 ≡ n
written [] n one = absurd (omega arith)
written (w ∷ ws) n one = refl

-- one slot, filled
filled : {A : Type 0} (hs : List (Option A)) (a : A) → length hs ≡ 1 → set hs 0 (some a) ≡ some a ∷ []
filled [] a one = absurd (omega arith)
filled (h ∷ []) a one = refl
filled (h ∷ g ∷ hs) a one = absurd (omega arith)

module _ {K T : Type 0} (fits : K → T → Type 0) where
  abbrev Table : Type 0
  Table = State (std.Option (Levels T)) (OwnerView K T)

  abbrev AtHome : OwnerKey K → ℕ → List (Option (std.Option (Levels T))) → Type 0
  AtHome key word homes = (l : Levels T) × (homes ≡ some (Some l) ∷ []) × IsAtHome (fits key.raw) key.limit word l

  pub starts : (key : OwnerKey K)
      → IsOwnerTable fits key (opening (0 ∷ []) (Some (free_levels key.limit) ∷ []) (newcomer key))
  starts key =
      record {
        one_word = refl;
        one_slot = refl;
        at_home = λ idle. (
          free_levels key.limit,
          refl,
          record { free = λ e. refl; large = λ e. absurd (omega arith); named = λ e. absurd (omega arith) },
        );
      }

  -- what the word says at home, of every word but 1
  word_of_home : (key : OwnerKey K) (word : ℕ) (homes : List (Option (std.Option (Levels T)))) → AtHome key word homes
      → IsWord key.limit word
  word_of_home key word homes home named = (home.2.named named).0 named

  is_word : (key : OwnerKey K) (s : Table) → IsOwnerTable fits key s → IsWord key.limit (slice_index s.words 0)
  is_word key s kept named =
      let busy : slice_index s.words 0 ≢ 1 = λ e. let n : ℕ = slice_index s.words 0 in let p : 0 < n / 2 ^ 32 = named in let q : n ≡ 1 = e in omega arith in
      word_of_home key (slice_index s.words 0) s.homes (kept.at_home busy) named

  -- a step on the owner word that leaves n there
  on_owner : (key : OwnerKey K) (s : Table) (n : ℕ) (homes : List (Option (std.Option (Levels T)))) (views : List (OwnerView K T))
      → IsOwnerTable fits key s → length homes ≡ 1 → (n ≢ 1 → AtHome key n homes)
      → IsOwnerTable fits key record { words = set s.words 0 n; homes = homes; views = views }
  on_owner key s n homes views kept one home =
      record {
        one_word = length-set s.words 0 n ∙ kept.one_word;
        one_slot = one;
        at_home =
            subst (λ (m : ℕ). m ≢ 1 → AtHome key m homes) (sym (written s.words n kept.one_word)) home;
      }

  -- a step that leaves word and slot as they were
  unchanged : (key : OwnerKey K) (s : Table) (views : List (OwnerView K T)) → IsOwnerTable fits key s
      → IsOwnerTable fits key record { words = set s.words 0 (slice_index s.words 0); homes = s.homes; views = views }
  unchanged key s views kept = on_owner key s (slice_index s.words 0) s.homes views kept kept.one_slot kept.at_home

  pub looks : (key : OwnerKey K) (slots : ℕ)
      → Enters (IsOwnerTable fits key) slots 0 (λ n w. Looks (step slots 0 0 0 none) (newcomer key, []) n (w, []))
  looks key slots s kept same small = (
    record { key = key; step = Saw (slice_index s.words 0) },
    record { one_word = kept.one_word; one_slot = kept.one_slot; at_home = kept.at_home },
    (refl, is_word key s kept),
  )

  -- what a step on the owner word owes that leaves n there
  abbrev Done : OwnerKey K → ℕ → Table → Self K T → ℕ → (Self K T → Type 0) → Type 0
  Done key id s me n then =
      (w : OwnerView K T) × (a : Act (std.Option (Levels T))) × Valid s.homes me.1 a
      × IsOwnerTable fits key (stepped s 0 n id me.1 w a) × then (w, carried_after me.1 a)

  pub recounts : (key : OwnerKey K) (slots id : ℕ) (me : Self K T) (old new : ℕ) → me.0.key ≡ key → 0 < party_in old
      → party_in new ≡ party_in old → IsWord key.limit new
      → Allows (IsOwnerTable fits key) slots id me 0 (λ n. either (eqb n old) new n) (Recounts fits (step slots 0 old new none) me)
  recounts key slots id me old new own named same_party counted s kept same at small =
      let found = slice_index s.words 0 in
      let then = Recounts fits (step slots 0 old new none) me found in
      exchanged found old new (λ n. Done key id s me n then)
      (λ hit.
      let busy : old ≢ 1 = λ e. omega (arith, named, e) in
      let home : AtHome key old s.homes = subst (λ (n : ℕ). AtHome key n s.homes) hit (kept.at_home (λ e. busy (sym hit ∙ e))) in
      let known = home.2.named named in
      let token : T = known.1.0 in
      let now_named : 0 < party_in new = subst (λ (n : ℕ). 0 < n) (sym same_party) named in
      let limit = ap (λ (k : OwnerKey K). k.limit) own in
      let made : OwnerStep T = Made (owned_at me.0.key.limit (party_in old) (count_in old) token) (owned_at me.0.key.limit (party_in old) (count_in new) token) in (
        record me.0 { step = after_look me.0.step made },
        keeps,
        tt,
        on_owner key s new s.homes _ kept kept.one_slot (λ idle. (
          home.0,
          home.1,
          record {
            free = λ e. absurd (omega (arith, now_named, e));
            large = λ e. absurd (omega (arith, now_named, e));
            named = λ _. (counted, (token, known.1.1 ∙ ap (λ (p : ℕ). owned_at key.limit p 1 token) (sym same_party), known.1.2));
          },
        )),
        ((λ e. (token, refl, subst (λ (k : OwnerKey K). fits k.raw token) (sym own) known.1.2)), (λ miss. absurd (miss hit))),
      ))
      (λ miss. (
        record me.0 { step = after_look me.0.step (Saw found) },
        keeps,
        tt,
        unchanged key s _ kept,
        ((λ hit. absurd (miss hit)), (λ e. refl)),
      ))

  pub takes_levels : (key : OwnerKey K) (slots id : ℕ) (me : Self K T) (old : ℕ) → me.0.key ≡ key → old ≢ 1
      → Allows (IsOwnerTable fits key) slots id me 0 (λ n. either (eqb n old) 1 n) (Takes fits (step slots 0 old 1 none) me)
  takes_levels key slots id me old own idle s kept same at small =
      let found = slice_index s.words 0 in
      let then = Takes fits (step slots 0 old 1 none) me found in
      exchanged found old 1 (λ n. Done key id s me n then)
      (λ hit.
      let home : AtHome key old s.homes = subst (λ (n : ℕ). AtHome key n s.homes) hit (kept.at_home (λ e. idle (sym hit ∙ e))) in (
        record me.0 { step = after_look me.0.step (Took home.0) },
        takes 0 (Some home.0),
        ap (λ (hs : List (Option (std.Option (Levels T)))). get_elem? hs 0) home.1,
        on_owner key s 1 (set s.homes 0 none) _ kept (length-set s.homes 0 none ∙ kept.one_slot) (λ idle. absurd (idle refl)),
        ((λ e. (home.0, refl, subst (λ (k : OwnerKey K). IsAtHome (fits k.raw) k.limit old home.0) (sym own) home.2)), (λ miss. absurd (miss hit))),
      ))
      (λ miss. (
        record me.0 { step = after_look me.0.step (Saw found) },
        keeps,
        tt,
        unchanged key s _ kept,
        ((λ hit. absurd (miss hit)), (λ e. refl)),
      ))

  pub puts : (key : OwnerKey K) (slots id : ℕ) (me : Self K T) (new : ℕ) (l : Levels T) → me.1 ≡ (0, Some l) ∷ []
      → IsAtHome (fits key.raw) key.limit new l
      → Allows (IsOwnerTable fits key) slots id me 0 (λ _. new) (Puts me)
  puts key slots id me new l has home s kept same at small =
      let homes : put_back s.homes me.1 ≡ some (Some l) ∷ []
      = ap (put_back s.homes) has ∙ filled s.homes (Some l) kept.one_slot in (
        record me.0 { step = put_step me.0.step me.1 },
        gives,
        tt,
        on_owner key s new (put_back s.homes me.1) _ kept (ap length homes) (λ idle. (l, homes, home)),
        refl,
      )
