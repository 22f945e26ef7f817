-- The owner of a reentrant lock: what its levels show of the held entries, and which party may add a level.
use Rattle.std.proofs.Common.{◌≡◌, ◌≢◌, ℕ, ◌+◌, ◌-◌, ◌<◌, ◌≤◌, Bool, true, false, not, cond, nat_eq, List, [], ◌∷◌, length, refl, sym, ap, subst, ◌∙◌, Option, None, Some, Result, Ok, Err, is_none, arith}
use Rattle.std.specs.Prelude.{nat_lt, ◌&&◌, ◌||◌, ◌↔◌, IsSome, IfSome, IsErr, IfOk, MatchBool}
use Rattle.std.specs.Option.{option_map_or}
use Rattle.std.specs.Result.{result_unwrap_or}
use Rattle.std.proofs.lemmas.Bool.{eq-eqb, ne_eqb, eqb-true, eqb-false, lt-ltb, and_parts, and_right, not_from_true}
use Rattle.std.proofs.lemmas.List.{nil_from_length}
use Rattle.lock_modes.specs.declared.fault.Fault.{Fault}
use Rattle.lock_machine.specs.Entries.{Entry, all_of_party, some_of_party}
use Rattle.lock_modes.specs.Levels.{Levels, Owner, IsLawful, GainsLevel, level_of}
use Rattle.lock_desk.specs.Owners.{OwnsLevels, may_add_level, HasAddedLevel, one_level_less}

-- entries that all belong to one party all belong to another if the two are one
party_of_all : (q p : ℕ) (xs : List Entry) → 0 < length xs → all_of_party q xs ≡ true → all_of_party p xs ≡ nat_eq q p
party_of_all q p [] l a = absurd (omega arith)
party_of_all q p (x ∷ xs) l a =
    elim (nat_eq q p) as (λ b. nat_eq q p ≡ b → all_of_party p (x ∷ xs) ≡ b) [
      | true ↦ λ e. subst (λ r. all_of_party r (x ∷ xs) ≡ true) (eqb-true q p e) a
      | false ↦ λ e.
          let first : x.party ≡ q = eqb-true x.party q (and_parts (nat_eq x.party q) _ a).0 in
          let other : nat_eq x.party p ≡ false = ap (λ r. nat_eq r p) first ∙ e in
          rw other refl
    ] refl

some_of_all : (q p : ℕ) (xs : List Entry) → 0 < length xs → all_of_party q xs ≡ true → some_of_party p xs ≡ nat_eq q p
some_of_all q p [] l a = absurd (omega arith)
some_of_all q p (x ∷ xs) l a =
    let first : x.party ≡ q = eqb-true x.party q (and_parts (nat_eq x.party q) _ a).0 in
    rw first (rest_of xs (and_parts (nat_eq x.party q) _ a).1)
  where
    once_more : (b c : Bool) → b || c ≡ b → b || (b || c) ≡ b
    once_more true c h = refl
    once_more false c h = h

    or_false : (b : Bool) → b || false ≡ b
    or_false true = refl
    or_false false = refl

    rest_of : (xs : List Entry) → all_of_party q xs ≡ true → nat_eq q p || some_of_party p xs ≡ nat_eq q p
    rest_of [] a = or_false (nat_eq q p)
    rest_of (x ∷ xs) a =
        let next : x.party ≡ q = eqb-true x.party q (and_parts (nat_eq x.party q) _ a).0 in
        rw next (once_more (nat_eq q p) (some_of_party p xs) (rest_of xs (and_parts (nat_eq x.party q) _ a).1))

module _ {K : Type 0} where
  -- the levels of a party, by the owner
  abbrev pub count_for : ℕ → Option (Owner K) → ℕ
  count_for p owner = option_map_or (λ o. cond (nat_eq o.party p) o.count 0) owner 0

  -- What the levels show of the held entries

  pub owns_same : (owner : Option (Owner K)) (xs ys : List Entry) → OwnsLevels owner xs → length xs ≡ length ys
      → ((p : ℕ) → all_of_party p xs ≡ all_of_party p ys) → OwnsLevels owner ys
  owns_same None xs ys h l a = nil_from_length ys (sym l ∙ ap length h)
  owns_same (Some o) xs ys h l a = (h.0, sym l ∙ h.1, sym (a o.party) ∙ h.2)

  pub owns_less : (owner : Option (Owner K)) (q : ℕ) (xs ys : List Entry) → OwnsLevels owner xs
      → length xs ≡ 1 + length ys → ((p : ℕ) → all_of_party p xs ≡ nat_eq q p && all_of_party p ys)
      → OwnsLevels (one_level_less owner) ys
  owns_less None q xs ys h l a = absurd (omega (arith, ap length h))
  owns_less (Some o) q xs ys h l a = less_by (nat_eq o.count 1) refl
    where
      less_by : (b : Bool) → nat_eq o.count 1 ≡ b → OwnsLevels (cond b None (Some (record o { count = o.count - 1 }))) ys
      less_by true e = let one = eqb-true o.count 1 e in nil_from_length ys (omega (arith, h.1))
      less_by false e = let more = eqb-false o.count 1 e in (
        omega (arith, h.0),
        omega (arith, h.1, h.0),
        (and_parts (nat_eq q o.party) (all_of_party o.party ys) (sym (a o.party) ∙ h.2)).1,
      )

  pub owns_more : (limit party : ℕ) (owner new : Option (Owner K)) (xs ys : List Entry) → OwnsLevels owner xs
      → may_add_level limit party owner ≡ true → HasAddedLevel party owner new → length ys ≡ 1 + length xs
      → ((p : ℕ) → all_of_party p ys ≡ nat_eq party p && all_of_party p xs) → OwnsLevels new ys
  owns_more limit party None new xs ys h m e l a =
      let first : OwnsLevels (Some (record { party = party; count = 1; token = e.0 })) ys =
      (omega arith, omega (arith, ap length h), a party ∙ rw (eq-eqb party party refl, h) refl) in
      subst (λ w. OwnsLevels w ys) (sym e.1) first
  owns_more limit party (Some o) new xs ys h m e l a =
      let same : o.party ≡ party = eqb-true o.party party (and_parts (nat_eq o.party party) _ m).0 in
      let next : OwnsLevels (Some (record o { count = o.count + 1 })) ys =
      (omega arith, omega (arith, h.1), a o.party ∙ rw (eq-eqb party o.party (sym same), h.2) refl) in
      subst (λ w. OwnsLevels w ys) (sym e) next

  -- the party of a held entry has levels
  pub holder_owns : (owner : Option (Owner K)) (q : ℕ) (xs ys : List Entry) → OwnsLevels owner xs → 0 < length xs
      → ((p : ℕ) → all_of_party p xs ≡ nat_eq q p && all_of_party p ys) → count_for q owner ≡ length xs
  holder_owns None q xs ys h l a = absurd (omega (arith, ap length h))
  holder_owns (Some o) q xs ys h l a =
      let same : q ≡ o.party = eqb-true q o.party (and_parts (nat_eq q o.party) _ (sym (a o.party) ∙ h.2)).0 in
      rw (eq-eqb o.party q (sym same)) (sym h.1)

  -- the owner admits the parties that the held entries admit
  pub may_add_level-held : (limit party : ℕ) (owner : Option (Owner K)) (xs : List Entry) → 0 < limit → OwnsLevels owner xs
      → may_add_level limit party owner ≡ (all_of_party party xs && nat_lt (length xs) limit)
  may_add_level-held limit party None xs l h = sym (rw h (lt-ltb 0 limit l))
  may_add_level-held limit party (Some o) xs l h =
      sym (rw (party_of_all o.party party xs (omega (arith, h.0, h.1)) h.2, h.1) refl)

  pub levels_of_held : (party : ℕ) (owner : Option (Owner K)) (xs : List Entry) → OwnsLevels owner xs
      → not (nat_eq (count_for party owner) 0) ≡ some_of_party party xs
  levels_of_held party None xs h = sym (ap (λ w. some_of_party party w) h)
  levels_of_held party (Some o) xs h = by_party (nat_eq o.party party) refl
    where
      by_party : (b : Bool) → nat_eq o.party party ≡ b → not (nat_eq (cond b o.count 0) 0) ≡ some_of_party party xs
      by_party true e = ap not (ne_eqb o.count 0 (λ f. absurd (omega (arith, h.0))))
          ∙ sym (some_of_all o.party party xs (omega (arith, h.0, h.1)) h.2 ∙ e)
      by_party false e = sym (some_of_all o.party party xs (omega (arith, h.0, h.1)) h.2 ∙ e)

  pub full_of_held : (limit party : ℕ) (owner : Option (Owner K)) (xs : List Entry) → 0 < limit → OwnsLevels owner xs
      → nat_eq (count_for party owner) limit ≡ (some_of_party party xs && nat_eq (length xs) limit)
  full_of_held limit party None xs l h = ne_eqb 0 limit (λ f. absurd (omega arith)) ∙ sym (rw h refl)
  full_of_held limit party (Some o) xs l h = by_party (nat_eq o.party party) refl
    where
      by_party : (b : Bool) → nat_eq o.party party ≡ b → nat_eq (cond b o.count 0) limit ≡ (some_of_party party xs && nat_eq (length xs) limit)
      by_party true e = sym (rw (some_of_all o.party party xs (omega (arith, h.0, h.1)) h.2 ∙ e, h.1) refl)
      by_party false e = ne_eqb 0 limit (λ f. absurd (omega arith)) ∙ sym (rw (some_of_all o.party party xs (omega (arith, h.0, h.1)) h.2 ∙ e) refl)

  -- without an owner nothing is held, and the last level releases the token
  pub none_held : (owner : Option (Owner K)) (xs : List Entry) → OwnsLevels owner xs → is_none owner ≡ nat_eq (length xs) 0
  none_held None xs h = sym (rw h refl)
  none_held (Some o) xs h = sym (ne_eqb (length xs) 0 (λ f. absurd (omega (arith, h.0, h.1))))

  -- Which party `again` admits

  may_by : (limit p : ℕ) (owner : Option (Owner K)) → IsSome owner → IfSome owner (λ o. (0 < o.count) × (o.count ≤ limit))
      → may_add_level limit p owner ≡ (not (nat_eq (count_for p owner) 0) && not (nat_eq (count_for p owner) limit))
  may_by limit p None s h = cc
  may_by limit p (Some o) s h = by_party (nat_eq o.party p)
    where
      by_count : (b : Bool) → nat_eq o.count limit ≡ b → nat_lt o.count limit ≡ not b
      by_count true e = let same = eqb-true o.count limit e in rw same (not_below limit)
        where
          not_below : (n : ℕ) → nat_lt n n ≡ false
          not_below n = search arith
      by_count false e = let other = eqb-false o.count limit e in lt-ltb o.count limit (omega (arith, h.1))

      by_party : (b : Bool) → b && nat_lt o.count limit ≡ (not (nat_eq (cond b o.count 0) 0) && not (nat_eq (cond b o.count 0) limit))
      by_party true = by_count (nat_eq o.count limit) refl ∙ sym (rw (ne_eqb o.count 0 (λ f. absurd (omega (arith, h.0)))) refl)
      by_party false = refl

  -- an owned lock gives a further level to the parties that the owner admits
  pub again_admits : (l m : Levels K) (p : ℕ) (r : Result Bool Fault) → IsSome l.owner → IsLawful l
      → IsErr r ↔ (level_of l p ≡ l.limit) → IfOk r (λ more. MatchBool more (GainsLevel l m p) ((level_of l p ≡ 0) × (m ≡ l)))
      → result_unwrap_or r false ≡ may_add_level l.limit p l.owner
  again_admits l m p r owned lawful full more = by_answer r full more ∙ sym (may_by l.limit p l.owner owned lawful.1)
    where
      by_answer : (r : Result Bool Fault) → IsErr r ↔ (level_of l p ≡ l.limit)
          → IfOk r (λ more. MatchBool more (GainsLevel l m p) ((level_of l p ≡ 0) × (m ≡ l)))
          → result_unwrap_or r false ≡ (not (nat_eq (level_of l p) 0) && not (nat_eq (level_of l p) l.limit))
      by_answer (Ok true) full more =
          let below : level_of l p ≢ l.limit = λ e. let t = full.1 e in cc in
          sym (rw (ne_eqb (level_of l p) 0 (λ e. let h = more.owned in absurd (omega arith)), ne_eqb (level_of l p) l.limit below) refl)
      by_answer (Ok false) full more = sym (rw (more.0) refl)
      by_answer (Err f) full more =
          sym (and_right (not (nat_eq (level_of l p) 0)) (not (nat_eq (level_of l p) l.limit))
          (not_from_true (nat_eq (level_of l p) l.limit) (eq-eqb (level_of l p) l.limit (full.0 refl))))

-- what is not something is nothing
pub not_some : {X : Type 0} (o : Option X) → (IsSome o → false ≡ true) → o ≡ None
not_some None f = refl
not_some (Some x) f = let t = f refl in cc
