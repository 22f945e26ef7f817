-- Rows whose numbers rise, and their items.
use Rattle.std.proofs.Common.{◌≡◌, ◌≢◌, ℕ, zero, suc, ◌+◌, ◌<◌, ◌≤◌, List, [], ◌∷◌, ◌++◌, length, set, get_or, append_assoc, is_some, Bool, true, false, cond, nat_eq, refl, sym, ap, ◌∙◌, Option, None, Some, arith}
use Rattle.std.proofs.lemmas.Bool.{eq-eqb, ne_eqb}
use Rattle.std.specs.List.{filter}
use Rattle.lock_slots.specs.declared.row.Row.{Row}
use Rattle.lock_slots.specs.Items.{find, without, put}
use Rattle.lock_slots.specs.Rows.{item_under, items_of, AreRising, number_at, NoRow, IsRow, with_item}

module _ {X : Type 0} where
  pub number_at_or : (rows : List (Row X)) (i : ℕ) (r : Row X) → i < length rows → number_at rows i ≡ (get_or rows i r).number
  number_at_or [] i r l = absurd (omega arith)
  number_at_or (q ∷ rows) zero r l = refl
  number_at_or (q ∷ rows) (suc i) r l = number_at_or rows i r (omega arith)

  pub number_at-get : (rows : List (Row X)) (i : ℕ) (r : Row X) → i < length rows → r ≡ get_or rows i r → number_at rows i ≡ r.number
  number_at-get rows i r l e = number_at_or rows i r l ∙ sym (ap (λ (w : Row X). w.number) e)

  pub above_low : (low high : ℕ) (rows : List (Row X)) → AreRising low rows high → (i : ℕ) → i < length rows → low < number_at rows i
  above_low low high [] h i l = absurd (omega arith)
  above_low low high (r ∷ rows) h zero l = h.0
  above_low low high (r ∷ rows) h (suc i) l = let k = above_low r.number high rows h.1 i (omega arith) in omega (arith, h.0)

  pub rises : (low high : ℕ) (rows : List (Row X)) → AreRising low rows high → (i j : ℕ) → i < j → j < length rows
      → number_at rows i < number_at rows j
  rises low high [] h i j l m = absurd (omega arith)
  rises low high (r ∷ rows) h i zero l m = absurd (omega arith)
  rises low high (r ∷ rows) h zero (suc j) l m = above_low r.number high rows h.1 j (omega arith)
  rises low high (r ∷ rows) h (suc i) (suc j) l m = rises r.number high rows h.1 i j (omega arith) (omega arith)

  pub below_middle : (low high : ℕ) (rows : List (Row X)) → AreRising low rows high → (n i : ℕ) → i < length rows
      → number_at rows i < n → (k : ℕ) → k < i + 1 → number_at rows k < n
  below_middle low high rows h n i l e k m =
      let up : k < i → number_at rows k < number_at rows i = λ lt. rises low high rows h k i lt l in
      let same : k ≡ i → number_at rows k ≡ number_at rows i = λ eq. ap (number_at rows) eq in
      grind (arith, up, same)

  pub above_middle : (low high : ℕ) (rows : List (Row X)) → AreRising low rows high → (n i : ℕ) → i < length rows
      → n < number_at rows i → (k : ℕ) → i ≤ k → k < length rows → n < number_at rows k
  above_middle low high rows h n i l e k m b =
      let up : i < k → number_at rows i < number_at rows k = λ lt. rises low high rows h i k lt b in
      let same : k ≡ i → number_at rows k ≡ number_at rows i = λ eq. ap (number_at rows) eq in
      grind (arith, up, same)

  pub none_by : (item : Option X) → is_some item ≡ false → item ≡ None
  none_by None e = refl
  none_by (Some x) e = cc

  pub rising_more : (low high more : ℕ) (rows : List (Row X)) → AreRising low rows high → high ≤ more → AreRising low rows more
  rising_more low high more [] h l = omega arith
  rising_more low high more (r ∷ rows) h l = (h.0, rising_more r.number high more rows h.1 l)

  pub rising_lower : (low high less : ℕ) (rows : List (Row X)) → AreRising low rows high → less ≤ low → AreRising less rows high
  rising_lower low high less [] h l = omega arith
  rising_lower low high less (r ∷ rows) h l = (omega (arith, h.0), h.1)

  pub rising_push : (low high n : ℕ) (rows : List (Row X)) (item : Option X) → AreRising low rows high → high < n
      → AreRising low (rows ++ record { number = n; item = item } ∷ []) n
  rising_push low high n [] item h l = (omega arith, omega arith)
  rising_push low high n (r ∷ rows) item h l = (h.0, rising_push r.number high n rows item h.1 l)

  pub rising_filter : (p : Row X → Bool) (low high : ℕ) (rows : List (Row X)) → AreRising low rows high → AreRising low (filter p rows) high
  rising_filter p low high [] h = h
  rising_filter p low high (r ∷ rows) h =
      let rest : AreRising r.number (filter p rows) high = rising_filter p r.number high rows h.1 in
      elim (p r) as (λ b. AreRising low (cond b (r ∷ filter p rows) (filter p rows)) high) [
        | true ↦ (h.0, rest)
        | false ↦ rising_lower r.number high low (filter p rows) rest (omega (arith, h.0))
      ]

  pub rising_set : (low high : ℕ) (rows : List (Row X)) (i : ℕ) (r : Row X) → AreRising low rows high
      → number_at rows i ≡ r.number → AreRising low (set rows i r) high
  rising_set low high [] i r h e = h
  rising_set low high (q ∷ rows) zero r h e = (rw (sym e) h.0, rw (sym e) h.1)
  rising_set low high (q ∷ rows) (suc i) r h e = (h.0, rising_set q.number high rows i r h.1 e)

  pub items_of-append : (rows more : List (Row X)) → items_of (rows ++ more) ≡ items_of rows ++ items_of more
  items_of-append [] more = refl
  items_of-append (r ∷ rows) more =
      ap (λ w. item_under r.number r.item ++ w) (items_of-append rows more)
      ∙ sym (append_assoc (item_under r.number r.item) (items_of rows) (items_of more))

  pub items_of-filter : (rows : List (Row X)) → items_of (filter (λ r. is_some r.item) rows) ≡ items_of rows
  items_of-filter [] = refl
  items_of-filter (r ∷ rows) =
      elim (is_some r.item) as (λ b. is_some r.item ≡ b
      → items_of (cond b (r ∷ filter (λ r. is_some r.item) rows) (filter (λ r. is_some r.item) rows))
      ≡ item_under r.number r.item ++ items_of rows) [
        | true ↦ λ e. ap (λ w. item_under r.number r.item ++ w) (items_of-filter rows)
        | false ↦ λ e. items_of-filter rows ∙ ap (λ w. item_under r.number w ++ items_of rows) (sym (none_by r.item e))
      ] refl

  item_length : (n : ℕ) (item : Option X) → is_some item ≡ true → (es : List (ℕ × X)) → length (item_under n item ++ es) ≡ suc (length es)
  item_length n None e es = cc
  item_length n (Some x) e es = refl

  pub length-filter : (rows : List (Row X)) → length (filter (λ r. is_some r.item) rows) ≡ length (items_of (filter (λ r. is_some r.item) rows))
  length-filter [] = refl
  length-filter (r ∷ rows) =
      elim (is_some r.item) as (λ b. is_some r.item ≡ b
      → length (cond b (r ∷ filter (λ r. is_some r.item) rows) (filter (λ r. is_some r.item) rows))
      ≡ length (items_of (cond b (r ∷ filter (λ r. is_some r.item) rows) (filter (λ r. is_some r.item) rows)))) [
        | true ↦ λ e. ap suc (length-filter rows) ∙ sym (item_length r.number r.item e (items_of (filter (λ r. is_some r.item) rows)))
        | false ↦ λ e. length-filter rows
      ] refl

  pub items_of-push : (rows : List (Row X)) (n : ℕ) (item : X)
      → items_of (rows ++ record { number = n; item = Some item } ∷ []) ≡ items_of rows ++ (n, item) ∷ []
  items_of-push rows n item = items_of-append rows (record { number = n; item = Some item } ∷ [])

  find_other : (n number : ℕ) (item : Option X) (es : List (ℕ × X)) → number ≢ n → find n (item_under number item ++ es) ≡ find n es
  find_other n number None es d = refl
  find_other n number (Some x) es d = rw (ne_eqb number n d) refl

  find_here : (n number : ℕ) (item : Option X) (es : List (ℕ × X)) → number ≡ n → find n es ≡ None → find n (item_under number item ++ es) ≡ item
  find_here n number None es e h = h
  find_here n number (Some x) es e h = rw (eq-eqb number n e) refl

  pub find_none : (n : ℕ) (rows : List (Row X)) → NoRow n rows → find n (items_of rows) ≡ None
  find_none n [] h = refl
  find_none n (r ∷ rows) h = find_other n r.number r.item (items_of rows) (h 0 (omega arith)) ∙ find_none n rows (λ k l. h (suc k) (omega arith))

  -- the item of a row is the one under its number
  pub find_row : (low high : ℕ) (rows : List (Row X)) → AreRising low rows high → (n i : ℕ) (r : Row X)
      → IsRow n rows i → r ≡ get_or rows i r → find n (items_of rows) ≡ r.item
  find_row low high [] h n i r at e = absurd (let l = at.inside in omega arith)
  find_row low high (q ∷ rows) h n zero r at e =
      find_here n q.number q.item (items_of rows) at.number_is
      (find_none n rows (λ k l f. let up = above_low q.number high rows h.1 k l in absurd (omega (arith, at.number_is))))
      ∙ ap (λ (w : Row X). w.item) (sym e)
  find_row low high (q ∷ rows) h n (suc i) r at e =
      let l : i < length rows = let m = at.inside in omega arith in
      let up = above_low q.number high rows h.1 i l in
      let is = at.number_is in
      find_other n q.number q.item (items_of rows) (λ f. absurd (omega arith))
      ∙ find_row q.number high rows h.1 n i r (record { inside = l; number_is = is }) e

  without_other : (n number : ℕ) (item : Option X) (es : List (ℕ × X)) → number ≢ n
      → without n (item_under number item ++ es) ≡ item_under number item ++ without n es
  without_other n number None es d = refl
  without_other n number (Some x) es d = rw (ne_eqb number n d) refl

  put_other : (n number : ℕ) (item : Option X) (new : X) (es : List (ℕ × X)) → number ≢ n
      → put n new (item_under number item ++ es) ≡ item_under number item ++ put n new es
  put_other n number None new es d = refl
  put_other n number (Some x) new es d = rw (ne_eqb number n d) refl

  -- the row of a number is removed
  pub without_row : (low high : ℕ) (rows : List (Row X)) → AreRising low rows high → (n i : ℕ) (r gone : Row X) (item : X)
      → IsRow n rows i → r ≡ get_or rows i r → r.item ≡ Some item → gone.item ≡ None
      → items_of (set rows i gone) ≡ without n (items_of rows)
  without_row low high [] h n i r gone item at e some none = absurd (let l = at.inside in omega arith)
  without_row low high (q ∷ rows) h n zero r gone item at e some none =
      let here : q.item ≡ Some item = ap (λ (w : Row X). w.item) (sym e) ∙ some in
      rw (none, here, eq-eqb q.number n at.number_is) refl
  without_row low high (q ∷ rows) h n (suc i) r gone item at e some none =
      let l : i < length rows = let m = at.inside in omega arith in
      let up = above_low q.number high rows h.1 i l in
      let is = at.number_is in
      ap (λ w. item_under q.number q.item ++ w) (without_row q.number high rows h.1 n i r gone item (record { inside = l; number_is = is }) e some none)
      ∙ sym (without_other n q.number q.item (items_of rows) (λ f. absurd (omega arith)))

  -- the row of a number has another item
  pub put_row : (low high : ℕ) (rows : List (Row X)) → AreRising low rows high → (n i : ℕ) (r : Row X) (item new : X)
      → IsRow n rows i → r ≡ get_or rows i r → r.item ≡ Some item
      → items_of (set rows i (with_item r new)) ≡ put n new (items_of rows)
  put_row low high [] h n i r item new at e some = absurd (let l = at.inside in omega arith)
  put_row low high (q ∷ rows) h n zero r item new at e some =
      let here : q.item ≡ Some item = ap (λ (w : Row X). w.item) (sym e) ∙ some in
      let same : r.number ≡ q.number = ap (λ (w : Row X). w.number) e in
      rw (here, eq-eqb q.number n at.number_is, same) refl
  put_row low high (q ∷ rows) h n (suc i) r item new at e some =
      let l : i < length rows = let m = at.inside in omega arith in
      let up = above_low q.number high rows h.1 i l in
      let is = at.number_is in
      ap (λ w. item_under q.number q.item ++ w) (put_row q.number high rows h.1 n i r item new (record { inside = l; number_is = is }) e some)
      ∙ sym (put_other n q.number q.item new (items_of rows) (λ f. absurd (omega arith)))

  pub length-without : (n : ℕ) (es : List (ℕ × X)) → is_some (find n es) ≡ true → length (without n es) + 1 ≡ length es
  length-without n [] h = cc
  length-without n (e ∷ es) h =
      elim (nat_eq e.0 n) as (λ b. is_some (cond b (Some e.1) (find n es)) ≡ true → length (cond b es (e ∷ without n es)) + 1 ≡ suc (length es)) [
        | true ↦ λ h. omega arith
        | false ↦ λ h. let k = length-without n es h in omega arith
      ] h

  pub length-put : (n : ℕ) (new : X) (es : List (ℕ × X)) → length (put n new es) ≡ length es
  length-put n new [] = refl
  length-put n new (e ∷ es) =
      elim (nat_eq e.0 n) as (λ b. length (cond b ((e.0, new) ∷ es) (e ∷ put n new es)) ≡ suc (length es)) [
        | true ↦ refl
        | false ↦ ap suc (length-put n new es)
      ]
