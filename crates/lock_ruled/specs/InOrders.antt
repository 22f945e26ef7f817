-- What the users of a queue do keeps its rule.
use Rattle.std.proofs.Common.{◌≡◌, ℕ, ◌+◌, ◌<◌, ◌≤◌, List, [], ◌∷◌, ◌++◌, length, sum_by, sym, ap, refl, ◌∙◌, append_assoc, append-nil, length-append, ◌⊎◌, inl, inr, arith}
use Rattle.std.specs.Prelude.{flat_map}
use Rattle.std.proofs.lemmas.List.Concat.{flat_map-append}
use Rattle.std.proofs.lemmas.List.Sums.{sum_by-cons}
use mathlib.Core.Logic.{dite}
use native.Mathlib.Decide.{ℕ_discrete}
use Rattle.lock_ruled.specs.EachView.{Each}
use Rattle.lock_ruled.specs.EachViews.{cut, replaced, divided, united_first, united_second}
use Rattle.lock_ruled.specs.declared.in_order.Log.{Log}
use Rattle.lock_ruled.specs.InOrder.{IsOne, IsInOrder, later, Passes, IsDivided, IsUnited, EndsWith, IsWhole}
use Rattle.lock_ruled.specs.Ruled.{Meets, Keeps, Splits, Joins}
use Rattle.lock_ruled.specs.Sums.{around, around_two, with_last, between_first, between_second}

module _ {V X : Type 0} (has : V → ℕ) (did : V → List X) where
  abbrev Fits : V → Type 0
  Fits v = has v ≡ 0 → did v ≡ []

  abbrev all : List V → List X
  all vs = flat_map did vs

  -- users without the end did nothing there
  nothing : (vs : List V) → sum_by has vs ≡ 0 → Each Fits vs → all vs ≡ []
  nothing [] none fits = refl
  nothing (v ∷ vs) none fits =
      let sum = sum_by-cons has v vs in
      let here : did v ≡ [] = fits.0 (omega arith) in
      let rest = nothing vs (omega arith) fits.1 in
      ap (λ (l : List X). l ++ all vs) here ∙ rest

  at : (before after : List V) (v : V) → all (before ++ v ∷ after) ≡ all before ++ (did v ++ all after)
  at before after v = flat_map-append did before (v ∷ after)

  at_two : (before between after : List V) (v w : V)
      → all (before ++ v ∷ (between ++ w ∷ after)) ≡ all before ++ (did v ++ (all between ++ (did w ++ all after)))
  at_two before between after v w = at before (between ++ w ∷ after) v ∙ ap (λ (l : List X). all before ++ (did v ++ l)) (at between after w)

  at_gap : (before between after : List V) (v : V)
      → all (before ++ v ∷ (between ++ after)) ≡ all before ++ (did v ++ (all between ++ all after))
  at_gap before between after v = at before (between ++ after) v ∙ ap (λ (l : List X). all before ++ (did v ++ l)) (flat_map-append did between after)

  at_later : (before between after : List V) (v : V)
      → all (before ++ (between ++ v ∷ after)) ≡ all before ++ (all between ++ (did v ++ all after))
  at_later before between after v = flat_map-append did before (between ++ v ∷ after) ∙ ap (λ (l : List X). all before ++ l) (at between after v)

  -- of a user: who comes before it and after it did nothing, or it did nothing itself
  record Place (before after : List V) (v : V) : Type 0 where
    fits : Fits v
    others : 0 < has v → (all before ≡ []) × (all after ≡ [])

  place : (before after : List V) (v : V) → IsOne has did (before ++ v ∷ after) → Place before after v
  place before after v one =
      let parts = cut Fits before (v ∷ after) one.1 in
      let sum = around has before after v in
      let total = one.0 in
      record {
        fits = parts.1.0;
        others = λ some. (nothing before (omega arith) parts.0, nothing after (omega arith) parts.1.1);
      }

  abbrev One : List V → Type 0
  One vs = IsOne has did vs

  grown_lists : (B A d d' a : List X) → (d ≡ []) × (a ≡ []) ⊎ (B ≡ []) × (A ≡ []) → d' ≡ d ++ a → B ++ (d' ++ A) ≡ (B ++ (d ++ A)) ++ a
  grown_lists B A d d' a (inl e) is = rw (is, e.0, e.1) (sym (append-nil (B ++ A)))
  grown_lists B A d d' a (inr e) is = rw (is, e.0, e.1, append-nil (d ++ a), append-nil d) refl

  -- a user did more
  grown : (before after : List V) (v v' : V) (more : List X) → One (before ++ v ∷ after) → has v' ≡ has v → did v' ≡ did v ++ more
      → (has v ≡ 0 → more ≡ []) → One (before ++ v' ∷ after) × (all (before ++ v' ∷ after) ≡ all (before ++ v ∷ after) ++ more)
  grown before after v v' more one same is none =
      let p = place before after v one in
      let total = one.0 in (
        (
          omega (arith, around has before after v, around has before after v'),
          replaced Fits Fits (λ w f. f) before after v v' (λ f zero'. (let z : has v ≡ 0 = omega arith in is ∙ rw (f z, none z) refl)) one.1,
        ),
        at before after v'
            ∙ (grown_lists (all before) (all after) (did v) (did v') more
            (dite (ℕ_discrete (has v) 0) (λ z. inl (p.fits z, none z)) (λ some. inr (p.others (omega arith)))) is
            ∙ ap (λ (l : List X). l ++ more) (sym (at before after v))),
      )

  divided_lists : (B A d l r : List X) → (d ≡ []) × (l ≡ []) × (r ≡ []) ⊎ (B ≡ []) × (A ≡ []) → l ++ r ≡ d → B ++ (l ++ (A ++ (r ++ []))) ≡ B ++ (d ++ A)
  divided_lists B A d l r (inl e) is = rw (e.0, e.1, e.2, append-nil A) refl
  divided_lists B A d l r (inr e) is = rw (e.0, e.1, append-nil r, append-nil d) is

  -- one user becomes two, the second of which comes last
  parted : (before after : List V) (v x y : V) → One (before ++ v ∷ after) → has x + has y ≡ has v → did x ++ did y ≡ did v → Fits x → Fits y
      → One (before ++ x ∷ (after ++ y ∷ [])) × (all (before ++ x ∷ (after ++ y ∷ [])) ≡ all (before ++ v ∷ after))
  parted before after v x y one shares is fits fits' =
      let p = place before after v one in
      let total = one.0 in (
        (
          omega (arith, around has before after v, with_last has before after x y),
          divided Fits Fits (λ w f. f) before after v x y (λ _. fits) (λ _. fits') one.1,
        ),
        at_two before after [] x y
            ∙ (divided_lists (all before) (all after) (did v) (did x) (did y)
            (dite (ℕ_discrete (has v) 0) (λ z. inl (p.fits z, fits (omega arith), fits' (omega arith))) (λ some. inr (p.others (omega arith)))) is
            ∙ sym (at before after v)),
      )

  -- what two users did, of whom at most one has the end
  either_order : (v w : V) → has v + has w ≤ 1 → Fits v → Fits w → did v ++ did w ≡ did w ++ did v
  either_order v w few fits fits' =
      dite (ℕ_discrete (has v) 0) (λ z. rw (fits z, append-nil (did w)) refl)
      (λ some. rw (fits' (omega arith), append-nil (did v)) refl)

  united_lists : (B M A c d : List X) → (c ≡ []) × (d ≡ []) ⊎ (B ≡ []) × (M ≡ []) × (A ≡ [])
      → B ++ (c ++ (M ++ (d ++ A))) ≡ B ++ ((c ++ d) ++ (M ++ A))
  united_lists B M A c d (inl e) = rw (e.0, e.1) refl
  united_lists B M A c d (inr e) = rw (e.0, e.1, e.2, append-nil d, append-nil (c ++ d)) refl

  later_lists : (B M A c d : List X) → (c ≡ []) × (d ≡ []) ⊎ (B ≡ []) × (M ≡ []) × (A ≡ [])
      → B ++ (c ++ (M ++ (d ++ A))) ≡ B ++ (M ++ ((c ++ d) ++ A))
  later_lists B M A c d (inl e) = rw (e.0, e.1) refl
  later_lists B M A c d (inr e) = rw (e.0, e.1, e.2, append-nil d, append-nil (c ++ d)) refl

  -- of two users: the others did nothing, or these two
  record Places (before between after : List V) (v w : V) : Type 0 where
    fits : Fits v
    fits' : Fits w
    few : has v + has w ≤ 1
    one_side : (did v ≡ []) × (did w ≡ []) ⊎ (all before ≡ []) × (all between ≡ []) × (all after ≡ [])

  places : (before between after : List V) (v w : V) → One (before ++ v ∷ (between ++ w ∷ after)) → Places before between after v w
  places before between after v w one =
      let parts = cut Fits before (v ∷ (between ++ w ∷ after)) one.1 in
      let rest = cut Fits between (w ∷ after) parts.1.1 in
      let sum = around_two has before between after v w in
      let total = one.0 in
      record {
        fits = parts.1.0;
        fits' = rest.1.0;
        few = omega arith;
        one_side = dite (ℕ_discrete (has v + has w) 0) (λ z. inl (parts.1.0 (omega arith), rest.1.0 (omega arith)))
            (λ some. inr (nothing before (omega arith) parts.0, nothing between (omega arith) rest.0, nothing after (omega arith) rest.1.1));
      }

  -- two users become one, in the place of the first or of the second
  merged_first : (before between after : List V) (v w x : V) → One (before ++ v ∷ (between ++ w ∷ after)) → has x ≡ has v + has w
      → did x ≡ did v ++ did w
      → One (before ++ x ∷ (between ++ after)) × (all (before ++ x ∷ (between ++ after)) ≡ all (before ++ v ∷ (between ++ w ∷ after)))
  merged_first before between after v w x one shares is =
      let p = places before between after v w one in
      let total = one.0 in (
        (
          omega (arith, around_two has before between after v w, between_first has before between after x),
          united_first Fits Fits (λ u f. f) before between after v w x (λ f f' z. is ∙ rw (f (omega arith), f' (omega arith)) refl) one.1,
        ),
        at_gap before between after x
            ∙ (ap (λ (l : List X). all before ++ (l ++ (all between ++ all after))) is
            ∙ (sym (united_lists (all before) (all between) (all after) (did v) (did w) p.one_side) ∙ sym (at_two before between after v w))),
      )

  merged_later : (before between after : List V) (v w x : V) → One (before ++ v ∷ (between ++ w ∷ after)) → has x ≡ has w + has v
      → did x ≡ did w ++ did v
      → One (before ++ (between ++ x ∷ after)) × (all (before ++ (between ++ x ∷ after)) ≡ all (before ++ v ∷ (between ++ w ∷ after)))
  merged_later before between after v w x one shares is =
      let p = places before between after v w one in
      let total = one.0 in (
        (
          omega (arith, around_two has before between after v w, between_second has before between after x),
          united_second Fits Fits (λ u f. f) before between after v w x (λ f f' z. is ∙ rw (f (omega arith), f' (omega arith)) refl) one.1,
        ),
        at_later before between after x
            ∙ (ap (λ (l : List X). all before ++ (all between ++ (l ++ all after))) (is ∙ sym (either_order v w p.few p.fits p.fits'))
            ∙ (sym (later_lists (all before) (all between) (all after) (did v) (did w) p.one_side) ∙ sym (at_two before between after v w))),
      )

module _ {X : Type 0} where
  abbrev pushes : Log X → ℕ
  pushes log = log.pushes

  abbrev pops : Log X → ℕ
  pops log = log.pops

  abbrev pushed : Log X → List X
  pushed log = log.pushed

  abbrev popped : Log X → List X
  popped log = log.popped

  -- more items come in at one end, and go out at the other
  through : (P Q items items' more less : List X) → P ≡ Q ++ items → items ++ more ≡ less ++ items' → P ++ more ≡ (Q ++ less) ++ items'
  through P Q items items' more less was moves =
      ap (λ (l : List X). l ++ more) was
      ∙ (append_assoc Q items more ∙ (ap (λ (l : List X). Q ++ l) moves ∙ sym (append_assoc Q less items')))

  -- who took out as many as were put in took out all
  all_out : (P Q items : List X) → P ≡ Q ++ items → length Q ≡ length P → Q ≡ P
  all_out P Q [] is same = sym (append-nil Q) ∙ sym is
  all_out P Q (x ∷ items) is same =
      let long : length P ≡ length (Q ++ x ∷ items) = ap length is in
      absurd (omega (arith, long, length-append Q (x ∷ items)))

module _ {T X : Type 0} (items_of : T → List X) where
  abbrev Rule : T → List (Log X) → Type 0
  Rule value logs = IsInOrder (items_of value) logs

  pub passes_keep : (value : T) (log : Log X) (value' : T) (log' : Log X) → Passes (items_of value) log (items_of value') log'
      → Keeps Rule value log value' log'
  passes_keep value log value' log' passes before after rule =
      let put = grown pushes pushed before after log log' (later log.pushed log'.pushed) rule.0 passes.0 passes.2.0 passes.2.1 in
      let out = grown pops popped before after log log' (later log.popped log'.popped) rule.1 passes.1 passes.3.0 passes.3.1 in (
        put.0,
        out.0,
        put.1
            ∙ (through (flat_map pushed (before ++ log ∷ after)) (flat_map popped (before ++ log ∷ after)) (items_of value) (items_of value')
            (later log.pushed log'.pushed) (later log.popped log'.popped) rule.2 passes.4
            ∙ ap (λ (l : List X). l ++ items_of value') (sym out.1)),
      )

  same_items : (P P' Q Q' items : List X) → P' ≡ P → Q' ≡ Q → P ≡ Q ++ items → P' ≡ Q' ++ items
  same_items P P' Q Q' items puts outs is = puts ∙ (is ∙ ap (λ (l : List X). l ++ items) (sym outs))

  pub divisions_keep : (log left right : Log X) → IsDivided log left right → Splits Rule log left right
  divisions_keep log left right d value before after rule =
      let put = parted pushes pushed before after log left right rule.0 d.0.0 d.0.1 d.0.2 d.0.3 in
      let out = parted pops popped before after log left right rule.1 d.1.0 d.1.1 d.1.2 d.1.3 in
      (put.0, out.0, same_items _ _ _ _ _ put.1 out.1 rule.2)

  pub unions_keep : (log other both : Log X) → IsUnited log other both → Joins Rule log other both
  unions_keep log other both is =
      record {
        earlier = λ value before between after rule.
            (let put = merged_first pushes pushed before between after log other both rule.0 (ap pushes is) (ap pushed is) in
            let out = merged_first pops popped before between after log other both rule.1 (ap pops is) (ap popped is) in
            (put.0, out.0, same_items _ _ _ _ _ put.1 out.1 rule.2));
        later = λ value before between after rule.
            (let put = merged_later pushes pushed before between after other log both rule.0 (ap pushes is) (ap pushed is) in
            let out = merged_later pops popped before between after other log both rule.1 (ap pops is) (ap popped is) in
            (put.0, out.0, same_items _ _ _ _ _ put.1 out.1 rule.2));
      }

  pub met_items : (value : T) (log : Log X) → Meets Rule value log → EndsWith (items_of value) log
  met_items value log met some =
      let before = met.0 in
      let after = met.1 in
      let rule = met.2 in
      let p = place pushes pushed before after log rule.0 in
      let others = p.others some in
      let alone : flat_map pushed (before ++ log ∷ after) ≡ log.pushed
      = at pushes pushed before after log ∙ rw (others.0, others.1, append-nil log.pushed) refl in
      (flat_map popped (before ++ log ∷ after), sym alone ∙ rule.2)

  pub last_items : (value : T) (log : Log X) → Rule value (log ∷ []) → IsWhole (items_of value) log
  last_items value log rule =
      let is : log.pushed ≡ log.popped ++ items_of value
      = sym (append-nil log.pushed) ∙ (rule.2 ∙ ap (λ (l : List X). l ++ items_of value) (append-nil log.popped)) in
      (is, all_out log.pushed log.popped (items_of value) is)
