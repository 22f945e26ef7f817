-- The views in the rule, when one or two users change theirs.
use Rattle.std.proofs.Common.{◌≡◌, ◌≢◌, ℕ, zero, suc, ◌+◌, ◌<◌, ◌≤◌, List, [], ◌∷◌, ◌++◌, set, sym, refl, ap, ◌∙◌, arith, append_assoc}
use mathlib.Core.Option.{some, some-injective, some-ne-none}
use lib.ListN.{get_elem?}
use Rattle.lock_ruled.specs.declared.rule.UserView.{UserView}
use Rattle.lock_ruled.specs.Slots.{known_if, known_views, parts_of}

pub known_one : {V : Type 0} (n : ℕ) (v : V) → 0 < n → known_if n v ≡ v ∷ []
known_one zero v some_part = absurd (omega arith)
known_one (suc n) v some_part = refl

module _ {T V : Type 0} where
  abbrev pub known_of : UserView T V → List V
  known_of u = known_if u.parts u.own

  pub known_append : (us ws : List (UserView T V)) → known_views (us ++ ws) ≡ known_views us ++ known_views ws
  known_append [] ws = refl
  known_append (u ∷ us) ws =
      ap (λ (l : List V). known_of u ++ l) (known_append us ws)
      ∙ sym (append_assoc (known_of u) (known_views us) (known_views ws))

  pub parts_append : (us ws : List (UserView T V)) → parts_of (us ++ ws) ≡ parts_of us + parts_of ws
  parts_append [] ws = omega arith
  parts_append (u ∷ us) ws = let more = parts_append us ws in omega arith

  -- the views before and after those of one user
  pub record Around (us : List (UserView T V)) (id : ℕ) (u : UserView T V) : Type 0 where
    pub before : List V
    pub after : List V
    pub was : known_views us ≡ before ++ (known_of u ++ after)
    pub becomes : (w : UserView T V) → known_views (set us id w) ≡ before ++ (known_of w ++ after)
    pub parts : (w : UserView T V) → parts_of (set us id w) + u.parts ≡ parts_of us + w.parts

  pub around : (us : List (UserView T V)) (id : ℕ) (u : UserView T V) → get_elem? us id ≡ some u → Around us id u
  around [] id u at = absurd (some-ne-none u (sym at))
  around (x ∷ xs) zero u at =
      let is = some-injective x u at in
      record {
        before = [];
        after = known_views xs;
        was = ap (λ (y : UserView T V). known_of y ++ known_views xs) is;
        becomes = λ w. refl;
        parts = λ w. (let same = ap (λ (y : UserView T V). y.parts) is in omega arith);
      }
  around (x ∷ xs) (suc id) u at =
      let r = around xs id u at in
      let first = known_of x in
      record {
        before = first ++ r.before;
        after = r.after;
        was = ap (λ (l : List V). first ++ l) r.was ∙ sym (append_assoc first r.before _);
        becomes = λ w. ap (λ (l : List V). first ++ l) (r.becomes w) ∙ sym (append_assoc first r.before _);
        parts = λ w. (let more = r.parts w in omega arith);
      }

  -- the views before, between and after those of two users
  pub record Both (us : List (UserView T V)) (i j : ℕ) (u w : UserView T V) : Type 0 where
    pub before : List V
    pub between : List V
    pub after : List V
    pub was : known_views us ≡ before ++ (known_of u ++ (between ++ (known_of w ++ after)))
    pub becomes : (x y : UserView T V) → known_views (set (set us i x) j y) ≡ before ++ (known_of x ++ (between ++ (known_of y ++ after)))
    pub turned : (x y : UserView T V) → known_views (set (set us j y) i x) ≡ before ++ (known_of x ++ (between ++ (known_of y ++ after)))

  pub both_around : (us : List (UserView T V)) (i j : ℕ) (u w : UserView T V) → i < j → get_elem? us i ≡ some u
      → get_elem? us j ≡ some w → Both us i j u w
  both_around [] i j u w less at at' = absurd (some-ne-none u (sym at))
  both_around (x ∷ xs) zero zero u w less at at' = absurd (omega arith)
  both_around (x ∷ xs) (suc i) zero u w less at at' = absurd (omega arith)
  both_around (x ∷ xs) zero (suc j) u w less at at' =
      let is = some-injective x u at in
      let r = around xs j w at' in
      record {
        before = [];
        between = r.before;
        after = r.after;
        was = ap (λ (y : UserView T V). known_of y ++ known_views xs) is ∙ ap (λ (l : List V). known_of u ++ l) r.was;
        becomes = λ a b. ap (λ (l : List V). known_of a ++ l) (r.becomes b);
        turned = λ a b. ap (λ (l : List V). known_of a ++ l) (r.becomes b);
      }
  both_around (x ∷ xs) (suc i) (suc j) u w less at at' =
      let r = both_around xs i j u w (omega arith) at at' in
      let first = known_of x in
      record {
        before = first ++ r.before;
        between = r.between;
        after = r.after;
        was = ap (λ (l : List V). first ++ l) r.was ∙ sym (append_assoc first r.before _);
        becomes = λ a b. ap (λ (l : List V). first ++ l) (r.becomes a b) ∙ sym (append_assoc first r.before _);
        turned = λ a b. ap (λ (l : List V). first ++ l) (r.turned a b) ∙ sym (append_assoc first r.before _);
      }

  pub parts_at : (us : List (UserView T V)) (id : ℕ) (u : UserView T V) → get_elem? us id ≡ some u → u.parts ≤ parts_of us
  parts_at [] id u at = absurd (some-ne-none u (sym at))
  parts_at (x ∷ xs) zero u at = let same = ap (λ (y : UserView T V). y.parts) (some-injective x u at) in omega arith
  parts_at (x ∷ xs) (suc id) u at = let less = parts_at xs id u at in omega arith

  pub two_parts : (us : List (UserView T V)) (i j : ℕ) (u w : UserView T V) → i ≢ j → get_elem? us i ≡ some u
      → get_elem? us j ≡ some w → u.parts + w.parts ≤ parts_of us
  two_parts [] i j u w apart at at' = absurd (some-ne-none u (sym at))
  two_parts (x ∷ xs) zero zero u w apart at at' = absurd (apart refl)
  two_parts (x ∷ xs) zero (suc j) u w apart at at' =
      let same = ap (λ (y : UserView T V). y.parts) (some-injective x u at) in
      let less = parts_at xs j w at' in omega arith
  two_parts (x ∷ xs) (suc i) zero u w apart at at' =
      let same = ap (λ (y : UserView T V). y.parts) (some-injective x w at') in
      let less = parts_at xs i u at in omega arith
  two_parts (x ∷ xs) (suc i) (suc j) u w apart at at' =
      let less = two_parts xs i j u w (λ e. apart (ap suc e)) at at' in omega arith

  none_known : (us : List (UserView T V)) → parts_of us ≡ 0 → known_views us ≡ []
  none_known [] none = refl
  none_known (x ∷ xs) none =
      let here : x.parts ≡ 0 = omega arith in
      ap (λ (n : ℕ). known_if n x.own ++ known_views xs) here ∙ none_known xs (omega arith)

  -- a user with all parts has the only view in the rule
  pub alone : (us : List (UserView T V)) (id : ℕ) (u : UserView T V) → get_elem? us id ≡ some u → parts_of us ≡ u.parts
      → 0 < u.parts → known_views us ≡ u.own ∷ []
  alone [] id u at all some_part = absurd (some-ne-none u (sym at))
  alone (x ∷ xs) zero u at all some_part =
      let is = some-injective x u at in
      let same = ap (λ (y : UserView T V). y.parts) is in
      let none : parts_of xs ≡ 0 = omega arith in
      ap (λ (y : UserView T V). known_of y ++ known_views xs) is
      ∙ (ap (λ (l : List V). l ++ known_views xs) (known_one u.parts u.own some_part)
      ∙ ap (λ (l : List V). u.own ∷ l) (none_known xs none))
  alone (x ∷ xs) (suc id) u at all some_part =
      let less = parts_at xs id u at in
      let here : x.parts ≡ 0 = omega arith in
      ap (λ (n : ℕ). known_if n x.own ++ known_views xs) here ∙ alone xs id u at (omega arith) some_part

pub set_at : {A : Type 0} (xs : List A) (i : ℕ) (a b : A) → get_elem? xs i ≡ some a → get_elem? (set xs i b) i ≡ some b
set_at [] i a b at = absurd (some-ne-none a (sym at))
set_at (x ∷ xs) zero a b at = refl
set_at (x ∷ xs) (suc i) a b at = set_at xs i a b at
