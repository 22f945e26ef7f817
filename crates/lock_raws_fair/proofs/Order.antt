-- The tickets that wait rise, and each other issued ticket was removed.
use Rattle.std.proofs.Common.{◌≡◌, ℕ, ◌+◌, ◌<◌, ◌≤◌, Bool, true, false, ◌||◌, List, [], ◌∷◌, ◌++◌, refl, sym, ap, ◌∙◌, arith}
use Rattle.std.specs.Prelude.{◌≢◌, ◌==◌, if◌then◌else◌, IsTrue, ⊤}
use Rattle.std.proofs.lemmas.Bool.{false≢true, or_right, or_left, or_parts, or_from}
use Rattle.std.proofs.lemmas.Bool.Decides.{nat_tests}
use Rattle.lock_raws_fair.specs.declared.line.step.LineStep.{LineStep}
use Rattle.lock_raws_fair.specs.declared.line.step.LineStep.TheVariants.{Arrive, Enter, Leave, Pass}
use Rattle.lock_raws_fair.specs.Tickets.{Line, empty_line, leads, is_among, without, permits, line_after}
use Rattle.lock_raws_fair.specs.LineLaws.{removes}

or_more : (a b c : Bool) → (b ≡ true → c ≡ true) → (a || b) ≡ true → (a || c) ≡ true
or_more true b c more is = refl
or_more false b c more is = more is

abbrev pub IsRising : ℕ → List ℕ → Type 0
IsRising n [] = ⊤
IsRising n (x ∷ xs) = (n ≤ x) × IsRising (x + 1) xs

pub rising_least : (n : ℕ) (xs : List ℕ) (s : ℕ) → IsRising n xs → is_among xs s ≡ true → n ≤ s
rising_least n [] s rising among = absurd (false≢true among)
rising_least n (x ∷ xs) s rising among =
    let rest : is_among xs s ≡ true → x + 1 ≤ s = λ (a : is_among xs s ≡ true). rising_least (x + 1) xs s rising.1 a in
    let lower = rising.0 in
    grind (arith, nat_tests)

pub rising_first : (n : ℕ) (xs : List ℕ) (t s : ℕ) → IsRising n xs → leads xs t ≡ true → is_among xs s ≡ true → t ≤ s
rising_first n [] t s rising leading among = absurd (false≢true leading)
rising_first n (x ∷ xs) t s rising leading among =
    let rest : is_among xs s ≡ true → x + 1 ≤ s = λ (a : is_among xs s ≡ true). rising_least (x + 1) xs s rising.1 a in
    grind (arith, nat_tests)

pub leads_among : (xs : List ℕ) (t : ℕ) → leads xs t ≡ true → is_among xs t ≡ true
leads_among [] t leading = leading
leads_among (x ∷ xs) t leading = rw leading refl

pub rising_lower : (m n : ℕ) (xs : List ℕ) → m ≤ n → IsRising n xs → IsRising m xs
rising_lower m n [] below rising = rising
rising_lower m n (x ∷ xs) below rising = (omega (arith, rising.0), rising.1)

pub rising_without : (n t : ℕ) (xs : List ℕ) → IsRising n xs → IsRising n (without t xs)
rising_without n t [] rising = rising
rising_without n t (x ∷ xs) rising =
    let rest = rising_without (x + 1) t xs rising.1 in
    elim (x == t) as (λ (b : Bool). IsRising n (if b then without t xs else x ∷ without t xs))
    [ true ↦ rising_lower n (x + 1) (without t xs) (omega (arith, rising.0)) rest | false ↦ (rising.0, rest) ]

pub rising_more : (n k : ℕ) (xs : List ℕ) → n ≤ k → IsRising n xs → ((s : ℕ) → is_among xs s ≡ true → s < k) → IsRising n (xs ++ k ∷ [])
rising_more n k [] below rising under = (below, tt)
rising_more n k (x ∷ xs) below rising under =
    let here : (x == x) ≡ true = grind (arith, nat_tests) in
    let first : is_among (x ∷ xs) x ≡ true = rw here refl in
    let less : x < k = under x first in
    (rising.0, rising_more (x + 1) k xs (omega arith) rising.1 (λ s a. under s (or_right (x == s) (is_among xs s) a)))

pub among_append : (xs ys : List ℕ) (s : ℕ) → is_among (xs ++ ys) s ≡ (is_among xs s || is_among ys s)
among_append [] ys s = refl
among_append (x ∷ xs) ys s =
    let rest = among_append xs ys s in
    elim (x == s) as (λ (b : Bool). (b || is_among (xs ++ ys) s) ≡ ((b || is_among xs s) || is_among ys s))
    [ true ↦ refl | false ↦ rest ]

-- a ticket that is still among them without t
pub among_without : (xs : List ℕ) (t s : ℕ) → is_among (without t xs) s ≡ true → is_among xs s ≡ true
among_without [] t s among = among
among_without (x ∷ xs) t s among =
    (elim (x == t) as (λ (b : Bool). is_among (if b then without t xs else x ∷ without t xs) s ≡ true → is_among (x ∷ xs) s ≡ true) [
      | true ↦ (λ a. or_right (x == s) (is_among xs s) (among_without xs t s a))
      | false ↦ (λ a. or_more (x == s) (is_among (without t xs) s) (is_among xs s) (among_without xs t s) a)
    ]) among

pub not_among_without : (xs : List ℕ) (t s : ℕ) → s ≢ t → is_among (without t xs) s ≡ is_among xs s
not_among_without [] t s other = refl
not_among_without (x ∷ xs) t s other =
    let rest = not_among_without xs t s other in
    let both : (x == t) ≡ true → (x == s) ≡ false = λ (e : (x == t) ≡ true). grind (arith, nat_tests) in
    (elim (x == t) as (λ (b : Bool). (b ≡ true → (x == s) ≡ false) → is_among (if b then without t xs else x ∷ without t xs) s ≡ is_among (x ∷ xs) s)
    [ true ↦ (λ apart. rw (apart refl) rest) | false ↦ (λ apart. ap (λ (b : Bool). (x == s) || b) rest) ]) both

-- the tickets that wait rise, are below the next ticket and were not removed; each other ticket below it was removed, and none
-- from it on
pub record IsInOrder (line : Line) (removed : ℕ → Bool) : Type 0 where
  pub rises : IsRising 0 line.waiting
  pub under : (s : ℕ) → is_among line.waiting s ≡ true → s < line.issued
  pub known : (s : ℕ) → s < line.issued → is_among line.waiting s ≡ false → removed s ≡ true
  pub waits : (s : ℕ) → is_among line.waiting s ≡ true → removed s ≡ false
  pub fresh : (s : ℕ) → line.issued ≤ s → removed s ≡ false

pub or_false : (a : Bool) → a ≡ (a || false)
or_false true = refl
or_false false = refl

pub in_order_map : {line : Line} (before after : ℕ → Bool) → ((s : ℕ) → before s ≡ after s) → IsInOrder line before → IsInOrder line after
in_order_map before after same kept = record {
  rises = kept.rises;
  under = kept.under;
  known = λ s below gone. sym (same s) ∙ kept.known s below gone;
  waits = λ s among. sym (same s) ∙ kept.waits s among;
  fresh = λ s above. sym (same s) ∙ kept.fresh s above;
}

-- the ticket that was removed is no longer among them
gone_from : (xs : List ℕ) (t : ℕ) → is_among (without t xs) t ≡ false
gone_from [] t = refl
gone_from (x ∷ xs) t =
    let rest = gone_from xs t in
    (elim (x == t) as (λ (b : Bool). (x == t) ≡ b → is_among (if b then without t xs else x ∷ without t xs) t ≡ false)
    [ true ↦ (λ is. rest) | false ↦ (λ is. rw (is, rest) refl) ]) refl

still_waits : (xs : List ℕ) (t s : ℕ) → is_among (without t xs) s ≡ true → (t == s) ≡ false
still_waits xs t s among =
    (elim (t == s) as (λ (b : Bool). (t == s) ≡ b → b ≡ false) [
      | true ↦ (λ is. let same : t ≡ s = grind (arith, nat_tests) in
          absurd (false≢true (sym (gone_from xs t) ∙ (ap (is_among (without t xs)) same ∙ among))))
      | false ↦ (λ is. refl)
    ]) refl

-- a ticket that enters or leaves
gone_in_order : (line : Line) (t : ℕ) (removed : ℕ → Bool) → IsInOrder line removed → is_among line.waiting t ≡ true
    → IsInOrder (record line { waiting = without t line.waiting }) (λ s. removed s || (t == s))
gone_in_order line t removed kept here = record {
  rises = rising_without 0 t line.waiting kept.rises;
  under = λ s among. kept.under s (among_without line.waiting t s among);
  known = λ s below gone. elim (t == s) as (λ (b : Bool). (t == s) ≡ b → (removed s || b) ≡ true) [
    | true ↦ (λ is. or_right (removed s) true refl)
    | false ↦ (λ is. let other : s ≢ t = λ (e : s ≡ t). grind (arith, nat_tests) in
        or_left (removed s) false (kept.known s below (sym (not_among_without line.waiting t s other) ∙ gone)))
  ] refl;
  waits = λ s among.
      or_from (removed s) (t == s) (kept.waits s (among_without line.waiting t s among)) (still_waits line.waiting t s among);
  fresh = λ s above.
      let below : t < line.issued = kept.under t here in
      let other : (t == s) ≡ false = grind (arith, nat_tests) in
      or_from (removed s) (t == s) (kept.fresh s above) other;
}

arrived_under : (line : Line) (s : ℕ) → (is_among line.waiting s ≡ true → s < line.issued)
    → (is_among line.waiting s || ((line.issued == s) || false)) ≡ true → s < line.issued + 1
arrived_under line s under among =
    (elim (is_among line.waiting s) as (λ (b : Bool). (b ≡ true → s < line.issued) → (b || ((line.issued == s) || false)) ≡ true → s < line.issued + 1)
    [ true ↦ (λ u a. omega (arith, u refl)) | false ↦ (λ u a. grind (arith, nat_tests)) ]) under among

arrived_known : (line : Line) (s : ℕ) (known : Bool) → (s < line.issued → is_among line.waiting s ≡ false → known ≡ true)
    → s < line.issued + 1 → (is_among line.waiting s || ((line.issued == s) || false)) ≡ false → known ≡ true
arrived_known line s known was below gone =
    let parts = or_parts (is_among line.waiting s) ((line.issued == s) || false) gone in
    let other = or_parts (line.issued == s) false parts.1 in
    let not_last : (line.issued == s) ≡ false = other.0 in
    let earlier : s < line.issued = grind (arith, nat_tests) in
    was earlier parts.0

arrived_waits : (line : Line) (s : ℕ) (removed : Bool) → (is_among line.waiting s ≡ true → removed ≡ false) → (line.issued ≤ s → removed ≡ false)
    → (is_among line.waiting s || ((line.issued == s) || false)) ≡ true → removed ≡ false
arrived_waits line s removed waits fresh among =
    (elim (is_among line.waiting s) as (λ (b : Bool). (b ≡ true → removed ≡ false) → (b || ((line.issued == s) || false)) ≡ true → removed ≡ false) [
      | true ↦ (λ w a. w refl)
      | false ↦ (λ w a. let is : (line.issued == s) ≡ true = or_false (line.issued == s) ∙ a in
          let last : line.issued ≤ s = grind (arith, nat_tests) in
          fresh last)
    ]) waits among

-- each step keeps the order
pub step_in_order : (line : Line) (step : LineStep) (removed : ℕ → Bool) → IsInOrder line removed → IsTrue (permits line step)
    → IsInOrder (line_after line step) (λ s. removed s || removes step s)
step_in_order line Arrive removed kept permitted = record {
  rises = rising_more 0 line.issued line.waiting (omega arith) kept.rises kept.under;
  under = λ s among. arrived_under line s (kept.under s) (sym (among_append line.waiting (line.issued ∷ []) s) ∙ among);
  known = λ s below gone. or_left (removed s) false (arrived_known line s (removed s) (kept.known s) below (sym (among_append line.waiting (line.issued ∷ []) s) ∙ gone));
  waits = λ s among. sym (or_false (removed s))
      ∙ arrived_waits line s (removed s) (kept.waits s) (kept.fresh s) (sym (among_append line.waiting (line.issued ∷ []) s) ∙ among);
  fresh = λ s above. let before : line.issued ≤ s = omega arith in sym (or_false (removed s)) ∙ kept.fresh s before;
}
step_in_order line (Enter t) removed kept permitted = gone_in_order line t removed kept (leads_among line.waiting t permitted)
step_in_order line (Leave t) removed kept permitted = gone_in_order line t removed kept permitted
step_in_order line Pass removed kept permitted = in_order_map removed (λ s. removed s || false) (λ s. or_false (removed s)) kept

pub empty_in_order : IsInOrder empty_line (λ s. false)
empty_in_order = record {
  rises = tt;
  under = λ s among. absurd (false≢true among);
  known = λ s below gone. let no : ⊥ = omega arith in absurd no;
  waits = λ s among. refl;
  fresh = λ s above. refl;
}
