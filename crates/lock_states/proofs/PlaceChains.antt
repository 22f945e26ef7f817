-- What a write does to the chain through the free places.
use Rattle.std.proofs.Common.{◌≡◌, ◌≢◌, ℕ, zero, suc, ◌+◌, ◌-◌, ◌<◌, ◌≤◌, List, [], ◌∷◌, ◌++◌, length, set, get_or, refl, sym, ap, subst, ◌∙◌, Option, None, Some, arith, length-set, add-one}
use Rattle.std.specs.Prelude.{slice_get}
use Rattle.std.proofs.lemmas.Option.{slice_get_within, get_or_from_slice_get}
use Rattle.std.proofs.lemmas.List.{get_or_past}
use Rattle.lock_modes.specs.declared.mode.Mode.{Mode}
use Rattle.lock_modes.specs.declared.bag.Bag.{Bag}
use Rattle.lock_modes.specs.Modes.{one_more, one_less, count_of}
use Rattle.lock_modes.specs.Tokens.{SameBag, bag_of_tokens}
use Rattle.lock_modes.proofs.ModeLemmas.{one_less-one_more, count-one_more}
use Rattle.lock_modes.proofs.TokenBags.{same_length, bag_of_same}
use Rattle.lock_word.proofs.Lists.{placed, other_stays, in_longer}
use Rattle.lock_states.specs.declared.places.Place.{Place}
use Rattle.lock_states.specs.declared.places.Place.TheVariants.{Free, Taken}
use Rattle.lock_states.specs.Places.{mode_in, modes_in, IsChain}
use Rattle.lock_states.specs.TableState.{tokens_from, tokens_of, IsTable}
use Rattle.lock_states.proofs.TableTokens.{taken, freed, changed}

pub length-modes_in : (ps : List Place) → length (modes_in ps) ≡ length ps
length-modes_in [] = refl
length-modes_in (p ∷ ps) = ap suc (length-modes_in ps)

pub modes_in-set : (ps : List Place) (i : ℕ) (p : Place) → modes_in (set ps i p) ≡ set (modes_in ps) i (mode_in p)
modes_in-set [] i p = refl
modes_in-set (q ∷ ps) zero p = refl
modes_in-set (q ∷ ps) (suc i) p = ap (λ r. mode_in q ∷ r) (modes_in-set ps i p)

pub modes_in-get : (ps : List Place) (i : ℕ) (p : Place) → slice_get ps i ≡ Some p → slice_get (modes_in ps) i ≡ Some (mode_in p)
modes_in-get [] i p e = cc
modes_in-get (q ∷ ps) zero p e = let is : q ≡ p = cc in ap (λ w. Some (mode_in w)) is
modes_in-get (q ∷ ps) (suc i) p e = modes_in-get ps i p e

-- a start has at most one length of chain
pub one_chain : (ps : List Place) (m n : ℕ) (start : Option ℕ) → IsChain ps m start → IsChain ps n start → m ≡ n
one_chain ps zero zero start p q = refl
one_chain ps zero (suc n) start p q = let e = q.2 in cc
one_chain ps (suc m) zero start p q = let e = p.2 in cc
one_chain ps (suc m) (suc n) start p q =
    let first : start ≡ Some p.0 = p.2 in
    let second : start ≡ Some q.0 = q.2 in
    let there : slice_get ps p.0 ≡ Some (Free p.1) = p.3 in
    let too : slice_get ps q.0 ≡ Some (Free q.1) = q.3 in
    let at : q.0 ≡ p.0 = cc in
    let next : q.1 ≡ p.1 = cc in
    ap suc (one_chain ps m n p.1 p.4 (subst (λ s. IsChain ps n s) next q.4))

-- a write at a place that is not on the chain keeps it
pub chain_set : (ps : List Place) (at : ℕ) (p : Place) (n : ℕ) (start : Option ℕ)
    → ((m : ℕ) → m < n → IsChain ps (suc m) (Some at) → ⊥) → IsChain ps n start → IsChain (set ps at p) n start
chain_set ps at p zero start off c = c
chain_set ps at p (suc n) start off c =
    let other : c.0 ≢ at = λ same. off n (omega arith) (at, c.1, refl, subst (λ k. slice_get ps k ≡ Some (Free c.1)) same c.3, c.4) in
    (c.0, c.1, c.2, other_stays ps at c.0 p (Free c.1) other c.3, chain_set ps at p n c.1 (λ m below. off m (omega arith)) c.4)

-- a taken place is on no chain
pub taken_is_off : (ps : List Place) (at : ℕ) (mode : Mode) → slice_get ps at ≡ Some (Taken mode) → (m : ℕ) → IsChain ps (suc m) (Some at) → ⊥
taken_is_off ps at mode there m c =
    let first : Some at ≡ Some c.0 = c.2 in
    let free : slice_get ps c.0 ≡ Some (Free c.1) = c.3 in
    cc

-- a start is at a free place
pub free_start : (ps : List Place) (n : ℕ) (start : Option ℕ) (at : ℕ) → IsChain ps n start → start ≡ Some at
    → (next : Option ℕ) × (slice_get ps at ≡ Some (Free next))
free_start ps zero start at c e = let none : start ≡ None = c in cc
free_start ps (suc n) start at c e =
    let first : start ≡ Some c.0 = c.2 in
    let same : c.0 ≡ at = cc in
    (c.1, subst (λ k. slice_get ps k ≡ Some (Free c.1)) same c.3)

-- the rest of a chain
rest_of : (ps : List Place) (n at : ℕ) (start next : Option ℕ) → IsChain ps n start → start ≡ Some at
    → slice_get ps at ≡ Some (Free next)
    → (m : ℕ) × ((n ≡ suc m) × IsChain ps m next × ((k : ℕ) → k < m → IsChain ps (suc k) (Some at) → ⊥))
rest_of ps zero at start next c e there = let none : start ≡ None = c in cc
rest_of ps (suc n) at start next c e there =
    let first : start ≡ Some c.0 = c.2 in
    let free : slice_get ps c.0 ≡ Some (Free c.1) = c.3 in
    let same : c.0 ≡ at = cc in
    let then : c.1 ≡ next = cc in
    let whole : IsChain ps (suc n) (Some at) = subst (λ s. IsChain ps (suc n) s) e c in (
      n,
      (
        refl,
        subst (λ s. IsChain ps n s) then c.4,
        λ k below d. let m : suc k ≡ suc n = one_chain ps (suc k) (suc n) (Some at) d whole in absurd (omega arith),
      ),
    )

-- the first free place is taken
pub filled : (ps : List Place) (bag : Bag) (start next : Option ℕ) (readers at : ℕ) (mode : Mode)
    → IsTable ps bag start readers → start ≡ Some at → slice_get ps at ≡ Some (Free next)
    → IsTable (set ps at (Taken mode)) (one_more bag mode) next readers
filled ps bag start next readers at mode t e there =
    let rest = rest_of ps t.free at start next t.chain e there in
    let same : SameBag (tokens_of (set (modes_in ps) at (Some mode)))
    ((record { place = at }, mode) ∷ tokens_of (modes_in ps)) =
    taken (modes_in ps) at mode (modes_in-get ps at (Free next) there) in
    let modes = modes_in-set ps at (Taken mode) in
    let longer = same_length same in
    let number = ap (λ w. length (tokens_of w)) modes in
    let long = length-set ps at (Taken mode) in
    record {
      places = rw long t.places;
      limit = t.limit;
      counted = ap (λ b. one_more b mode) t.counted ∙ sym (ap (λ w. bag_of_tokens (tokens_of w)) modes ∙ bag_of_same _ _ same);
      free = rest.0;
      all = omega (arith, t.all, rest.1.0, longer, number, long);
      chain = chain_set ps at (Taken mode) rest.0 next rest.1.2 rest.1.1;
    }

-- a taken place is freed
pub vacated : (ps : List Place) (bag : Bag) (start : Option ℕ) (readers at : ℕ) (mode : Mode)
    → IsTable ps bag start readers → slice_get ps at ≡ Some (Taken mode)
    → (0 < count_of bag mode) × IsTable (set ps at (Free start)) (one_less bag mode) (Some at) readers
vacated ps bag start readers at mode t there =
    let same : SameBag (tokens_of (modes_in ps))
    ((record { place = at }, mode) ∷ tokens_of (set (modes_in ps) at None)) =
    freed (modes_in ps) at mode (modes_in-get ps at (Taken mode) there) in
    let modes = modes_in-set ps at (Free start) in
    let left : Bag = bag_of_tokens (tokens_of (set (modes_in ps) at None)) in
    let whole : bag ≡ one_more left mode = t.counted ∙ bag_of_same _ _ same in
    let longer = same_length same in
    let number = ap (λ w. length (tokens_of w)) modes in
    let long = length-set ps at (Free start) in (
      rw whole (count-one_more left mode),
      record {
        places = rw long t.places;
        limit = t.limit;
        counted = ap (λ b. one_less b mode) whole ∙ one_less-one_more left mode ∙ sym (ap (λ w. bag_of_tokens (tokens_of w)) modes);
        free = suc t.free;
        all = omega (arith, t.all, longer, number, long);
        chain = (
          at,
          start,
          refl,
          placed ps at (Taken mode) (Free start) there,
          chain_set ps at (Free start) t.free start (λ m below. taken_is_off ps at mode there m) t.chain,
        );
      },
    )

-- New places

abbrev pub AllFree : List Place → Type 0
AllFree [] = Unit {0}
AllFree (p ∷ ps) = (mode_in p ≡ None) × AllFree ps

pub free_push : (ps : List Place) (start : Option ℕ) → AllFree ps → AllFree (ps ++ Free start ∷ [])
free_push [] start h = (refl, tt)
free_push (p ∷ ps) start h = (h.0, free_push ps start h.1)

none_from : (first : ℕ) (ps : List Place) → AllFree ps → tokens_from first (modes_in ps) ≡ []
none_from first [] h = refl
none_from first (Free next ∷ ps) h = none_from (first + 1) ps h.1
none_from first (Taken mode ∷ ps) h = let e = h.0 in cc

pub none_taken : (ps : List Place) → AllFree ps → tokens_of (modes_in ps) ≡ []
none_taken ps h = none_from 0 ps h

get_last : (ps : List Place) (p : Place) → slice_get (ps ++ p ∷ []) (length ps) ≡ Some p
get_last [] p = refl
get_last (r ∷ ps) p = get_last ps p

chain_before : (ps : List Place) (p : Place) (n : ℕ) (start : Option ℕ) → IsChain ps n start → IsChain (ps ++ p ∷ []) n start
chain_before ps p zero start c = c
chain_before ps p (suc n) start c = (c.0, c.1, c.2, in_longer ps p (Free c.1) c.0 c.3, chain_before ps p n c.1 c.4)

-- one free place more, which names the one before it
pub chain_push : (ps : List Place) (place : ℕ) (start : Option ℕ) → length ps ≡ place → IsChain ps place start
    → IsChain (ps ++ Free start ∷ []) (place + 1) (Some place)
chain_push ps place start e c =
    let there : slice_get (ps ++ Free start ∷ []) place ≡ Some (Free start)
    = subst (λ k. slice_get (ps ++ Free start ∷ []) k ≡ Some (Free start)) e (get_last ps (Free start)) in
    let longer : IsChain (ps ++ Free start ∷ []) (suc place) (Some place) = (place, start, refl, there, chain_before ps (Free start) place start c) in
    rw add-one longer

-- if no place is free, as many tokens are held as there are places
pub all_taken : (ps : List Place) (bag : Bag) (start : Option ℕ) (readers : ℕ) → IsTable ps bag start readers
    → start ≡ None → length (tokens_of (modes_in ps)) ≡ length ps
all_taken ps bag start readers t e = by_count t.free t.all t.chain
  where
    by_count : (n : ℕ) → n + length (tokens_of (modes_in ps)) ≡ length ps → IsChain ps n start → length (tokens_of (modes_in ps)) ≡ length ps
    by_count zero all c = omega arith
    by_count (suc n) all c = let first : start ≡ Some c.0 = c.2 in cc

-- the place at the start is free
pub first_free : (ps : List Place) (bag : Bag) (start : Option ℕ) (readers at : ℕ) → IsTable ps bag start readers
    → start ≡ Some at → (next : Option ℕ) × (slice_get ps at ≡ Some (Free next))
first_free ps bag start readers at t e = free_start ps t.free start at t.chain e

-- What calls read and write, as contracts see it

pub table_is : (ps qs : List Place) (b c : Bag) (start : Option ℕ) (readers : ℕ) → ps ≡ qs → b ≡ c
    → IsTable qs c start readers → IsTable ps b start readers
table_is ps qs b c start readers e f t = subst (λ w. IsTable w b start readers) (sym e) (subst (λ w. IsTable qs w start readers) (sym f) t)

pub inside_of : (ps : List Place) (now : List (Option Mode)) (at : ℕ) (found : Option Mode) → modes_in ps ≡ now
    → slice_get now at ≡ Some found → at < length ps
inside_of ps now at found e there = omega (arith, slice_get_within now at found there, ap length e, length-modes_in ps)

pub taken_place : (ps : List Place) (now : List (Option Mode)) (at : ℕ) (p : Place) (mode : Mode) → modes_in ps ≡ now
    → slice_get ps at ≡ Some p → slice_get now at ≡ Some (Some mode) → p ≡ Taken mode
taken_place ps now at p mode e there out = by_place p (sym (ap (λ w. slice_get w at) e) ∙ modes_in-get ps at p there)
  where
    by_place : (p : Place) → slice_get now at ≡ Some (mode_in p) → p ≡ Taken mode
    by_place (Free next) f = cc
    by_place (Taken m) f = cc

pub as_many : (ps ws : List Place) (now : List (Option Mode)) (at : ℕ) (p : Place) → modes_in ps ≡ now
    → ws ≡ set ps at p → length (modes_in ws) ≡ length now
as_many ps ws now at p e f = omega (arith, length-modes_in ws, ap length f, length-set ps at p, length-modes_in ps, ap length e)

pub modes_written : (ps ws : List Place) (at : ℕ) (p : Place) → ws ≡ set ps at p → modes_in ws ≡ set (modes_in ps) at (mode_in p)
modes_written ps ws at p f = ap modes_in f ∙ modes_in-set ps at p

-- a taken place is taken in another mode
pub remoded : (ps : List Place) (bag : Bag) (start : Option ℕ) (readers at : ℕ) (from to : Mode)
    → IsTable ps bag start readers → slice_get ps at ≡ Some (Taken from)
    → (0 < count_of bag from) × IsTable (set ps at (Taken to)) (one_more (one_less bag from) to) start readers
remoded ps bag start readers at from to t there =
    let out : SameBag (tokens_of (modes_in ps))
    ((record { place = at }, from) ∷ tokens_of (set (modes_in ps) at None)) =
    freed (modes_in ps) at from (modes_in-get ps at (Taken from) there) in
    let now : SameBag (tokens_of (set (modes_in ps) at (Some to)))
    ((record { place = at }, to) ∷ tokens_of (set (modes_in ps) at None)) = changed to refl out in
    let modes = modes_in-set ps at (Taken to) in
    let left : Bag = bag_of_tokens (tokens_of (set (modes_in ps) at None)) in
    let whole : bag ≡ one_more left from = t.counted ∙ bag_of_same _ _ out in
    let less : one_less bag from ≡ left = ap (λ b. one_less b from) whole ∙ one_less-one_more left from in
    let number = ap (λ w. length (tokens_of w)) modes in
    let long = length-set ps at (Taken to) in (
      rw whole (count-one_more left from),
      record {
        places = rw long t.places;
        limit = t.limit;
        counted = ap (λ b. one_more b to) less ∙ sym (ap (λ w. bag_of_tokens (tokens_of w)) modes ∙ bag_of_same _ _ now);
        free = t.free;
        all = omega (arith, t.all, same_length out, same_length now, number, long);
        chain = chain_set ps at (Taken to) t.free start (λ m below. taken_is_off ps at from there m) t.chain;
      },
    )

pub found_at : (ps : List Place) (now : List (Option Mode)) (at : ℕ) (p : Place) → modes_in ps ≡ now
    → slice_get ps at ≡ Some p → get_or now at None ≡ mode_in p
found_at ps now at p e there = get_or_from_slice_get now at _ None (sym (ap (λ w. slice_get w at) e) ∙ modes_in-get ps at p there)

pub nothing_past : (ps : List Place) (now : List (Option Mode)) (at : ℕ) → modes_in ps ≡ now → length ps ≤ at → None ≡ get_or now at None
nothing_past ps now at e l = sym (get_or_past now at None (omega (arith, ap length e, length-modes_in ps)))
