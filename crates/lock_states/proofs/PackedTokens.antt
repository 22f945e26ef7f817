-- The tokens of a packed word: one more or one less of a mode, and what a held token says of the bag.
use Rattle.std.proofs.Common.{◌≡◌, ℕ, if◌then◌else◌, zero, suc, ◌+◌, ◌<◌, Bool, true, false, List, ◌∷◌, ◌++◌, length, replicate, IsTrue, refl, sym, ap, subst, ◌∙◌, arith}
use Rattle.std.specs.Prelude.{not}
use Rattle.lock_modes.specs.declared.mode.Mode.{Mode}
use Rattle.lock_modes.specs.declared.mode.Mode.TheVariants.{Shared, Exclusive, Upgradable}
use Rattle.lock_modes.specs.declared.bag.Bag.{Bag}
use Rattle.lock_modes.specs.Modes.{empty_bag, count_of, one_more, one_less, tokens, is_move}
use Rattle.lock_modes.specs.Tokens.{count, SameBag, bag_of_tokens, IsOutIn, IsOut, Removes, CanChange, Replaces}
use Rattle.lock_modes.proofs.TokenBags.{count-append, turned, joined, with_one, without_one, same_counts, bag_of_same, tokens-bag_of_tokens}
use Rattle.lock_modes.proofs.ModeLemmas.{one_more-one_less, count-one_more}
use Rattle.lock_states.specs.declared.word.PackedToken.{PackedToken}
use Rattle.lock_states.specs.Packed.{token_of, tokens_in}
use Rattle.lock_states.proofs.SameModes.{same_mode, same_mode-true}

-- how many of the tokens pass a test, mode by mode
counted : (test : PackedToken × Mode → Bool) (b : Bag)
    → count test (tokens_in b)
    ≡ count test (replicate b.shared (token_of Shared))
    + (count test (replicate b.exclusive (token_of Exclusive)) + count test (replicate b.upgradable (token_of Upgradable)))
counted test b =
    let readers = replicate b.shared (token_of Shared) in
    let writers = replicate b.exclusive (token_of Exclusive) in
    let others = replicate b.upgradable (token_of Upgradable) in
    omega (arith, count-append test readers (writers ++ others), count-append test writers others)

block : (test : PackedToken × Mode → Bool) (n : ℕ) (t : PackedToken × Mode)
    → count test (replicate (n + 1) t) ≡ count test (t ∷ replicate n t)
block test n t = let e : n + 1 ≡ suc n = omega arith in ap (λ (m : ℕ). count test (replicate m t)) e

-- one token of the mode more
pub added : (b : Bag) (mode : Mode) → SameBag (tokens_in (one_more b mode)) (token_of mode ∷ tokens_in b)
added b Shared =
    record {
      counts = λ test. omega (arith, counted test (one_more b Shared), counted test b, block test b.shared (token_of Shared));
    }
added b Exclusive =
    record {
      counts = λ test. omega (arith, counted test (one_more b Exclusive), counted test b, block test b.exclusive (token_of Exclusive));
    }
added b Upgradable =
    record {
      counts = λ test. omega (arith, counted test (one_more b Upgradable), counted test b, block test b.upgradable (token_of Upgradable));
    }

-- the counts of the tokens are the bag

-- so many more of the mode
abbrev plus : Bag → Mode → ℕ → Bag
plus b Shared n = record b { shared = b.shared + n }
plus b Exclusive n = record b { exclusive = b.exclusive + n }
plus b Upgradable n = record b { upgradable = b.upgradable + n }

plus_zero : (b : Bag) (mode : Mode) → b ≡ plus b mode 0
plus_zero b Shared = same_counts b (plus b Shared 0) (omega arith) refl refl
plus_zero b Exclusive = same_counts b (plus b Exclusive 0) refl (omega arith) refl
plus_zero b Upgradable = same_counts b (plus b Upgradable 0) refl refl (omega arith)

plus_suc : (b : Bag) (mode : Mode) (n : ℕ) → one_more (plus b mode n) mode ≡ plus b mode (suc n)
plus_suc b Shared n =
    same_counts (one_more (plus b Shared n) Shared) (plus b Shared (suc n)) (omega arith) refl refl
plus_suc b Exclusive n =
    same_counts (one_more (plus b Exclusive n) Exclusive) (plus b Exclusive (suc n)) refl (omega arith) refl
plus_suc b Upgradable n =
    same_counts (one_more (plus b Upgradable n) Upgradable) (plus b Upgradable (suc n)) refl refl (omega arith)

bag_of_block : (n : ℕ) (mode : Mode) (ts : List (PackedToken × Mode))
    → bag_of_tokens (replicate n (token_of mode) ++ ts) ≡ plus (bag_of_tokens ts) mode n
bag_of_block zero mode ts = plus_zero (bag_of_tokens ts) mode
bag_of_block (suc n) mode ts =
    ap (λ (b : Bag). one_more b mode) (bag_of_block n mode ts) ∙ plus_suc (bag_of_tokens ts) mode n

last_block : (n : ℕ) → bag_of_tokens (replicate n (token_of Upgradable)) ≡ plus empty_bag Upgradable n
last_block zero = plus_zero empty_bag Upgradable
last_block (suc n) = ap (λ (b : Bag). one_more b Upgradable) (last_block n) ∙ plus_suc empty_bag Upgradable n

pub bag_of_tokens_in : (b : Bag) → bag_of_tokens (tokens_in b) ≡ b
bag_of_tokens_in b =
    let writers = replicate b.exclusive (token_of Exclusive) ++ replicate b.upgradable (token_of Upgradable) in
    let last = last_block b.upgradable in
    let middle : bag_of_tokens writers ≡ plus (plus empty_bag Upgradable b.upgradable) Exclusive b.exclusive
    = bag_of_block b.exclusive Exclusive (replicate b.upgradable (token_of Upgradable))
    ∙ ap (λ (x : Bag). plus x Exclusive b.exclusive) last in
    let all : bag_of_tokens (tokens_in b) ≡ plus (plus (plus empty_bag Upgradable b.upgradable) Exclusive b.exclusive) Shared b.shared
    = bag_of_block b.shared Shared writers ∙ ap (λ (x : Bag). plus x Shared b.shared) middle in
    all
    ∙ same_counts (plus (plus (plus empty_bag Upgradable b.upgradable) Exclusive b.exclusive) Shared b.shared) b
    (omega arith) (omega arith) (omega arith)

-- a held token

-- the token is not that of its mode
abbrev is_strange : PackedToken × Mode → Bool
is_strange t = not (same_mode t.0.mode t.1)

fails_count : (test : PackedToken × Mode → Bool) (t : PackedToken × Mode) → test t ≡ false → ◌≡◌ {A = ℕ} (if test t then 1 else 0) 0
fails_count test t fails = rw fails refl

none_pass : (test : PackedToken × Mode → Bool) (n : ℕ) (t : PackedToken × Mode) → test t ≡ false
    → count test (replicate n t) ≡ 0
none_pass test zero t fails = refl
none_pass test (suc n) t fails = omega (arith, none_pass test n t fails, fails_count test t fails)

none_strange : (b : Bag) → count is_strange (tokens_in b) ≡ 0
none_strange b =
    omega (
      arith,
      counted is_strange b,
      none_pass is_strange b.shared (token_of Shared) refl,
      none_pass is_strange b.exclusive (token_of Exclusive) refl,
      none_pass is_strange b.upgradable (token_of Upgradable) refl,
    )

token_is : (b : Bag) (held mode : Mode) (others : List (PackedToken × Mode))
    → IsOutIn (tokens_in b) (record { mode = held }) mode others → held ≡ mode
token_is b held mode others out = by_test (same_mode held mode) refl
  where
    by_test : (same : Bool) → same_mode held mode ≡ same → held ≡ mode
    by_test true is = same_mode-true held mode is
    by_test false is =
        let strange : ◌≡◌ {A = ℕ} (if not (same_mode held mode) then 1 else 0) 1
        = ap (λ (same : Bool). if not same then 1 else 0) is in
        absurd (omega (arith, none_strange b, out.counts is_strange, strange))

-- the token is held in its own mode, and these are the others
pub record Stands (b : Bag) (token : PackedToken) (mode : Mode) (others : List (PackedToken × Mode)) : Type 0 where
  pub own : token.mode ≡ mode
  pub some : 0 < count_of b mode
  pub left : SameBag (tokens_in (one_less b mode)) others

pub stands : (b : Bag) (token : PackedToken) (mode : Mode) (others : List (PackedToken × Mode))
    → IsOutIn (tokens_in b) token mode others → Stands b token mode others
stands b token mode others out =
    let own = token_is b token.mode mode others out in
    let whole : b ≡ one_more (bag_of_tokens others) mode
    = sym (bag_of_tokens_in b) ∙ bag_of_same (tokens_in b) ((token, mode) ∷ others) out in
    let some : 0 < count_of b mode
    = subst (λ (x : Bag). 0 < count_of x mode) (sym whole) (count-one_more (bag_of_tokens others) mode) in
    let first : SameBag (token_of mode ∷ tokens_in (one_less b mode)) (tokens_in b)
    = subst (λ (x : Bag). SameBag (token_of mode ∷ tokens_in (one_less b mode)) (tokens_in x)) (one_more-one_less b mode some)
    (turned (added (one_less b mode) mode)) in
    let second : SameBag (tokens_in b) (token_of mode ∷ others)
    = subst (λ (m : Mode). SameBag (tokens_in b) ((record { mode = m }, mode) ∷ others)) own out in
    record { own = own; some = some; left = without_one (token_of mode) (joined first second) }

-- the calls of a raw state

pub out_is_held : (b : Bag) (token : PackedToken) → IsOut (tokens_in b) token → 0 < count_of b token.mode
out_is_held b token out =
    let s = stands b token out.0 out.1.0 out.1.1 in
    subst (λ (m : Mode). 0 < count_of b m) (sym s.own) s.some

pub given_back : (b : Bag) (token : PackedToken) → Removes (tokens_in b) (tokens_in (one_less b token.mode)) token
given_back b token mode others out =
    let s = stands b token mode others out in
    subst (λ (m : Mode). SameBag (tokens_in (one_less b m)) others) (sym s.own) s.left

pub replaced : (b : Bag) (token : PackedToken) (to : Mode)
    → Replaces (tokens_in b) (tokens_in (one_more (one_less b token.mode) to)) token (record { mode = to }) to
replaced b token to from others out =
    joined (added (one_less b token.mode) to) (with_one (token_of to) (given_back b token from others out))

pub can_move : (b : Bag) (token : PackedToken) (to : Mode) → CanChange (tokens_in b) token to
    → (0 < count_of b token.mode) × IsTrue (is_move token.mode to)
can_move b token to can =
    let s = stands b token can.0 can.1.1.0 can.1.1.1 in
    subst (λ (m : Mode). (0 < count_of b m) × IsTrue (is_move m to)) (sym s.own) (s.some, can.1.0)
