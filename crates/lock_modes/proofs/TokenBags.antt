-- Lists of tokens that are the same bag: what both have in common.
use Rattle.std.proofs.Common.{◌≡◌, ℕ, ◌+◌, Bool, true, List, [], ◌∷◌, ◌++◌, length, refl, sym, ap, ◌∙◌, arith}
use Rattle.lock_modes.specs.declared.mode.Mode.{Mode}
use Rattle.lock_modes.specs.declared.mode.Mode.TheVariants.{Shared, Exclusive, Upgradable}
use Rattle.lock_modes.specs.declared.bag.Bag.{Bag}
use Rattle.lock_modes.specs.Modes.{is_shared, is_exclusive, is_upgradable, tokens}
use Rattle.lock_modes.specs.Tokens.{count, SameBag, bag_of_tokens}
use Rattle.lock_modes.proofs.ModeLemmas.{tokens-one_more}

pub count-append : {X : Type 0} (test : X → Bool) (xs ys : List X) → count test (xs ++ ys) ≡ count test xs + count test ys
count-append test [] ys = omega arith
count-append test (x ∷ xs) ys = omega (arith, count-append test xs ys)

module _ {X : Type 0} where
  pub turned : {xs ys : List X} → SameBag xs ys → SameBag ys xs
  turned p = record { counts = λ test. sym (p.counts test) }

  pub joined : {xs ys zs : List X} → SameBag xs ys → SameBag ys zs → SameBag xs zs
  joined p q = record { counts = λ test. p.counts test ∙ q.counts test }

  pub with_one : {xs ys : List X} (x : X) → SameBag xs ys → SameBag (x ∷ xs) (x ∷ ys)
  with_one x p = record { counts = λ test. omega (arith, p.counts test) }

  pub without_one : {xs ys : List X} (x : X) → SameBag (x ∷ xs) (x ∷ ys) → SameBag xs ys
  without_one x p = record { counts = λ test. omega (arith, p.counts test) }

  count_all : (xs : List X) → count (λ x. true) xs ≡ length xs
  count_all [] = refl
  count_all (x ∷ xs) = omega (arith, count_all xs)

  pub same_length : {xs ys : List X} → SameBag xs ys → length xs ≡ length ys
  same_length {xs} {ys} p = sym (count_all xs) ∙ p.counts (λ x. true) ∙ count_all ys

  -- only the empty list has no member
  pub same_as_none : (xs : List X) → SameBag xs [] → xs ≡ []
  same_as_none [] p = refl
  same_as_none (x ∷ xs) p = absurd (omega (arith, same_length p))

pub same_counts : (a b : Bag) → a.shared ≡ b.shared → a.exclusive ≡ b.exclusive → a.upgradable ≡ b.upgradable → a ≡ b
same_counts a b s x u =
    let bag : ℕ → ℕ → ℕ → Bag = λ i j k. record { shared = i; exclusive = j; upgradable = k } in
    ap (λ i. bag i a.exclusive a.upgradable) s ∙ (ap (λ j. bag b.shared j a.upgradable) x ∙ ap (λ k. bag b.shared b.exclusive k) u)

module _ {K : Type 0} where
  -- how many tokens are held in each mode, by count
  shared_counted : (ts : List (K × Mode)) → (bag_of_tokens ts).shared ≡ count (λ (t : K × Mode). is_shared t.1) ts
  shared_counted [] = refl
  shared_counted ((k, Shared) ∷ ts) = omega (arith, shared_counted ts)
  shared_counted ((k, Exclusive) ∷ ts) = omega (arith, shared_counted ts)
  shared_counted ((k, Upgradable) ∷ ts) = omega (arith, shared_counted ts)

  exclusive_counted : (ts : List (K × Mode)) → (bag_of_tokens ts).exclusive ≡ count (λ (t : K × Mode). is_exclusive t.1) ts
  exclusive_counted [] = refl
  exclusive_counted ((k, Shared) ∷ ts) = omega (arith, exclusive_counted ts)
  exclusive_counted ((k, Exclusive) ∷ ts) = omega (arith, exclusive_counted ts)
  exclusive_counted ((k, Upgradable) ∷ ts) = omega (arith, exclusive_counted ts)

  upgradable_counted : (ts : List (K × Mode)) → (bag_of_tokens ts).upgradable ≡ count (λ (t : K × Mode). is_upgradable t.1) ts
  upgradable_counted [] = refl
  upgradable_counted ((k, Shared) ∷ ts) = omega (arith, upgradable_counted ts)
  upgradable_counted ((k, Exclusive) ∷ ts) = omega (arith, upgradable_counted ts)
  upgradable_counted ((k, Upgradable) ∷ ts) = omega (arith, upgradable_counted ts)

  -- one bag of tokens has one count of each mode
  pub bag_of_same : (ts us : List (K × Mode)) → SameBag ts us → bag_of_tokens ts ≡ bag_of_tokens us
  bag_of_same ts us p =
      same_counts (bag_of_tokens ts) (bag_of_tokens us)
      (shared_counted ts ∙ p.counts (λ t. is_shared t.1) ∙ sym (shared_counted us))
      (exclusive_counted ts ∙ p.counts (λ t. is_exclusive t.1) ∙ sym (exclusive_counted us))
      (upgradable_counted ts ∙ p.counts (λ t. is_upgradable t.1) ∙ sym (upgradable_counted us))

  -- the bag has as many as there are tokens
  pub tokens-bag_of_tokens : (ts : List (K × Mode)) → tokens (bag_of_tokens ts) ≡ length ts
  tokens-bag_of_tokens [] = refl
  tokens-bag_of_tokens (t ∷ ts) = tokens-one_more (bag_of_tokens ts) t.1 ∙ omega (arith, tokens-bag_of_tokens ts)
