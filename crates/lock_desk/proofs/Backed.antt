-- The held guards stay backed, and what the tokens show of them.
use Rattle.std.proofs.Common.{◌≡◌, ℕ, ◌+◌, ◌<◌, ◌≤◌, suc, Bool, true, false, not, cond, nat_eq, List, [], ◌∷◌, ◌++◌, length, refl, sym, ap, subst, ◌∙◌, Option, None, Some, arith}
use Rattle.std.specs.Prelude.{IsTrue, ◌&&◌, is_none}
use Rattle.std.specs.Bool.{OnTrue, OnFalse}
use Rattle.std.proofs.lemmas.Bool.{ne_eqb, eqb-true}
use Rattle.lock_slots.specs.Items as items
use Rattle.lock_modes.specs.declared.kind.Kind.{Kind}
use Rattle.lock_modes.specs.declared.mode.Mode.{Mode}
use Rattle.lock_modes.specs.declared.mode.Mode.TheVariants.{Exclusive}
use Rattle.lock_modes.specs.Levels.{Owner, level_of, free_levels}
use Rattle.lock_modes.specs.Kind.{is_reentrant}
use Rattle.lock_modes.specs.Party.{id_of}
use Rattle.lock_modes.specs.Modes.{AreCompatible, empty_bag, bag_of, one_more, is_move, admits, may_become}
use Rattle.lock_machine.specs.Entries.{Entry, parked_entry, held_bag, in_mode, modes_of_entries, all_of_party, some_of_party}
use Rattle.lock_machine.specs.Register.{admits_ignoring_bar, is_full_count, tokens_of, token_limit, moves_token, bumps_token, with_change}
use Rattle.lock_machine.specs.Legal.{AreLegallyHeld}
use Rattle.lock_modes.specs.Tokens.{count, SameBag, bag_of_tokens, modes_of, IsOut, Removes, Adds}
use Rattle.lock_modes.proofs.TokenBags.{count-append, same_length, same_as_none, bag_of_same}
use Rattle.lock_modes.proofs.ModeLemmas.{compatible_empty, compatible_acquired, compatible_released, compatible_changed}
use Rattle.lock_machine.proofs.Splices.{splice}
use Rattle.lock_machine.proofs.HeldEntries.{more_than_parked}
use Rattle.lock_machine.proofs.Admissions.{fits_in_again}
use Rattle.lock_desk.specs.declared.slot.GuardHold.{GuardHold}
use Rattle.lock_desk.specs.declared.slot.GuardHold.TheVariants.{Parked, Token, Level}
use Rattle.lock_desk.specs.declared.slot.GuardSlot.{GuardSlot}
use Rattle.lock_desk.specs.Slots.{entries_of, slot_entry, tokens_in, token_in, is_held, is_level, is_token, NoHold}
use Rattle.lock_desk.specs.Owners.{OwnsLevels, token_of_owner, one_level_less, may_add_level, HasAddedLevel}
use Rattle.lock_desk.specs.Backing.{Backing, register_of, KeepsLimits, HasTokenOfOwner, bumps, held_of, Differs, AreHeldBy, AreBacked, BacksSlot, HasRoom, IsHeldIn, Releases, ReturnsToken, HasChangeable, HasExchanged}
use Rattle.lock_desk.proofs.Entries.{entry_found}
use Rattle.lock_desk.proofs.Owned.{owns_same, owns_less, owns_more, holder_owns, may_add_level-held, levels_of_held, full_of_held, none_held}
use Rattle.lock_desk.proofs.Slots.{differs_found, differs_put, parked_held, parked_party, held_slot, held_party, no_tokens, modes_of-tokens_in, same_put}

module _ {K : Type 0} where
  -- the tokens of all slots and the owner, by count
  bag_count : (test : K × Mode → Bool) (ss : List (ℕ × GuardSlot K)) (t : Backing K) → AreBacked ss t
      → count test t.tokens ≡ count test (tokens_in ss) + count test (token_of_owner t.levels.owner)
  bag_count test ss t b = b.bag.counts test ∙ count-append test (tokens_in ss) (token_of_owner t.levels.owner)

  -- one kind's holders
  of_reentrant : (ss : List (ℕ × GuardSlot K)) (t : Backing K) → is_reentrant t.kind ≡ true → AreBacked ss t → AreHeldBy true ss t.levels.owner
  of_reentrant ss t e b = subst (λ n. AreHeldBy n ss t.levels.owner) e b.holders

  of_others : (ss : List (ℕ × GuardSlot K)) (t : Backing K) → is_reentrant t.kind ≡ false → AreBacked ss t → AreHeldBy false ss t.levels.owner
  of_others ss t e b = subst (λ n. AreHeldBy n ss t.levels.owner) e b.holders

  -- backings with the same kind and limit
  same_behind : (old new : Backing K) → KeepsLimits old new → token_limit new.kind new.levels.limit ≡ token_limit old.kind old.levels.limit
  same_behind old new k = ap (λ kind. token_limit kind new.levels.limit) k.kind ∙ ap (λ limit. token_limit old.kind limit) k.limit

  same_nesting : (old new : Backing K) → KeepsLimits old new → is_reentrant new.kind ≡ is_reentrant old.kind
  same_nesting old new k = ap is_reentrant k.kind

  still_positive : (old new : Backing K) → KeepsLimits old new → 0 < old.levels.limit → 0 < new.levels.limit
  still_positive old new k p = subst (λ n. 0 < n) (sym k.limit) p

  -- slots of which the tokens are these are backed, if the owner stays
  same_owner : (ss : List (ℕ × GuardSlot K)) (old new : Backing K) (tokens : List (K × Mode)) → KeepsLimits old new
      → new.levels.owner ≡ old.levels.owner → 0 < old.levels.limit → SameBag new.tokens tokens
      → ((test : K × Mode → Bool) → count test tokens ≡ count test (tokens_in ss) + count test (token_of_owner old.levels.owner))
      → AreHeldBy (is_reentrant old.kind) ss old.levels.owner
      → AreCompatible (token_limit old.kind old.levels.limit) (bag_of_tokens tokens) → AreBacked ss new
  same_owner ss old new tokens keeps owner positive same counts held compatible = record {
    bag = subst (λ o. SameBag new.tokens (tokens_in ss ++ token_of_owner o)) (sym owner) (record {
      counts = λ test. omega (arith, same.counts test, counts test, count-append test (tokens_in ss) (token_of_owner old.levels.owner));
    });
    holders = subst (λ o. AreHeldBy (is_reentrant new.kind) ss o) (sym owner)
        (subst (λ n. AreHeldBy n ss old.levels.owner) (sym (same_nesting old new keeps)) held);
    compatible = subst (λ n. AreCompatible n (bag_of_tokens new.tokens)) (sym (same_behind old new keeps))
        (subst (λ g. AreCompatible (token_limit old.kind old.levels.limit) g) (sym (bag_of_same new.tokens tokens same)) compatible);
    positive = still_positive old new keeps positive;
  }

  -- without tokens nothing is backed
  pub nothing_backed : (kind : Kind) (limit places : ℕ) → 0 < limit
      → AreBacked {K = K} [] (record {
        kind = kind;
        capacity = places;
        tokens = [];
        levels = free_levels limit;
        barred = false;
      })
  nothing_backed kind limit places l = record {
    bag = record { counts = λ test. refl };
    holders = elim (is_reentrant kind) as (λ b. AreHeldBy {K = K} b [] None) [ true ↦ (tt, refl) | false ↦ (tt, refl) ];
    compatible = compatible_empty (token_limit kind limit);
    positive = l;
  }

  -- slots with the same tokens are backed where they are held by the same
  alike_backed : (ss us : List (ℕ × GuardSlot K)) (t : Backing K)
      → ((test : K × Mode → Bool) → count test (tokens_in us) ≡ count test (tokens_in ss))
      → ((n : Bool) → AreHeldBy n ss t.levels.owner → AreHeldBy n us t.levels.owner) → AreBacked ss t → AreBacked us t
  alike_backed ss us t same holders_by b = record {
    bag = record {
      counts = λ test. omega (
        arith,
        bag_count test ss t b,
        same test,
        count-append test (tokens_in us) (token_of_owner t.levels.owner),
      );
    };
    holders = holders_by (is_reentrant t.kind) b.holders;
    compatible = b.compatible;
    positive = b.positive;
  }

  -- Parked slots

  parked_count : (test : K × Mode → Bool) (s : GuardSlot K) (ss others : List (ℕ × GuardSlot K)) → Differs s ss others
      → s.hold ≡ Parked → count test (tokens_in ss) ≡ count test (tokens_in others)
  parked_count test s ss others d e = omega (arith, d.tokens test, ap (λ h. count test (token_in h s.mode)) e)

  pub drop_parked : (s : GuardSlot K) (ss others : List (ℕ × GuardSlot K)) (t : Backing K) → Differs s ss others
      → s.hold ≡ Parked → AreBacked ss t → AreBacked others t
  drop_parked s ss others t d e b =
      alike_backed ss others t (λ test. sym (parked_count test s ss others d e)) holders_by b
    where
      holders_by : (n : Bool) → AreHeldBy n ss t.levels.owner → AreHeldBy n others t.levels.owner
      holders_by true h = ((d.less is_token h.0).1, owns_same t.levels.owner _ _ h.1 (parked_held s ss others d e) (parked_party s ss others d e))
      holders_by false h = ((d.less is_level h.0).1, h.1)

  pub add_parked : (s : GuardSlot K) (ss others : List (ℕ × GuardSlot K)) (t : Backing K) → Differs s ss others → s.hold ≡ Parked
      → AreBacked others t → AreBacked ss t
  add_parked s ss others t d e b = alike_backed others ss t (λ test. parked_count test s ss others d e) holders_by b
    where
      holders_by : (n : Bool) → AreHeldBy n others t.levels.owner → AreHeldBy n ss t.levels.owner
      holders_by true h = (
        d.more is_token (ap is_token e) h.0,
        owns_same t.levels.owner _ _ h.1 (sym (parked_held s ss others d e))
            (λ p. sym (parked_party s ss others d e p)),
      )
      holders_by false h = (d.more is_level (ap is_level e) h.0, h.1)

  pub releases_parked : (hold : GuardHold K) (old new : Backing K) → hold ≡ Parked → new ≡ old → Releases hold old new
  releases_parked hold old new is same s ss others d e b = subst (λ t. AreBacked others t) (sym same) (drop_parked s ss others old d (e ∙ is) b)

  -- Slots with a token of their own

  -- the bag without the token of one slot
  bag_beside : (s : GuardSlot K) (ss others : List (ℕ × GuardSlot K)) (k : K) (t : Backing K) → Differs s ss others
      → s.hold ≡ Token k → AreBacked ss t
      → SameBag t.tokens ((k, s.mode) ∷ (tokens_in others ++ token_of_owner t.levels.owner))
  bag_beside s ss others k t d e b = record {
    counts = λ test. omega (
      arith,
      bag_count test ss t b,
      d.tokens test,
      ap (λ h. count test (token_in h s.mode)) e,
      count-append test (tokens_in others) (token_of_owner t.levels.owner),
    );
  }

  pub held_token : (k : K) (party : ℕ) (t : Backing K) (hold : GuardHold K) → hold ≡ Token k → IsHeldIn party hold t → IsOut t.tokens k
  held_token k party t hold is (s, ss, others, d, e, q, b) =
      (s.mode, (tokens_in others ++ token_of_owner t.levels.owner, bag_beside s ss others k t d (e ∙ is) b))

  releases_own : (hold : GuardHold K) (k : K) (old new : Backing K) → hold ≡ Token k → KeepsLimits old new
      → new.levels.owner ≡ old.levels.owner → Removes old.tokens new.tokens k → Releases hold old new
  releases_own hold k old new is keeps owner removed s ss others d e b =
      let rest : List (K × Mode) = tokens_in others ++ token_of_owner old.levels.owner in
      let beside : SameBag old.tokens ((k, s.mode) ∷ rest) = bag_beside s ss others k old d (e ∙ is) b in
      let left : SameBag new.tokens rest = removed s.mode rest beside in
      let readers = token_limit old.kind old.levels.limit in
      let before : AreCompatible readers (bag_of_tokens ((k, s.mode) ∷ rest))
      = subst (λ g. AreCompatible readers g) (bag_of_same old.tokens ((k, s.mode) ∷ rest) beside) b.compatible in
      same_owner others old new rest keeps owner b.positive left
      (λ test. count-append test (tokens_in others) (token_of_owner old.levels.owner)) (holders_by (is_reentrant old.kind) b.holders)
      (compatible_released readers (bag_of_tokens rest) s.mode before)
    where
      holders_by : (n : Bool) → AreHeldBy n ss old.levels.owner → AreHeldBy n others old.levels.owner
      holders_by true h = let t = (d.less is_token h.0).0 in let u = ap is_token (e ∙ is) in cc
      holders_by false h = ((d.less is_level h.0).1, h.1)

  serves_own : (party : ℕ) (mode : Mode) (k : K) (old new : Backing K) → is_reentrant old.kind ≡ false
      → KeepsLimits old new → new.levels.owner ≡ old.levels.owner
      → IsTrue (admits (token_limit old.kind old.levels.limit) (bag_of_tokens old.tokens) mode)
      → Adds old.tokens new.tokens k mode → BacksSlot party mode (Token k) old new
  serves_own party mode k old new n keeps owner admits added s ss others d e q m b =
      let held = of_others others old n b in
      let readers = token_limit old.kind old.levels.limit in
      same_owner ss old new ((k, mode) ∷ old.tokens) keeps owner b.positive added
      (λ test. omega (
        arith,
        bag_count test others old b,
        d.tokens test,
        ap (λ h. count test (token_in h s.mode)) e,
        ap (λ w. count test (token_in (Token k) w)) m,
      ))
      (subst (λ w. AreHeldBy w ss old.levels.owner) (sym n) (d.more is_level (ap is_level e) held.0, held.1))
      (compatible_acquired readers (bag_of_tokens old.tokens) mode b.compatible admits)

  -- Levels

  bag_of_owner : (ss : List (ℕ × GuardSlot K)) (t : Backing K) → NoHold is_token ss → AreBacked ss t → HasTokenOfOwner t
  bag_of_owner ss t none b = rw (no_tokens ss none) at b.bag

  -- an owner may hold its one token
  owner_compatible : (owner : Option (Owner K)) (tokens : List (K × Mode)) → SameBag tokens (token_of_owner owner)
      → AreCompatible 1 (bag_of_tokens tokens)
  owner_compatible owner tokens p = subst (λ g. AreCompatible 1 g) (sym (bag_of_same tokens (token_of_owner owner) p)) (one_token owner)
    where
      one_token : (owner : Option (Owner K)) → AreCompatible 1 (bag_of_tokens (token_of_owner owner))
      one_token None = compatible_empty 1
      one_token (Some o) = compatible_acquired 1 _ Exclusive (compatible_empty 1) refl

  -- an owner's levels are backed by its token
  owner_backs : (ss : List (ℕ × GuardSlot K)) (t : Backing K) → is_reentrant t.kind ≡ true → 0 < t.levels.limit
      → NoHold is_token ss → OwnsLevels t.levels.owner (held_of ss) → HasTokenOfOwner t
      → AreBacked ss t
  owner_backs ss t n positive none owns p = record {
    bag = rw (no_tokens ss none) p;
    holders = subst (λ w. AreHeldBy w ss t.levels.owner) (sym n) (none, owns);
    compatible = subst (λ w. AreCompatible w (bag_of_tokens t.tokens)) (sym (behind t.kind n)) (owner_compatible t.levels.owner t.tokens p);
    positive = positive;
  }
    where
      behind : (kind : Kind) → is_reentrant kind ≡ true → token_limit kind t.levels.limit ≡ 1
      behind kind n = rw n refl

  -- only a reentrant lock has a level
  reentrant_of_level : (s : GuardSlot K) (ss others : List (ℕ × GuardSlot K)) (t : Backing K) → Differs s ss others
      → s.hold ≡ Level → AreBacked ss t → is_reentrant t.kind ≡ true
  reentrant_of_level s ss others t d e b = by_nesting (is_reentrant t.kind) b.holders
    where
      by_nesting : (n : Bool) → AreHeldBy n ss t.levels.owner → n ≡ true
      by_nesting true h = refl
      by_nesting false h = let f = (d.less is_level h.0).0 in let u = ap is_level e in cc

  pub held_level : (party : ℕ) (t : Backing K) (hold : GuardHold K) → hold ≡ Level → IsHeldIn party hold t
      → (0 < level_of t.levels party) × HasTokenOfOwner t
  held_level party t hold is (s, ss, others, d, e, q, b) =
      let held = of_reentrant ss t (reentrant_of_level s ss others t d (e ∙ is) b) b in
      let some : 0 < length (held_of ss) = omega (arith, held_slot s ss others d (ap is_held (e ∙ is))) in
      let count : level_of t.levels (id_of s.party) ≡ length (held_of ss)
      = holder_owns t.levels.owner (id_of s.party) (held_of ss) (held_of others) held.1 some
      (held_party s ss others d (ap is_held (e ∙ is))) in
      (subst (λ p. 0 < level_of t.levels p) q (omega (arith, count, some)), bag_of_owner ss t held.0 b)

  pub releases_level : (hold : GuardHold K) (old new : Backing K) → hold ≡ Level → KeepsLimits old new
      → new.levels.owner ≡ one_level_less old.levels.owner → HasTokenOfOwner new
      → Releases hold old new
  releases_level hold old new is keeps left p s ss others d e b =
      let n = reentrant_of_level s ss others old d (e ∙ is) b in
      let held = of_reentrant ss old n b in
      owner_backs others new (same_nesting old new keeps ∙ n) (still_positive old new keeps b.positive) (d.less is_token held.0).1
      (subst (λ w. OwnsLevels w (held_of others)) (sym left)
      (owns_less old.levels.owner (id_of s.party) _ _ held.1 (held_slot s ss others d (ap is_held (e ∙ is)))
      (held_party s ss others d (ap is_held (e ∙ is))))) p

  pub serves_level : (party : ℕ) (mode : Mode) (old new : Backing K) → is_reentrant old.kind ≡ true
      → KeepsLimits old new → may_add_level old.levels.limit party old.levels.owner ≡ true
      → HasAddedLevel party old.levels.owner new.levels.owner → HasTokenOfOwner new
      → BacksSlot party mode Level old new
  serves_level party mode old new n keeps may entered p s ss others d e q m b =
      let held = of_reentrant others old n b in
      let of_party : (r : ℕ) → all_of_party r (held_of ss) ≡ nat_eq party r && all_of_party r (held_of others)
      = λ r. held_party s ss others d (ap is_held e) r ∙ ap (λ w. nat_eq w r && all_of_party r (held_of others)) q in
      owner_backs ss new (same_nesting old new keeps ∙ n) (still_positive old new keeps b.positive) (d.more is_token (ap is_token e) held.0)
      (owns_more old.levels.limit party old.levels.owner new.levels.owner _ _ held.1 may entered (held_slot s ss others d (ap is_held e)) of_party) p

  -- What is admitted

  bag_of_slots : (ss : List (ℕ × GuardSlot K)) (t : Backing K) → is_reentrant t.kind ≡ false → AreBacked ss t → SameBag t.tokens (tokens_in ss)
  bag_of_slots ss t n b = record {
    counts =
        λ test. omega (arith, bag_count test ss t b, ap (λ o. count test (token_of_owner o)) (of_others ss t n b).1);
  }

  -- if guards are no levels, the bag of the tokens is that of the held entries
  pub bag_of_held : (ss : List (ℕ × GuardSlot K)) (t : Backing K) → is_reentrant t.kind ≡ false → AreBacked ss t
      → bag_of_tokens t.tokens ≡ held_bag (entries_of ss)
  bag_of_held ss t n b =
      bag_of_same t.tokens (tokens_in ss) (bag_of_slots ss t n b) ∙ ap bag_of (modes_of-tokens_in ss (of_others ss t n b).0)

  -- the held tokens are those of the register
  pub bag_of_register : (places last : ℕ) (ss : List (ℕ × GuardSlot K)) (t : Backing K) → AreBacked ss t
      → bag_of_tokens t.tokens ≡ tokens_of (register_of t places last ss)
  bag_of_register places last ss t b = by_nesting (is_reentrant t.kind) refl
    where
      by_owner : (o : Option (Owner K)) → OwnsLevels o (held_of ss)
          → bag_of_tokens (token_of_owner o) ≡ cond (nat_eq (length (held_of ss)) 0) empty_bag (one_more empty_bag Exclusive)
      by_owner None h = sym (ap (λ (xs : List Entry). cond (nat_eq (length xs) 0) empty_bag (one_more empty_bag Exclusive)) h)
      by_owner (Some o) h = sym (rw (ne_eqb (length (held_of ss)) 0 (λ e. omega (arith, h.0, h.1))) refl)

      by_nesting : (n : Bool) → is_reentrant t.kind ≡ n → bag_of_tokens t.tokens ≡ tokens_of (register_of t places last ss)
      by_nesting true n =
          let held = of_reentrant ss t n b in
          rw n (bag_of_same t.tokens (token_of_owner t.levels.owner) (bag_of_owner ss t held.0 b) ∙ by_owner t.levels.owner held.1)
      by_nesting false n = rw n (bag_of_held ss t n b)

  pub admitted_level : (r : Bool) (party : ℕ) (mode : Mode) (places last : ℕ) (ss : List (ℕ × GuardSlot K)) (t : Backing K) → is_reentrant t.kind ≡ true
      → r ≡ may_add_level t.levels.limit party t.levels.owner → AreBacked ss t → r ≡ admits_ignoring_bar (register_of t places last ss) party mode
  admitted_level r party mode places last ss t n e b =
      rw n (e ∙ may_add_level-held t.levels.limit party t.levels.owner (held_of ss) b.positive (of_reentrant ss t n b).1)

  admitted_own : (r : Bool) (party : ℕ) (mode : Mode) (places last : ℕ) (ss : List (ℕ × GuardSlot K)) (t : Backing K) → is_reentrant t.kind ≡ false
      → r ≡ admits (token_limit t.kind t.levels.limit) (bag_of_tokens t.tokens) mode → AreBacked ss t
      → r ≡ admits_ignoring_bar (register_of t places last ss) party mode
  admitted_own r party mode places last ss t n e b =
      let held : r ≡ admits (token_limit t.kind t.levels.limit) (held_bag (entries_of ss)) mode
      = e ∙ ap (λ g. admits (token_limit t.kind t.levels.limit) g mode) (bag_of_held ss t n b) in
      rw n (rw n at held)

  -- The same of a backing as its fields show it

  pub releases_token : (hold : GuardHold K) (k : K) (seen old new : Backing K) → seen ≡ old → hold ≡ Token k
      → KeepsLimits seen new → new.levels.owner ≡ seen.levels.owner → Removes seen.tokens new.tokens k
      → Releases hold old new
  releases_token hold k seen old new same is keeps owner removed =
      subst (λ t. Releases hold t new) same (releases_own hold k seen new is keeps owner removed)

  pub serves_token : (party : ℕ) (mode : Mode) (k : K) (seen old new : Backing K) → seen ≡ old
      → is_reentrant seen.kind ≡ false → KeepsLimits seen new → new.levels.owner ≡ seen.levels.owner
      → IsTrue (admits (token_limit seen.kind seen.levels.limit) (bag_of_tokens seen.tokens) mode)
      → Adds seen.tokens new.tokens k mode → BacksSlot party mode (Token k) old new
  serves_token party mode k seen old new same n keeps owner admits added =
      subst (λ t. BacksSlot party mode (Token k) t new) same (serves_own party mode k seen new n keeps owner admits added)

  pub admitted_token : (r : Bool) (party : ℕ) (mode : Mode) (places last : ℕ) (ss : List (ℕ × GuardSlot K)) (seen t : Backing K) → seen ≡ t
      → is_reentrant seen.kind ≡ false → r ≡ admits (token_limit seen.kind seen.levels.limit) (bag_of_tokens seen.tokens) mode → AreBacked ss t
      → r ≡ admits_ignoring_bar (register_of t places last ss) party mode
  admitted_token r party mode places last ss seen t same n e b =
      subst (λ u. r ≡ admits_ignoring_bar (register_of u places last ss) party mode) same
      (admitted_own r party mode places last ss seen n e (subst (λ u. AreBacked ss u) (sym same) b))

  -- What room is left

  tokens_fit : (ss : List (ℕ × GuardSlot K)) → length (tokens_in ss) ≤ length ss
  tokens_fit [] = omega arith
  tokens_fit (s ∷ ss) = fit_one s.1.hold s.1.mode (length ss) (tokens_in ss) (tokens_fit ss)
    where
      fit_one : (h : GuardHold K) (mode : Mode) (n : ℕ) (us : List (K × Mode)) → length us ≤ n → length (token_in h mode ++ us) ≤ suc n
      fit_one Parked mode n us l = omega arith
      fit_one (Token k) mode n us l = omega arith
      fit_one Level mode n us l = omega arith

  pub room_bag : (t : Backing K) → is_reentrant t.kind ≡ true → HasRoom t → HasTokenOfOwner t
  room_bag t n (ss, b, l) = bag_of_owner ss t (of_reentrant ss t n b).0 b

  pub room_fits : (t : Backing K) → is_reentrant t.kind ≡ false → HasRoom t → length t.tokens < t.capacity
  room_fits t n (ss, b, l) = omega (arith, same_length (bag_of_slots ss t n b), tokens_fit ss, l)

  -- if no party owns the lock, no token is held
  pub no_owner : (owner : Option (Owner K)) (tokens : List (K × Mode)) → owner ≡ None → SameBag tokens (token_of_owner owner) → tokens ≡ []
  no_owner owner tokens e p = same_as_none tokens (subst (λ o. SameBag tokens (token_of_owner o)) e p)

  -- Whether a token is released

  -- what a hold says, from its entry and the guards that are left
  pub told_of : (back held shown : Bool) (old new : Backing K) (places last : ℕ) (others left : List (ℕ × GuardSlot K))
      → back ≡ (held && moves_token (register_of old places last others)) → held ≡ shown → new.kind ≡ old.kind
      → length (held_of others) ≡ length (held_of left) → back ≡ (shown && moves_token (register_of new places last left))
  told_of back held shown old new places last others left e f k l =
      e ∙ ap (λ h. h && moves_token (register_of old places last others)) f
      ∙ ap (λ w. shown && cond (is_reentrant w) (nat_eq (length (held_of others)) 0) true) (sym k)
      ∙ ap (λ n. shown && cond (is_reentrant new.kind) (nat_eq n 0) true) l

  pub tells_parked : (hold : GuardHold K) (old : Backing K) → hold ≡ Parked → ReturnsToken false hold old
  tells_parked hold old is places last s ss others d e b = sym (rw is refl)

  pub tells_token : (hold : GuardHold K) (k : K) (old : Backing K) → hold ≡ Token k → ReturnsToken true hold old
  tells_token hold k old is places last s ss others d e b = sym (rw (is, by_nesting (is_reentrant old.kind) b.holders) refl)
    where
      by_nesting : (n : Bool) → AreHeldBy n ss old.levels.owner → n ≡ false
      by_nesting true h = let t = (d.less is_token h.0).0 in let u = ap is_token (e ∙ is) in cc
      by_nesting false h = refl

  pub tells_level : (back : Bool) (hold : GuardHold K) (old new : Backing K) → hold ≡ Level → KeepsLimits old new
      → new.levels.owner ≡ one_level_less old.levels.owner → HasTokenOfOwner new
      → back ≡ is_none new.levels.owner → ReturnsToken back hold old
  tells_level back hold old new is keeps left p none places last s ss others d e b =
      let nested : is_reentrant old.kind ≡ true = reentrant_of_level s ss others old d (e ∙ is) b in
      let backed = releases_level hold old new is keeps left p s ss others d e b in
      none ∙ none_held new.levels.owner (held_of others)
      (of_reentrant others new (same_nesting old new keeps ∙ nested) backed).1 ∙ sym (rw (is, nested) refl)

  -- What the tokens and the levels show

  some_token : (ss : List (ℕ × GuardSlot K)) (t : Backing K) → AreBacked ss t → nat_eq (length t.tokens) 0 ≡ nat_eq (length (held_of ss)) 0
  some_token ss t b = by_nesting (is_reentrant t.kind) refl
    where
      by_owner : (o : Option (Owner K)) (xs : List Entry) → OwnsLevels o xs → nat_eq (length (token_of_owner o)) 0 ≡ nat_eq (length xs) 0
      by_owner None xs h = sym (ap (λ ys. nat_eq (length ys) 0) h)
      by_owner (Some o) [] h = absurd (omega (arith, h.0, h.1))
      by_owner (Some o) (x ∷ xs) h = sym (ne_eqb (length (x ∷ xs)) 0 (λ e. omega arith))

      length-modes_of : (ts : List (K × Mode)) → length (modes_of ts) ≡ length ts
      length-modes_of [] = refl
      length-modes_of (u ∷ ts) = ap suc (length-modes_of ts)

      length-modes_of_entries : (es : List Entry) → length (modes_of_entries es) ≡ length es
      length-modes_of_entries [] = refl
      length-modes_of_entries (e ∷ es) = ap suc (length-modes_of_entries es)

      by_nesting : (n : Bool) → is_reentrant t.kind ≡ n → nat_eq (length t.tokens) 0 ≡ nat_eq (length (held_of ss)) 0
      by_nesting true n =
          let held = of_reentrant ss t n b in
          ap (λ k. nat_eq k 0) (same_length (bag_of_owner ss t held.0 b)) ∙ by_owner t.levels.owner (held_of ss) held.1
      by_nesting false n =
          ap (λ k. nat_eq k 0) (same_length (bag_of_slots ss t n b) ∙ sym (length-modes_of (tokens_in ss))
          ∙ ap length (modes_of-tokens_in ss (of_others ss t n b).0) ∙ length-modes_of_entries (held_of ss))

  pub any_held : (r : Bool) (ss : List (ℕ × GuardSlot K)) (t : Backing K) → AreBacked ss t
      → r ≡ not (nat_eq (length t.tokens) 0) → r ≡ not (nat_eq (length (held_of ss)) 0)
  any_held r ss t b e = e ∙ ap not (some_token ss t b)

  pub owner_holds : (party : ℕ) (ss : List (ℕ × GuardSlot K)) (t : Backing K) → is_reentrant t.kind ≡ true → AreBacked ss t
      → not (nat_eq (level_of t.levels party) 0) ≡ some_of_party party (held_of ss)
  owner_holds party ss t n b = levels_of_held party t.levels.owner (held_of ss) (of_reentrant ss t n b).1

  -- a party has as many levels as the limit exactly if as many are held
  pub full_owner : (party places last : ℕ) (ss : List (ℕ × GuardSlot K)) (t : Backing K) → AreBacked ss t
      → nat_eq (level_of t.levels party) t.levels.limit ≡ is_full_count (register_of t places last ss) party
  full_owner party places last ss t b = by_nesting (is_reentrant t.kind) b.holders
    where
      by_nesting : (n : Bool) → AreHeldBy n ss t.levels.owner
          → nat_eq (level_of t.levels party) t.levels.limit
          ≡ (n && (some_of_party party (held_of ss) && nat_eq (length (held_of ss)) t.levels.limit))
      by_nesting true h = full_of_held t.levels.limit party t.levels.owner (held_of ss) b.positive h.1
      by_nesting false h = rw (h.1) (ne_eqb 0 t.levels.limit (λ f. let l = b.positive in absurd (omega arith)))

  -- A changed mode

  -- a held slot of a lock that is not reentrant has a token
  shows_token : (s : GuardSlot K) (ss others : List (ℕ × GuardSlot K)) (t : Backing K) → Differs s ss others
      → is_held s.hold ≡ true → is_reentrant t.kind ≡ false → AreBacked ss t → (k : K) × (s.hold ≡ Token k)
  shows_token s ss others t d e n b = by_hold s.hold refl e (d.less is_level (of_others ss t n b).0).0
    where
      by_hold : (h : GuardHold K) → s.hold ≡ h → is_held h ≡ true → is_level s.hold ≡ false → (k : K) × (s.hold ≡ Token k)
      by_hold Parked i e l = cc
      by_hold (Token k) i e l = (k, i)
      by_hold Level i e l = let u = ap is_level i in cc

  pub changeable : (s : GuardSlot K) (ss others : List (ℕ × GuardSlot K)) (t : Backing K) (mode : Mode) → Differs s ss others
      → is_held s.hold ≡ true → is_reentrant t.kind ≡ false → is_move s.mode mode ≡ true → AreBacked ss t
      → HasChangeable t.tokens s mode
  changeable s ss others t mode d e n m b =
      let k = shows_token s ss others t d e n b in
      (k.0, k.1, (s.mode, (m, (tokens_in others ++ token_of_owner t.levels.owner, bag_beside s ss others k.0 t d k.1 b))))

  exchanged : (s u : GuardSlot K) (ss us others : List (ℕ × GuardSlot K)) (old new : Backing K) (mode : Mode)
      → is_reentrant old.kind ≡ false → KeepsLimits old new → new.levels.owner ≡ old.levels.owner
      → IsTrue (is_move s.mode mode) → IsTrue (may_become (bag_of_tokens old.tokens) mode) → Differs s ss others
      → Differs u us others → HasExchanged old.tokens new.tokens s u mode → AreBacked ss old → AreBacked us new
  exchanged s u ss us others old new mode n keeps owner moves may d f (k, l, h, is, replaced) b =
      let hold : u.hold ≡ Token l = ap (λ (w : GuardSlot K). w.hold) is in
      let to : u.mode ≡ mode = ap (λ (w : GuardSlot K). w.mode) is in
      let rest : List (K × Mode) = tokens_in others ++ token_of_owner old.levels.owner in
      let beside : SameBag old.tokens ((k, s.mode) ∷ rest) = bag_beside s ss others k old d h b in
      let now : SameBag new.tokens ((l, mode) ∷ rest) = replaced s.mode rest beside in
      let was : bag_of_tokens old.tokens ≡ bag_of_tokens ((k, s.mode) ∷ rest) = bag_of_same old.tokens ((k, s.mode) ∷ rest) beside in
      let held = of_others ss old n b in
      let behind : token_limit old.kind old.levels.limit ≡ old.levels.limit = rw n refl in
      let before : AreCompatible old.levels.limit (bag_of_tokens ((k, s.mode) ∷ rest))
      = subst (λ w. AreCompatible w (bag_of_tokens ((k, s.mode) ∷ rest))) behind
      (subst (λ g. AreCompatible (token_limit old.kind old.levels.limit) g) was b.compatible) in
      let after : AreCompatible old.levels.limit (bag_of_tokens ((l, mode) ∷ rest))
      = compatible_changed old.levels.limit (bag_of_tokens rest) s.mode mode b.positive moves
      (subst (λ g. IsTrue (may_become g mode)) was may) before in
      same_owner us old new ((l, mode) ∷ rest) keeps owner b.positive now
      (λ test. omega (
        arith,
        f.tokens test,
        ap (λ w. count test (token_in w u.mode)) hold,
        ap (λ w. count test (token_in (Token l) w)) to,
        count-append test (tokens_in others) (token_of_owner old.levels.owner),
      ))
      (subst (λ w. AreHeldBy w us old.levels.owner) (sym n) (f.more is_level (ap is_level hold) (d.less is_level held.0).1, held.1))
      (subst (λ w. AreCompatible w (bag_of_tokens ((l, mode) ∷ rest))) (sym behind) after)

  pub backed_after_change : (r : Bool) (n : ℕ) (ss : List (ℕ × GuardSlot K)) (s u : GuardSlot K) (old new : Backing K)
      (mode : Mode) → items.find n ss ≡ Some s → is_reentrant old.kind ≡ false → KeepsLimits old new
      → new.levels.owner ≡ old.levels.owner → IsTrue (is_move s.mode mode)
      → r ≡ may_become (bag_of_tokens old.tokens) mode
      → OnTrue r (HasExchanged old.tokens new.tokens s u mode) → OnFalse r ((u ≡ s) × (new ≡ old)) → AreBacked ss old
      → AreBacked (items.put n u ss) new
  backed_after_change true n ss s u old new mode e alone keeps owner moves may done kept b =
      exchanged s u ss (items.put n u ss) (items.without n ss) old new mode alone keeps owner moves (sym may)
      (differs_found n ss s e) (differs_put n ss s u e) done b
  backed_after_change false n ss s u old new mode e alone keeps owner moves may done kept b =
      let same : items.put n u ss ≡ ss = ap (λ (w : GuardSlot K). items.put n w ss) kept.0 ∙ same_put n ss s e in
      subst (λ xs. AreBacked xs new) (sym same) (subst (λ t. AreBacked ss t) (sym kept.1) b)

  pub shown_after_change : (r : Bool) (ts us : List (K × Mode)) (s t : GuardSlot K) (mode : Mode)
      → OnTrue r (HasExchanged ts us s t mode) → is_held s.hold ≡ true
      → OnTrue r (slot_entry t ≡ in_mode mode (slot_entry s))
  shown_after_change true ts us s t mode (k, l, h, is, replaced) held =
      let entry : Bool → Entry = λ b. record { party = id_of s.party; mode = mode; held = b } in
      ap slot_entry is ∙ ap entry (sym held)
  shown_after_change false ts us s t mode done held = tt

  -- What is admitted again

  -- the party of a held slot has the levels of all held slots
  held_levels : (s : GuardSlot K) (ss others : List (ℕ × GuardSlot K)) (t : Backing K) → is_reentrant t.kind ≡ true
      → Differs s ss others → is_held s.hold ≡ true → AreBacked ss t
      → level_of t.levels (id_of s.party) ≡ length (held_of ss)
  held_levels s ss others t n d e b =
      holder_owns t.levels.owner (id_of s.party) (held_of ss) (held_of others) (of_reentrant ss t n b).1
      (omega (arith, held_slot s ss others d e)) (held_party s ss others d e)

  -- the held guards are legal if this is no level, or the only one
  held_legally : (ss : List (ℕ × GuardSlot K)) (t : Backing K) → (is_reentrant t.kind ≡ true → length (held_of ss) ≡ 1) → AreBacked ss t
      → AreLegallyHeld (is_reentrant t.kind) t.levels.limit (entries_of ss)
  held_legally ss t alone b = by_nesting (is_reentrant t.kind) refl
    where
      by_owner : (o : Option (Owner K)) → OwnsLevels o (held_of ss) → length (held_of ss) ≡ 1
          → (party : ℕ) × IsTrue (all_of_party party (held_of ss))
      by_owner None h one = absurd (omega (arith, ap length h, one))
      by_owner (Some o) h one = (o.party, h.2)

      by_nesting : (n : Bool) → is_reentrant t.kind ≡ n → AreLegallyHeld n t.levels.limit (entries_of ss)
      by_nesting true n = (by_owner t.levels.owner (of_reentrant ss t n b).1 (alone n), omega (arith, alone n, b.positive))
      by_nesting false n =
          let behind : token_limit t.kind t.levels.limit ≡ t.levels.limit = rw n refl in
          subst (λ g. AreCompatible t.levels.limit g) (bag_of_held ss t n b)
          (subst (λ l. AreCompatible l (bag_of_tokens t.tokens)) behind b.compatible)

  -- a guard that releases its token is admitted again
  pub fits_in_after_park : (n places last : ℕ) (ss : List (ℕ × GuardSlot K)) (s : GuardSlot K) (t : Backing K) → items.find n ss ≡ Some s
      → is_held s.hold ≡ true → bumps t (id_of s.party) ≡ true → AreBacked ss t
      → admits_ignoring_bar (with_change (register_of t places last ss) n parked_entry) (id_of s.party) s.mode ≡ true
  fits_in_after_park n places last ss s t e held may b =
      let levels : is_reentrant t.kind ≡ true → level_of t.levels (id_of s.party) ≡ length (held_of ss)
      = λ nested. held_levels s ss _ t nested (differs_found n ss s e) held b in
      let one : is_reentrant t.kind ≡ true → length (held_of ss) ≡ 1
      = λ nested. sym (levels nested) ∙ eqb-true (level_of t.levels (id_of s.party)) 1 (rw nested at may) in
      let place = splice n (slot_entry s) (entries_of ss) (entry_found n ss s e) in
      fits_in_again (with_change (register_of t places last ss) n parked_entry) (id_of s.party) (slot_entry s) (entries_of ss)
      (more_than_parked n (slot_entry s) (entries_of ss) place held) (λ nested. refl) (held_legally ss t one b)

  pub bumps_backed : (n places last : ℕ) (ss : List (ℕ × GuardSlot K)) (s : GuardSlot K) (t : Backing K)
      → items.find n ss ≡ Some s → is_held s.hold ≡ true → AreBacked ss t
      → bumps t (id_of s.party) ≡ bumps_token (register_of t places last ss)
  bumps_backed n places last ss s t e held b = by_nesting (is_reentrant t.kind) refl
    where
      by_nesting : (b : Bool) → is_reentrant t.kind ≡ b → bumps t (id_of s.party) ≡ bumps_token (register_of t places last ss)
      by_nesting true nested = rw nested (ap (λ k. nat_eq k 1) (held_levels s ss _ t nested (differs_found n ss s e) held b))
      by_nesting false nested = rw nested refl
