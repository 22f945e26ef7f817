-- Two parties never hold modes of one lock that exclude each other.
use Rattle.std.proofs.Common.{◌≡◌, ◌≢◌, ℕ, zero, suc, ◌+◌, ◌<◌, ◌≤◌, ◌⊎◌, inl, inr, Bool, true, false, not, ◌&&◌, ◌||◌, if◌then◌else◌, List, [], ◌∷◌, get_or, Option, Some, None, refl, ap, sym, ◌∙◌, arith}
use Rattle.std.specs.Prelude.{◌==◌, nat_lt}
use Rattle.std.proofs.lemmas.Bool.{and_parts, or_cases, or_from, or_right, false_from_ne_true, false≢true, ltb-true, lt-ltb, eqb-true}
use Rattle.lock_modes.specs.declared.bag.Bag.{Bag}
use Rattle.lock_modes.specs.declared.hold.Hold.{Hold}
use Rattle.lock_modes.specs.declared.lock_step.LockStep.{LockStep}
use Rattle.lock_modes.specs.declared.lock_step.LockStep.TheVariants as lock_step
use Rattle.lock_modes.specs.declared.mode.Mode.{Mode}
use Rattle.lock_modes.specs.declared.mode.Mode.TheVariants.{Shared, Exclusive, Upgradable}
use Rattle.lock_modes.specs.declared.mode_step.ModeStep.TheVariants.{Acquire, Release, Change}
use Rattle.lock_modes.specs.Bar.{bar_lets_pass}
use Rattle.lock_modes.specs.Holds.{no_hold, hold_after}
use Rattle.lock_modes.specs.Kind.{is_reentrant, is_rwlock}
use Rattle.lock_modes.specs.Modes.{admits, count_of, is_move, may_become, one_less, one_more, readers, tokens}
use Rattle.lock_plan.specs.declared.fault.CallFault.{CallFault}
use Rattle.lock_plan.specs.declared.fault.CallFault.TheVariants.{WrongKind}
use Rattle.lock_plan.specs.declared.lock.PlanLock.{PlanLock}
use Rattle.lock_plan.specs.declared.turn.Turn.TheVariants.{Goes, Announces, Waits}
use Rattle.lock_plan.specs.CallFaults.{fault_on}
use Rattle.lock_plan.specs.Holds.{admits_step, turn_on}
use Rattle.lock_plan.specs.Worlds.{bag_on, bar_from, lock_holds}
use Rattle.lock_plan_laws.specs.WaitRanks.{excludes, is_sole}

-- what one party holds keeps another one from what it would exclude
pub record Spares (lock : PlanLock) (a b : Bag) : Type 0 where
  pub sole : is_sole lock a ≡ true → 0 < tokens a → tokens b ≡ 0
  pub single : 0 < a.upgradable → b.upgradable ≡ 0

pub record Coexist (lock : PlanLock) (a b : Bag) : Type 0 where
  pub there : Spares lock a b
  pub back : Spares lock b a

pub turned : (lock : PlanLock) (a b : Bag) → Coexist lock a b → Coexist lock b a
turned lock a b c = record { there = c.back; back = c.there }

pub not_excluded : (lock : PlanLock) (a b : Bag) → Coexist lock a b → excludes lock a b ≡ false
not_excluded lock a b c =
    or_from ((is_sole lock a || is_sole lock b) && (nat_lt 0 (tokens a) && nat_lt 0 (tokens b))) (nat_lt 0 a.upgradable && nat_lt 0 b.upgradable)
    (false_from_ne_true _ (λ e.
    let two = and_parts (is_sole lock a || is_sole lock b) (nat_lt 0 (tokens a) && nat_lt 0 (tokens b)) e in
    let some = and_parts (nat_lt 0 (tokens a)) (nat_lt 0 (tokens b)) two.1 in
    let here = ltb-true 0 (tokens a) some.0 in
    let there = ltb-true 0 (tokens b) some.1 in
    elim (or_cases (is_sole lock a) (is_sole lock b) two.0) [
      | inl s ↦ let none = c.there.sole s here in omega (arith, there, none)
      | inr s ↦ let none = c.back.sole s there in omega (arith, here, none)
    ]))
    (false_from_ne_true _ (λ e.
    let two = and_parts (nat_lt 0 a.upgradable) (nat_lt 0 b.upgradable) e in
    let none = c.there.single (ltb-true 0 a.upgradable two.0) in
    let some = ltb-true 0 b.upgradable two.1 in
    omega (arith, some, none)))

-- one that holds nothing excludes nobody
pub beside_none : (lock : PlanLock) (a b : Bag) → tokens b ≡ 0 → Coexist lock a b
beside_none lock a b none = record {
  there = record { sole = λ s some. none; single = λ some. omega (arith, none) };
  back = record { sole = λ s some. absurd (omega (arith, none, some)); single = λ some. absurd (omega (arith, none, some)) };
}

module _ (lock : PlanLock) (own other : Bag) (c : Coexist lock own other) where
  -- holding fewer excludes no more
  beside_fewer : (fewer : Bag) → fewer.shared ≤ own.shared → fewer.exclusive ≤ own.exclusive → fewer.upgradable ≤ own.upgradable
      → Coexist lock fewer other
  beside_fewer fewer s e u = record {
    there = record {
      sole = λ is some.
          c.there.sole (sole_more (is_reentrant lock.kind) (or_cases (is_reentrant lock.kind) (nat_lt 0 fewer.exclusive) is)) (omega (arith, s, e, u, some));
      single = λ some. c.there.single (omega (arith, u, some));
    };
    back = record {
      sole = λ is some. let none = c.back.sole is some in omega (arith, s, e, u, none);
      single = λ some. let none = c.back.single some in omega (arith, u, none);
    };
  }
    where
      sole_more : (r : Bool) → (r ≡ true) ⊎ (nat_lt 0 fewer.exclusive ≡ true) → (r || nat_lt 0 own.exclusive) ≡ true
      sole_more true is = refl
      sole_more false (inl is) = absurd (false≢true is)
      sole_more false (inr is) = let some = ltb-true 0 fewer.exclusive is in lt-ltb 0 own.exclusive (omega (arith, e, some))

  released_beside : (mode : Mode) → Coexist lock (one_less own mode) other
  released_beside Shared = beside_fewer (one_less own Shared) (omega arith) (omega arith) (omega arith)
  released_beside Exclusive = beside_fewer (one_less own Exclusive) (omega arith) (omega arith) (omega arith)
  released_beside Upgradable = beside_fewer (one_less own Upgradable) (omega arith) (omega arith) (omega arith)

  -- of what all hold, each holds a part
  record AreParts (all : Bag) : Type 0 where
    shared : own.shared + other.shared ≤ all.shared
    exclusive : own.exclusive + other.exclusive ≤ all.exclusive
    upgradable : own.upgradable + other.upgradable ≤ all.upgradable

  -- neither holds exclusively, and the other one is not sole
  beside_shared : is_reentrant lock.kind ≡ false → (more : Bag) → more.exclusive ≡ 0 → other.exclusive ≡ 0
      → (0 < more.upgradable → other.upgradable ≡ 0) → Coexist lock more other
  beside_shared plain more none none_there single = record {
    there = record { sole = λ is some. absurd (no_sole more none is); single = single };
    back = record {
      sole = λ is some. absurd (no_sole other none_there is);
      single = λ some. none_back (cases_zero more.upgradable) some;
    };
  }
    where
      no_sole : (b : Bag) → b.exclusive ≡ 0 → is_sole lock b ≡ true → ⊥
      no_sole b zero_is is = elim (or_cases (is_reentrant lock.kind) (nat_lt 0 b.exclusive) is) [
        | inl r ↦ false≢true (sym plain ∙ r)
        | inr some ↦ let more = ltb-true 0 b.exclusive some in omega (arith, zero_is, more)
      ]

      cases_zero : (n : ℕ) → (n ≡ 0) ⊎ (0 < n)
      cases_zero zero = inl refl
      cases_zero (suc n) = inr (omega arith)

      none_back : (more.upgradable ≡ 0) ⊎ (0 < more.upgradable) → 0 < other.upgradable → more.upgradable ≡ 0
      none_back (inl is) some = is
      none_back (inr many) some = let none = single many in absurd (omega (arith, none, some))

  acquired_beside : (limit : ℕ) (all : Bag) (mode : Mode) → AreParts all → is_reentrant lock.kind ≡ false → admits limit all mode ≡ true
      → Coexist lock (one_more own mode) other
  acquired_beside limit all Shared parts plain e =
      let two = and_parts (all.exclusive == 0) (nat_lt (readers all) limit) e in
      let none = eqb-true all.exclusive 0 two.0 in
      beside_shared plain (one_more own Shared) (omega (arith, none, parts.exclusive)) (omega (arith, none, parts.exclusive)) c.there.single
  acquired_beside limit all Exclusive parts plain e =
      let none = eqb-true (tokens all) 0 e in
      beside_none lock (one_more own Exclusive) other (omega (arith, none, parts.shared, parts.exclusive, parts.upgradable))
  acquired_beside limit all Upgradable parts plain e =
      let two = and_parts (all.exclusive == 0) ((all.upgradable == 0) && nat_lt (readers all) limit) e in
      let none = eqb-true all.exclusive 0 two.0 in
      let single = eqb-true all.upgradable 0 (and_parts (all.upgradable == 0) (nat_lt (readers all) limit) two.1).0 in
      beside_shared plain (one_more own Upgradable) (omega (arith, none, parts.exclusive)) (omega (arith, none, parts.exclusive))
      (λ some. omega (arith, single, parts.upgradable))

  sole_by : 0 < own.exclusive → tokens other ≡ 0
  sole_by some = c.there.sole (or_right (is_reentrant lock.kind) (nat_lt 0 own.exclusive) (lt-ltb 0 own.exclusive some)) (omega (arith, some))

  changed_beside : (all : Bag) (from to : Mode) → AreParts all → 0 < count_of own from → is_move from to ≡ true → may_become all to ≡ true
      → Coexist lock (one_more (one_less own from) to) other
  changed_beside all Exclusive Shared parts some move e = beside_none lock _ other (sole_by some)
  changed_beside all Exclusive Upgradable parts some move e = beside_none lock _ other (sole_by some)
  changed_beside all Upgradable Exclusive parts some move e =
      let one = eqb-true (tokens all) 1 e in
      beside_none lock _ other (omega (arith, one, some, parts.shared, parts.exclusive, parts.upgradable))
  changed_beside all Upgradable Shared parts some move e = record {
    there = record {
      sole = λ is held. c.there.sole is (omega (arith, some));
      single = λ held. c.there.single some;
    };
    back = record {
      sole = λ is held. let none = c.back.sole is held in absurd (omega (arith, some, none));
      single = λ held. let none = c.back.single held in absurd (omega (arith, some, none));
    };
  }
  changed_beside all Shared Shared parts some move e = cc
  changed_beside all Shared Exclusive parts some move e = cc
  changed_beside all Shared Upgradable parts some move e = cc
  changed_beside all Exclusive Exclusive parts some move e = cc
  changed_beside all Upgradable Upgradable parts some move e = cc

-- What all parties hold of a lock

pub hold_in : List (List Hold) → ℕ → ℕ → Hold
hold_in hss party l = get_or (get_or hss party []) l no_hold

-- the bag is a part of the other one
pub record IsWithin (a all : Bag) : Type 0 where
  pub shared : a.shared ≤ all.shared
  pub exclusive : a.exclusive ≤ all.exclusive
  pub upgradable : a.upgradable ≤ all.upgradable

pub one_within : (hss : List (List Hold)) (l p : ℕ) → IsWithin (get_or (get_or hss p []) l no_hold).bag (bag_on l hss)
one_within [] l p = record { shared = omega arith; exclusive = omega arith; upgradable = omega arith }
one_within (hs ∷ hss) l zero = record { shared = omega arith; exclusive = omega arith; upgradable = omega arith }
one_within (hs ∷ hss) l (suc p) =
    let rest = one_within hss l p in
    record { shared = omega (arith, rest.shared); exclusive = omega (arith, rest.exclusive); upgradable = omega (arith, rest.upgradable) }

-- two parties together hold a part of it
pub record AreWithin (a b all : Bag) : Type 0 where
  pub shared : a.shared + b.shared ≤ all.shared
  pub exclusive : a.exclusive + b.exclusive ≤ all.exclusive
  pub upgradable : a.upgradable + b.upgradable ≤ all.upgradable

pub two_within : (hss : List (List Hold)) (l p q : ℕ) → p ≢ q
    → AreWithin (get_or (get_or hss p []) l no_hold).bag (get_or (get_or hss q []) l no_hold).bag (bag_on l hss)
two_within [] l p q other = record { shared = omega arith; exclusive = omega arith; upgradable = omega arith }
two_within (hs ∷ hss) l zero zero other = absurd (other refl)
two_within (hs ∷ hss) l zero (suc q) other =
    let rest = one_within hss l q in
    record { shared = omega (arith, rest.shared); exclusive = omega (arith, rest.exclusive); upgradable = omega (arith, rest.upgradable) }
two_within (hs ∷ hss) l (suc p) zero other =
    let rest = one_within hss l p in
    record { shared = omega (arith, rest.shared); exclusive = omega (arith, rest.exclusive); upgradable = omega (arith, rest.upgradable) }
two_within (hs ∷ hss) l (suc p) (suc q) other =
    let rest = two_within hss l p q (λ same. other (ap suc same)) in
    record { shared = omega (arith, rest.shared); exclusive = omega (arith, rest.exclusive); upgradable = omega (arith, rest.upgradable) }

-- A step that is admitted

pub admitted : (a b : Bool) → (if a then Goes else (if b then Announces else Waits)) ≡ Goes → a ≡ true
admitted true b e = refl
admitted false true e = cc
admitted false false e = cc

pub right_kind : (b : Bool) (o : Option CallFault) → (if not b then Some WrongKind else o) ≡ None → (b ≡ true) × (o ≡ None)
right_kind true o e = (refl, e)
right_kind false o e = cc

no_lack : (b : Bool) (fault : CallFault) (o : Option CallFault) → (if not b then Some fault else o) ≡ None → b ≡ true
no_lack true fault o e = refl
no_lack false fault o e = cc

module _ (lock : PlanLock) (hss : List (List Hold)) (p q l : ℕ) (different : p ≢ q) where
  abbrev own : Hold
  own = get_or (get_or hss p []) l no_hold

  abbrev other : Hold
  other = get_or (get_or hss q []) l no_hold

  parts : (c : Coexist lock own.bag other.bag) → AreParts lock own.bag other.bag c (bag_on l hss)
  parts c =
      let two = two_within hss l p q different in
      record { shared = two.shared; exclusive = two.exclusive; upgradable = two.upgradable }

  by_owner : (r : Bool) (mode : Mode) → is_reentrant lock.kind ≡ r → Coexist lock own.bag other.bag
      → (if r then tokens (bag_on l hss) == tokens own.bag else admits lock.limit (bag_on l hss) mode) ≡ true
      → Coexist lock (one_more own.bag mode) other.bag
  by_owner true mode is c e =
      let all = eqb-true (tokens (bag_on l hss)) (tokens own.bag) e in
      let two = two_within hss l p q different in
      beside_none lock (one_more own.bag mode) other.bag (omega (arith, all, two.shared, two.exclusive, two.upgradable))
  by_owner false mode is c e = acquired_beside lock own.bag other.bag c lock.limit (bag_on l hss) mode (parts c) is e

  -- the party may make the step next to what the other one holds
  pub goes_beside : (s : LockStep) → turn_on lock (lock_holds hss p l) s ≡ Goes → fault_on lock own s ≡ None
      → Coexist lock own.bag other.bag → Coexist lock (hold_after own s).bag other.bag
  goes_beside (lock_step.Modes (Acquire mode)) e right c =
      let lets = admitted (admits_step lock (lock_holds hss p l) (Acquire mode)) _ e in
      let two = and_parts (bar_lets_pass (bar_from 0 l hss) p mode)
      (if is_reentrant lock.kind then tokens (bag_on l hss) == tokens own.bag else admits lock.limit (bag_on l hss) mode) lets in
      by_owner (is_reentrant lock.kind) mode refl c two.1
  goes_beside (lock_step.Modes (Release mode)) e right c = released_beside lock own.bag other.bag c mode
  goes_beside (lock_step.Modes (Change from to)) e right c =
      let may = admitted (admits_step lock (lock_holds hss p l) (Change from to)) _ e in
      let kind = right_kind (is_move from to && is_rwlock lock.kind) _ right in
      let some = ltb-true 0 (count_of own.bag from) (no_lack (nat_lt 0 (count_of own.bag from)) CallFault.NotHeld _ kind.1) in
      changed_beside lock own.bag other.bag c (bag_on l hss) from to (parts c) some (and_parts (is_move from to) (is_rwlock lock.kind) kind.0).0 may
  goes_beside lock_step.Announce e right c = c
  goes_beside lock_step.Withdraw e right c = c
