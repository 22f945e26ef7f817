-- Each kind of step keeps the rule of a semaphore.
use Rattle.std.proofs.Common.{◌≡◌, ℕ, zero, suc, ◌+◌, ◌-◌, ◌%◌, ◌^◌, ◌≤◌, inl, inr, List, [], ◌∷◌, ◌++◌, set, get_or, slice_set, refl, sym, ap, ◌∙◌, arith, eqb, length-set, get_or-set_same}
use mathlib.Core.Option.{some, none, some-injective, some-ne-none}
use lib.ListN.{get_elem?}
use prog.Atomic.{either}
use Rattle.atomic_table.specs.Table.{Act, step, keeps, stepped, carried_after, Valid, Allows, Enters}
use Rattle.atomic_table.proofs.Lists.{at_set, at_snoc, exchanged}
use Rattle.lock_ruled.specs.declared.shared_semaphore.rule.PermitView.{PermitView}
use Rattle.lock_ruled.specs.Accounts.{newcomer, Table, free_in, held_of, IsAccounted}
use Rattle.lock_ruled.specs.PermitPlays.{Self, Looks, Takes, Gives}

abbrev own_of : PermitView → ℕ
own_of v = v.own

sum_set : (l : List PermitView) (i : ℕ) (a b : PermitView) → get_elem? l i ≡ some a
    → held_of (set l i b) + a.own ≡ held_of l + b.own
sum_set [] i a b e = absurd (some-ne-none a (sym e))
sum_set (x ∷ xs) zero a b e = let same = ap own_of (some-injective x a e) in omega arith
sum_set (x ∷ xs) (suc i) a b e = let h = sum_set xs i a b e in omega arith

sum_snoc : (l : List PermitView) (a : PermitView) → held_of (l ++ a ∷ []) ≡ held_of l + a.own
sum_snoc [] a = omega arith
sum_snoc (x ∷ xs) a = let h = sum_snoc xs a in omega arith

own_at : (l : List PermitView) (i : ℕ) (a : PermitView) → get_elem? l i ≡ some a → a.own ≤ held_of l
own_at [] i a e = absurd (some-ne-none a (sym e))
own_at (x ∷ xs) zero a e = let same = ap own_of (some-injective x a e) in omega arith
own_at (x ∷ xs) (suc i) a e = let h = own_at xs i a e in omega arith

-- a step of the party at id to this view, after which so many permits are free
kept_by : (all id free : ℕ) (s : Table) (u w : PermitView) → IsAccounted all s → get_elem? s.views id ≡ some u
    → free + w.own ≡ free_in s + u.own → w.all ≡ u.all
    → IsAccounted all record { words = slice_set s.words 0 free; homes = s.homes; views = slice_set s.views id w }
kept_by all id free s u w kept at same knows =
    let one = kept.one_word in
    let sum = kept.sum in
    let held = sum_set s.views id u w at in
    let own = own_at s.views id u at in
    let word : get_or (set s.words 0 free) 0 0 ≡ free = get_or-set_same s.words 0 free 0 (omega arith) in
    record {
      one_word = length-set s.words 0 free ∙ kept.one_word;
      range = kept.range;
      known = λ k v h.
          elim (at_set s.views id k w v h) [
            | inl e ↦ sym (ap (λ (x : PermitView). x.all) e.1) ∙ (knows ∙ kept.known id u at)
            | inr e ↦ kept.known k v e.1
          ];
      sum = omega arith;
    }

within : (all id : ℕ) (s : Table) (u : PermitView) → IsAccounted all s → get_elem? s.views id ≡ some u
    → free_in s + u.own ≤ u.all
within all id s u kept at =
    let knows = kept.known id u at in
    let sum = kept.sum in
    let own = own_at s.views id u at in
    omega arith

pub enters : (all slots : ℕ) → Enters (IsAccounted all) slots 0 (λ n w. Looks (newcomer all, []) n (w, []))
enters all slots s kept same small =
    let sum = kept.sum in
    let held = sum_snoc s.views (newcomer all) in (
      newcomer all,
      record {
        one_word = kept.one_word;
        range = kept.range;
        known = λ k v h.
            elim (at_snoc s.views (newcomer all) v k h) [
              | inl e ↦ kept.known k v e
              | inr e ↦ sym (ap (λ (x : PermitView). x.all) e)
            ];
        sum = omega arith;
      },
      (refl, omega arith),
    )

pub takes : (all slots id : ℕ) (me : Self) (old new : ℕ) → new ≤ old
    → Allows (IsAccounted all) slots id me 0 (λ n. either (eqb n old) new n) (Takes (step slots 0 old new none) me)
takes all slots id me old new less s kept same at small =
    let free = free_in s in
    let fits = within all id s me.0 kept at in
    let w : PermitView = record me.0 { own = me.0.own + (old - new) } in
    exchanged free old new
    (λ n. (w : PermitView) × (a : Act (Unit {0})) × Valid s.homes me.1 a × IsAccounted all (stepped s 0 n id me.1 w a)
    × Takes (step slots 0 old new none) me free (w, carried_after me.1 a))
    (λ hit. (
      w,
      keeps,
      tt,
      kept_by all id new s me.0 w kept at (omega arith) refl,
      ((λ h. refl), (λ miss. absurd (miss hit)), fits),
    ))
    (λ miss. (
      me.0,
      keeps,
      tt,
      kept_by all id free s me.0 me.0 kept at refl refl,
      ((λ hit. absurd (miss hit)), (λ h. refl), fits),
    ))

pub gives : (all slots id : ℕ) (me : Self) (permits : ℕ) → permits ≤ me.0.own
    → Allows (IsAccounted all) slots id me 0 (λ n. (n + permits) % 2 ^ 64) (λ n. Gives (step slots 0 permits 0 none) me n)
gives all slots id me permits has s kept same at small =
    let free = free_in s in
    let fits = within all id s me.0 kept at in
    let knows = kept.known id me.0 at in
    let range = kept.range in
    let w : PermitView = record me.0 { own = me.0.own - permits } in
    let next : (free + permits) % 2 ^ 64 ≡ free + permits = omega arith in (
      w,
      keeps,
      tt,
      kept_by all id ((free + permits) % 2 ^ 64) s me.0 w kept at (omega arith) refl,
      refl,
    )
