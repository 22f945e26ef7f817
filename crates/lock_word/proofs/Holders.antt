-- A step of one holder is the same step on the sum of all holds.
use Rattle.std.proofs.Common.{◌≡◌, ℕ, zero, suc, ◌+◌, ◌-◌, ◌<◌, ◌≤◌, Bool, true, false, ◌&&◌, not, List, [], ◌∷◌, ◌++◌, get_or, slice_get, slice_set, sum_by, replicate, Some, IsTrue, refl, sym, ap, subst, ◌∙◌, arith, ltb-true}
use Rattle.std.specs.Prelude.{⊤}
use Rattle.std.proofs.lemmas.List.Sums.{sum_by-set, sum_by-cons, get_or-le-sum_by}
use Rattle.std.proofs.lemmas.Option.{slice_get_within, get_or_from_slice_get}
use Rattle.lock_modes.specs.declared.mode.Mode.{Mode}
use Rattle.lock_modes.specs.declared.mode.Mode.TheVariants.{Shared, Exclusive, Upgradable}
use Rattle.lock_modes.specs.declared.mode_step.ModeStep.{ModeStep}
use Rattle.lock_modes.specs.declared.mode_step.ModeStep.TheVariants.{Acquire, Release, Change}
use Rattle.lock_modes.specs.declared.bag.Bag.{Bag}
use Rattle.lock_modes.specs.declared.hold.Hold.{Hold}
use Rattle.lock_modes.specs.declared.lock_step.LockStep.{LockStep}
use Rattle.lock_modes.specs.declared.lock_step.LockStep.TheVariants.{Modes, Announce, Withdraw}
use Rattle.lock_modes.specs.Modes.{empty_bag, count_of, one_more, one_less}
use Rattle.lock_modes.specs.ModeRuns.{has, bag_after, IsModeRun}
use Rattle.lock_modes.specs.Holds.{ends_bar, no_hold, hold_has, hold_after}
use Rattle.lock_modes.proofs.TokenBags.{same_counts}
use Rattle.lock_word.specs.BarredBags.{BarredBag, bars_of, without_bars, PermitsLockStep, barred_after}
use Rattle.lock_word.specs.Holders.{all_of, IsPart, holder_at, HolderStep, IsHolderStep, IsHolderRun, modes_of, steps_of}

-- the bag has what the step releases or changes
abbrev pub HasModes : Bag → ModeStep → Type 0
HasModes b (Acquire mode) = ⊤
HasModes b (Release mode) = 0 < count_of b mode
HasModes b (Change from to) = 0 < count_of b from

-- the same of a bag with bars
abbrev pub Has : BarredBag → LockStep → Type 0
Has all (Modes step) = HasModes all.bag step
Has all Announce = ⊤
Has all Withdraw = 0 < all.bars

modes_from_test : (b : Bag) (s : ModeStep) → IsTrue (has b s) → HasModes b s
modes_from_test b (Acquire m) h = tt
modes_from_test b (Release m) h = ltb-true 0 (count_of b m) h
modes_from_test b (Change from to) h = ltb-true 0 (count_of b from) h

-- a part has no more of a mode than the whole
count-part : (own : Hold) (all : BarredBag) (mode : Mode) → IsPart own all → count_of own.bag mode ≤ count_of all.bag mode
count-part own all Shared part = part.shared
count-part own all Exclusive part = part.exclusive
count-part own all Upgradable part = part.upgradable

modes-part : (own : Hold) (all : BarredBag) (s : ModeStep) → IsPart own all → HasModes own.bag s → HasModes all.bag s
modes-part own all (Acquire mode) part h = tt
modes-part own all (Release mode) part h = let le = count-part own all mode part in omega arith
modes-part own all (Change from to) part h = let le = count-part own all from part in omega arith

pub has_of_part : (own : Hold) (all : BarredBag) (s : LockStep) → IsPart own all → IsTrue (hold_has own s) → Has all s
has_of_part own all (Modes s) part h = modes-part own all s part (modes_from_test own.bag s h)
has_of_part own all Announce part h = tt
has_of_part own all Withdraw part h =
    let bar : bars_of own.announced ≡ 1 = ap bars_of h in
    let le = part.bars in
    omega arith

-- one element of a list is changed, and the sum changes by as much
pub sum_by-slice_set : {X : Type 0} (f : X → ℕ) (xs : List X) (k : ℕ) (x y : X) → slice_get xs k ≡ Some x
    → sum_by f (slice_set xs k y) + f x ≡ sum_by f xs + f y
sum_by-slice_set f xs k x y h =
    let at : get_or xs k x ≡ x = get_or_from_slice_get xs k x x h in
    rw at at (sum_by-set f xs k y x (slice_get_within xs k x h))

pub le-sum_by : {X : Type 0} (f : X → ℕ) (xs : List X) (k : ℕ) (x : X) → slice_get xs k ≡ Some x → f x ≤ sum_by f xs
le-sum_by f xs k x h =
    let at : get_or xs k x ≡ x = get_or_from_slice_get xs k x x h in
    rw at at (get_or-le-sum_by f xs k x (slice_get_within xs k x h))

pub part_of_all : (holds : List Hold) (k : ℕ) (own : Hold) → slice_get holds k ≡ Some own → IsPart own (all_of holds)
part_of_all holds k own h =
    record {
      shared = le-sum_by (λ (b : Hold). b.bag.shared) holds k own h;
      exclusive = le-sum_by (λ (b : Hold). b.bag.exclusive) holds k own h;
      upgradable = le-sum_by (λ (b : Hold). b.bag.upgradable) holds k own h;
      bars = le-sum_by (λ (b : Hold). bars_of b.announced) holds k own h;
    }

pub same_barred : (a b : BarredBag) → a.bag ≡ b.bag → a.bars ≡ b.bars → a ≡ b
same_barred a b same bars =
    let barred : Bag → ℕ → BarredBag = λ x n. record { bag = x; bars = n } in
    ap (λ x. barred x a.bars) same ∙ ap (barred b.bag) bars

-- two bags change alike, count by count
record Alike (own all own_after all_after : Bag) : Type 0 where
  shared : all.shared + own_after.shared ≡ all_after.shared + own.shared
  exclusive : all.exclusive + own_after.exclusive ≡ all_after.exclusive + own.exclusive
  upgradable : all.upgradable + own_after.upgradable ≡ all_after.upgradable + own.upgradable

alike_more : (own all : Bag) (mode : Mode) → Alike own all (one_more own mode) (one_more all mode)
alike_more own all Shared = record { shared = omega arith; exclusive = omega arith; upgradable = omega arith }
alike_more own all Exclusive = record { shared = omega arith; exclusive = omega arith; upgradable = omega arith }
alike_more own all Upgradable = record { shared = omega arith; exclusive = omega arith; upgradable = omega arith }

alike_less : (own : Hold) (all : BarredBag) (mode : Mode) → IsPart own all → 0 < count_of own.bag mode
    → Alike own.bag all.bag (one_less own.bag mode) (one_less all.bag mode)
alike_less own all Shared part h = record { shared = omega arith; exclusive = omega arith; upgradable = omega arith }
alike_less own all Exclusive part h = record { shared = omega arith; exclusive = omega arith; upgradable = omega arith }
alike_less own all Upgradable part h = record { shared = omega arith; exclusive = omega arith; upgradable = omega arith }

alike_modes : (own : Hold) (all : BarredBag) (s : ModeStep) → IsPart own all → HasModes own.bag s
    → Alike own.bag all.bag (bag_after own.bag s) (bag_after all.bag s)
alike_modes own all (Acquire mode) part h = alike_more own.bag all.bag mode
alike_modes own all (Release mode) part h = alike_less own all mode part h
alike_modes own all (Change from to) part h =
    let less = alike_less own all from part h in
    let more = alike_more (one_less own.bag from) (one_less all.bag from) to in
    record { shared = omega arith; exclusive = omega arith; upgradable = omega arith }

alike_after : (own : Hold) (all : BarredBag) (s : LockStep) → IsPart own all → IsTrue (hold_has own s)
    → Alike own.bag all.bag (hold_after own s).bag (barred_after own.announced all s).bag
alike_after own all (Modes s) part h = alike_modes own all s part (modes_from_test own.bag s h)
alike_after own all Announce part h = record { shared = refl; exclusive = refl; upgradable = refl }
alike_after own all Withdraw part h = record { shared = refl; exclusive = refl; upgradable = refl }

-- a bar is the announcement of its party
bars_left : (ends announced : Bool) (bars : ℕ) → bars_of announced ≤ bars
    → bars + bars_of (not ends && announced) ≡ (bars - bars_of (ends && announced)) + bars_of announced
bars_left true true bars le = omega arith
bars_left true false bars le = omega arith
bars_left false true bars le = omega arith
bars_left false false bars le = omega arith

bars_announced : (announced : Bool) (bars : ℕ) → bars_of announced ≤ bars → bars ≡ 0 → bars + 1 ≡ (bars + 1) + bars_of announced
bars_announced true bars le none = omega arith
bars_announced false bars le none = omega arith

alike_bars : (limit : ℕ) (own : Hold) (all : BarredBag) (s : LockStep) → IsPart own all → IsTrue (hold_has own s)
    → PermitsLockStep own.announced limit all s
    → all.bars + bars_of (hold_after own s).announced ≡ (barred_after own.announced all s).bars + bars_of own.announced
alike_bars limit own all (Modes s) part h permitted = bars_left (ends_bar s) own.announced all.bars part.bars
alike_bars limit own all Announce part h none = bars_announced own.announced all.bars part.bars none
alike_bars limit own all Withdraw part h some =
    let bar : bars_of own.announced ≡ 1 = ap bars_of h in
    omega arith

-- a step of one holder is the same step on the sum of all holds
pub all_of-after : (limit : ℕ) (holds : List Hold) (k : ℕ) (own : Hold) (s : LockStep) → slice_get holds k ≡ Some own
    → IsTrue (hold_has own s) → PermitsLockStep own.announced limit (all_of holds) s
    → all_of (slice_set holds k (hold_after own s)) ≡ barred_after own.announced (all_of holds) s
all_of-after limit holds k own s at h permitted =
    let part = part_of_all holds k own at in
    let new = hold_after own s in
    let after = barred_after own.announced (all_of holds) s in
    let alike = alike_after own (all_of holds) s part h in
    let bars = alike_bars limit own (all_of holds) s part h permitted in
    let es = sum_by-slice_set (λ (b : Hold). b.bag.shared) holds k own new at in
    let ex = sum_by-slice_set (λ (b : Hold). b.bag.exclusive) holds k own new at in
    let eu = sum_by-slice_set (λ (b : Hold). b.bag.upgradable) holds k own new at in
    let eb = sum_by-slice_set (λ (b : Hold). bars_of b.announced) holds k own new at in
    let alike_shared = alike.shared in
    let alike_exclusive = alike.exclusive in
    let alike_upgradable = alike.upgradable in
    same_barred (all_of (slice_set holds k new)) after
    (same_counts (all_of (slice_set holds k new)).bag after.bag (omega arith) (omega arith) (omega arith)) (omega arith)

step_of_all : (limit : ℕ) (before after : List Hold) (s : HolderStep) (made : IsHolderStep limit before s after)
    → all_of after ≡ barred_after made.own.announced (all_of before) s.step
step_of_all limit before after s made = at s.holder refl
  where
    at : (p : ℕ) → s.holder ≡ p → all_of after ≡ barred_after made.own.announced (all_of before) s.step
    at zero is = let none = ap (holder_at before) is in let own = made.is_own in cc
    at (suc k) is =
        let there : slice_get before k ≡ Some made.own = sym (ap (holder_at before) is) ∙ made.is_own in
        let index : s.holder - 1 ≡ k = omega arith in
        ap all_of (made.changed ∙ ap (λ n. slice_set before n (hold_after made.own s.step)) index)
        ∙ all_of-after limit before k made.own s.step there made.had made.permitted

-- a step on the bag and its bars is a step of the modes on the bag, or none
modes_made : (limit : ℕ) (announced : Bool) (all : BarredBag) (s : LockStep) (rest : List ModeStep) (last : Bag)
    → PermitsLockStep announced limit all s → IsModeRun limit (barred_after announced all s).bag rest last
    → IsModeRun limit all.bag (modes_of s ++ rest) last
modes_made limit announced all (Modes s) rest last permitted run = (permitted.0, run)
modes_made limit announced all Announce rest last permitted run = run
modes_made limit announced all Withdraw rest last permitted run = run

-- the steps of holders are a run of the modes on the sum of their holds
pub run_of_all : (limit : ℕ) (before after : List Hold) (ss : List HolderStep) → IsHolderRun limit before ss after
    → IsModeRun limit (all_of before).bag (steps_of ss) (all_of after).bag
run_of_all limit before after [] run = ap (λ hs. (all_of hs).bag) run
run_of_all limit before after (s ∷ ss) run =
    let last = (all_of after).bag in
    modes_made limit run.1.own.announced (all_of before) s.step (steps_of ss) last run.1.permitted
    (subst (λ (b : BarredBag). IsModeRun limit b.bag (steps_of ss) last) (step_of_all limit before run.0 s run.1)
    (run_of_all limit run.0 after ss run.2))

sum_of_zeros : {X : Type 0} (f : X → ℕ) (n : ℕ) (x : X) → f x ≡ 0 → sum_by f (replicate n x) ≡ 0
sum_of_zeros f zero x h = refl
sum_of_zeros f (suc n) x h =
    let more = sum_of_zeros f n x h in
    let e = sum_by-cons f x (replicate n x) in
    omega arith

pub all_of_none : (n : ℕ) → all_of (replicate n no_hold) ≡ without_bars empty_bag
all_of_none n =
    same_barred (all_of (replicate n no_hold)) (without_bars empty_bag)
    (same_counts (all_of (replicate n no_hold)).bag empty_bag
    (sum_of_zeros (λ (b : Hold). b.bag.shared) n no_hold refl)
    (sum_of_zeros (λ (b : Hold). b.bag.exclusive) n no_hold refl)
    (sum_of_zeros (λ (b : Hold). b.bag.upgradable) n no_hold refl))
    (sum_of_zeros (λ (b : Hold). bars_of b.announced) n no_hold refl)
