-- Bags of modes: permitted steps keep them compatible, what was released is admitted again, and runs join.
use Rattle.std.proofs.Common.{◌≡◌, ℕ, Bool, false, ◌+◌, ◌-◌, ◌<◌, ◌≤◌, ◌&&◌, ◌==◌, nat_lt, List, [], ◌∷◌, ◌++◌, IsTrue, refl, ap, sym, ◌∙◌, subst, arith, eqb-true, eq-eqb, ltb-true, lt-ltb}
use Rattle.std.proofs.lemmas.Bool.{and_parts, and_from, ne_eqb, false≢true}
use Rattle.lock_modes.specs.declared.mode.Mode.{Mode}
use Rattle.lock_modes.specs.declared.mode.Mode.TheVariants.{Shared, Exclusive, Upgradable}
use Rattle.lock_modes.specs.declared.mode_step.ModeStep.{ModeStep}
use Rattle.lock_modes.specs.declared.mode_step.ModeStep.TheVariants.{Acquire, Release, Change}
use Rattle.lock_modes.specs.declared.bag.Bag.{Bag}
use Rattle.lock_modes.specs.Modes.{empty_bag, readers, tokens, count_of, one_more, one_less, bag_of, admits, is_move, may_become, AreCompatible}
use Rattle.lock_modes.specs.ModeRuns.{Permits, bag_after, IsModeRun, Replays}

-- what the tests of admission mean

pub record Admitting (limit : ℕ) (b : Bag) : Type 0 where
  pub none_exclusive : b.exclusive ≡ 0
  pub room : readers b < limit

pub shared_admitted : (limit : ℕ) (b : Bag) → IsTrue (admits limit b Shared) → Admitting limit b
shared_admitted limit b h =
    let two = and_parts (b.exclusive == 0) (nat_lt (readers b) limit) h in
    record { none_exclusive = eqb-true b.exclusive 0 two.0; room = ltb-true (readers b) limit two.1 }

pub exclusive_admitted : (limit : ℕ) (b : Bag) → IsTrue (admits limit b Exclusive) → tokens b ≡ 0
exclusive_admitted limit b h = eqb-true (tokens b) 0 h

pub upgradable_admitted : (limit : ℕ) (b : Bag) → IsTrue (admits limit b Upgradable) → (b.upgradable ≡ 0) × Admitting limit b
upgradable_admitted limit b h =
    let two = and_parts (b.exclusive == 0) ((b.upgradable == 0) && nat_lt (readers b) limit) h in
    let rest = and_parts (b.upgradable == 0) (nat_lt (readers b) limit) two.1 in
    (eqb-true b.upgradable 0 rest.0, record { none_exclusive = eqb-true b.exclusive 0 two.0; room = ltb-true (readers b) limit rest.1 })

-- a permitted step keeps a bag compatible. The limit is positive, since a downgrade makes a reader

pub compatible_acquired : (limit : ℕ) (b : Bag) (mode : Mode) → AreCompatible limit b → IsTrue (admits limit b mode)
    → AreCompatible limit (one_more b mode)
compatible_acquired limit b Shared c p =
    let a = shared_admitted limit b p in record { alone = λ h. omega arith; one_upgradable = omega arith; within = omega arith }
compatible_acquired limit b Exclusive c p =
    let a = exclusive_admitted limit b p in record { alone = λ h. omega arith; one_upgradable = omega arith; within = omega arith }
compatible_acquired limit b Upgradable c p =
    let a = upgradable_admitted limit b p in record { alone = λ h. omega arith; one_upgradable = omega arith; within = omega arith }

pub compatible_released : (limit : ℕ) (b : Bag) (mode : Mode) → AreCompatible limit (one_more b mode) → AreCompatible limit b
compatible_released limit b Shared c = record { alone = λ h. omega arith; one_upgradable = omega arith; within = omega arith }
compatible_released limit b Exclusive c = record { alone = λ h. omega arith; one_upgradable = omega arith; within = omega arith }
compatible_released limit b Upgradable c = record { alone = λ h. omega arith; one_upgradable = omega arith; within = omega arith }

pub compatible_changed : (limit : ℕ) (b : Bag) (from to : Mode) → 0 < limit → IsTrue (is_move from to)
    → IsTrue (may_become (one_more b from) to)
    → AreCompatible limit (one_more b from) → AreCompatible limit (one_more b to)
compatible_changed limit b Upgradable Exclusive positive move sole c =
    let one = eqb-true (tokens (one_more b Upgradable)) 1 sole in
    record { alone = λ h. omega arith; one_upgradable = omega arith; within = omega arith }
compatible_changed limit b Exclusive Shared positive move sole c =
    record { alone = λ h. omega arith; one_upgradable = omega arith; within = omega arith }
compatible_changed limit b Exclusive Upgradable positive move sole c =
    record { alone = λ h. omega arith; one_upgradable = omega arith; within = omega arith }
compatible_changed limit b Upgradable Shared positive move sole c =
    record { alone = λ h. omega arith; one_upgradable = omega arith; within = omega arith }
compatible_changed limit b Upgradable Upgradable positive move sole c = absurd (false≢true move)
compatible_changed limit b Exclusive Exclusive positive move sole c = absurd (false≢true move)
compatible_changed limit b Shared Shared positive move sole c = absurd (false≢true move)
compatible_changed limit b Shared Exclusive positive move sole c = absurd (false≢true move)
compatible_changed limit b Shared Upgradable positive move sole c = absurd (false≢true move)

-- next to an exclusive holder nothing is admitted
pub admits-beside_exclusive : (limit : ℕ) (b : Bag) (mode : Mode) → 0 < b.exclusive → admits limit b mode ≡ false
admits-beside_exclusive limit b Shared out =
    ap (λ (x : Bool). x && nat_lt (readers b) limit) (ne_eqb b.exclusive 0 (λ none. omega arith))
admits-beside_exclusive limit b Exclusive out = ne_eqb (tokens b) 0 (λ none. omega arith)
admits-beside_exclusive limit b Upgradable out =
    ap (λ (x : Bool). x && ((b.upgradable == 0) && nat_lt (readers b) limit)) (ne_eqb b.exclusive 0 (λ none. omega arith))

-- a mode that was held next to the others is admitted again next to them
pub admits-released : (limit : ℕ) (b : Bag) (mode : Mode) → AreCompatible limit (one_more b mode) → IsTrue (admits limit b mode)
admits-released limit b Shared c =
    and_from (b.exclusive == 0) (nat_lt (readers b) limit) (eq-eqb b.exclusive 0 (grind (arith, c.alone)))
    (lt-ltb (readers b) limit (omega arith))
admits-released limit b Exclusive c = eq-eqb (tokens b) 0 (let one = c.alone (omega arith) in omega arith)
admits-released limit b Upgradable c =
    and_from (b.exclusive == 0) ((b.upgradable == 0) && nat_lt (readers b) limit) (eq-eqb b.exclusive 0 (grind (arith, c.alone)))
    (and_from (b.upgradable == 0) (nat_lt (readers b) limit) (eq-eqb b.upgradable 0 (omega arith)) (lt-ltb (readers b) limit (omega arith)))

-- counts

pub one_more-one_more : (b : Bag) (x y : Mode) → one_more (one_more b x) y ≡ one_more (one_more b y) x
one_more-one_more b Shared Shared = refl
one_more-one_more b Shared Exclusive = refl
one_more-one_more b Shared Upgradable = refl
one_more-one_more b Exclusive Shared = refl
one_more-one_more b Exclusive Exclusive = refl
one_more-one_more b Exclusive Upgradable = refl
one_more-one_more b Upgradable Shared = refl
one_more-one_more b Upgradable Exclusive = refl
one_more-one_more b Upgradable Upgradable = refl

less_more : (n : ℕ) → (n + 1) - 1 ≡ n
less_more n = omega arith

more_less : (n : ℕ) → 0 < n → (n - 1) + 1 ≡ n
more_less n out = omega arith

pub one_less-one_more : (b : Bag) (mode : Mode) → one_less (one_more b mode) mode ≡ b
one_less-one_more b Shared = ap (λ (n : ℕ). record b { shared = n }) (less_more b.shared)
one_less-one_more b Exclusive = ap (λ (n : ℕ). record b { exclusive = n }) (less_more b.exclusive)
one_less-one_more b Upgradable = ap (λ (n : ℕ). record b { upgradable = n }) (less_more b.upgradable)

pub one_more-one_less : (b : Bag) (mode : Mode) → 0 < count_of b mode → one_more (one_less b mode) mode ≡ b
one_more-one_less b Shared out = ap (λ (n : ℕ). record b { shared = n }) (more_less b.shared out)
one_more-one_less b Exclusive out = ap (λ (n : ℕ). record b { exclusive = n }) (more_less b.exclusive out)
one_more-one_less b Upgradable out = ap (λ (n : ℕ). record b { upgradable = n }) (more_less b.upgradable out)

pub count-one_more : (b : Bag) (mode : Mode) → 0 < count_of (one_more b mode) mode
count-one_more b Shared = omega arith
count-one_more b Exclusive = omega arith
count-one_more b Upgradable = omega arith

pub tokens-one_more : (b : Bag) (mode : Mode) → tokens (one_more b mode) ≡ tokens b + 1
tokens-one_more b Shared = omega arith
tokens-one_more b Exclusive = omega arith
tokens-one_more b Upgradable = omega arith

pub count-le-tokens : (b : Bag) (mode : Mode) → count_of b mode ≤ tokens b
count-le-tokens b Shared = omega arith
count-le-tokens b Exclusive = omega arith
count-le-tokens b Upgradable = omega arith

-- one of the modes is at any place of a list
pub bag_of-middle : (ms : List Mode) (mode : Mode) (ns : List Mode) → bag_of (ms ++ mode ∷ ns) ≡ one_more (bag_of (ms ++ ns)) mode
bag_of-middle [] mode ns = refl
bag_of-middle (m ∷ ms) mode ns = ap (λ (b : Bag). one_more b m) (bag_of-middle ms mode ns) ∙ one_more-one_more (bag_of (ms ++ ns)) mode m

-- runs of the modes

-- a run, and a run from its end, make one run
pub IsModeRun-append : (limit : ℕ) (first middle last : Bag) (steps more : List ModeStep) → IsModeRun limit first steps middle
    → IsModeRun limit middle more last
    → IsModeRun limit first (steps ++ more) last
IsModeRun-append limit first middle last [] more run rest = subst (λ (b : Bag). IsModeRun limit b more last) (sym run) rest
IsModeRun-append limit first middle last (step ∷ steps) more run rest =
    (run.0, IsModeRun-append limit (bag_after first step) middle last steps more run.1 rest)

-- a run, and one more step, make one run
pub IsModeRun-push : (limit : ℕ) (first middle : Bag) (steps : List ModeStep) (step : ModeStep) → IsModeRun limit first steps middle
    → Permits limit middle step
    → IsModeRun limit first (steps ++ step ∷ []) (bag_after middle step)
IsModeRun-push limit first middle steps step run permitted =
    IsModeRun-append limit first middle (bag_after middle step) steps (step ∷ []) run (permitted, refl)

-- a larger limit permits no less

within_larger : (limit larger n : ℕ) → limit ≤ larger → IsTrue (nat_lt n limit) → IsTrue (nat_lt n larger)
within_larger limit larger n below room = lt-ltb n larger (let within = ltb-true n limit room in omega arith)

admits_larger : (limit larger : ℕ) (b : Bag) (mode : Mode) → limit ≤ larger → IsTrue (admits limit b mode) → IsTrue (admits larger b mode)
admits_larger limit larger b Shared below p =
    let two = and_parts (b.exclusive == 0) (nat_lt (readers b) limit) p in
    and_from (b.exclusive == 0) (nat_lt (readers b) larger) two.0 (within_larger limit larger (readers b) below two.1)
admits_larger limit larger b Exclusive below p = p
admits_larger limit larger b Upgradable below p =
    let two = and_parts (b.exclusive == 0) ((b.upgradable == 0) && nat_lt (readers b) limit) p in
    let rest = and_parts (b.upgradable == 0) (nat_lt (readers b) limit) two.1 in
    and_from (b.exclusive == 0) ((b.upgradable == 0) && nat_lt (readers b) larger) two.0
    (and_from (b.upgradable == 0) (nat_lt (readers b) larger) rest.0 (within_larger limit larger (readers b) below rest.1))

permits_larger : (limit larger : ℕ) (b : Bag) (step : ModeStep) → limit ≤ larger → Permits limit b step → Permits larger b step
permits_larger limit larger b (Acquire mode) below p = admits_larger limit larger b mode below p
permits_larger limit larger b (Release mode) below p = p
permits_larger limit larger b (Change from to) below p = p

pub IsModeRun_larger : (limit larger : ℕ) (before after : Bag) (steps : List ModeStep) → limit ≤ larger → IsModeRun limit before steps after
    → IsModeRun larger before steps after
IsModeRun_larger limit larger before after [] below run = run
IsModeRun_larger limit larger before after (step ∷ steps) below run =
    (permits_larger limit larger before step below run.0, IsModeRun_larger limit larger (bag_after before step) after steps below run.1)

pub Replays_larger : (limit larger : ℕ) (steps : List ModeStep) → limit ≤ larger → Replays limit steps → Replays larger steps
Replays_larger limit larger steps below run = (run.0, IsModeRun_larger limit larger empty_bag run.0 steps below run.1)

-- a permitted step keeps the bag compatible
pub compatible_after : (limit : ℕ) (b : Bag) (step : ModeStep) → 0 < limit → AreCompatible limit b → Permits limit b step
    → AreCompatible limit (bag_after b step)
compatible_after limit b (Acquire mode) positive c p = compatible_acquired limit b mode c p
compatible_after limit b (Release mode) positive c p =
    compatible_released limit (one_less b mode) mode (subst (AreCompatible limit) (sym (one_more-one_less b mode p)) c)
compatible_after limit b (Change from to) positive c p =
    let whole = sym (one_more-one_less b from p.0) in
    compatible_changed limit (one_less b from) from to positive p.1 (subst (λ (x : Bag). IsTrue (may_become x to)) whole p.2)
    (subst (AreCompatible limit) whole c)

pub compatible_empty : (limit : ℕ) → AreCompatible limit empty_bag
compatible_empty limit = record { alone = λ h. omega arith; one_upgradable = omega arith; within = omega arith }
