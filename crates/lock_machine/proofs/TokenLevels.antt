-- The steps on the raw state when one more guard is held, or one less: by modes, and on a reentrant machine by levels.
use Rattle.std.proofs.Common.{◌≡◌, ℕ, ◌+◌, Bool, true, false, ◌==◌, if◌then◌else◌, List, [], ◌∷◌, IsTrue, refl, ap, sym, ◌∙◌, subst, arith}
use Rattle.std.proofs.lemmas.Bool.{ne_eqb}
use Rattle.lock_modes.specs.declared.mode.Mode.{Mode}
use Rattle.lock_modes.specs.declared.mode.Mode.TheVariants.{Exclusive, Upgradable}
use Rattle.lock_modes.specs.declared.mode_step.ModeStep.{ModeStep}
use Rattle.lock_modes.specs.declared.mode_step.ModeStep.TheVariants.{Acquire, Release, Change}
use Rattle.lock_modes.specs.declared.bag.Bag.{Bag}
use Rattle.lock_modes.specs.Modes.{empty_bag, tokens, one_more, one_less, is_move, may_become}
use Rattle.lock_modes.specs.ModeRuns.{Permits, IsModeRun}
use Rattle.lock_modes.proofs.ModeLemmas.{tokens-one_more, one_more-one_less, count-one_more, one_less-one_more, IsModeRun-append}
use Rattle.lock_machine.specs.TokenSteps.{only_if, acquisitions, releases}

-- runs of one step or two from a bag

pub acquire_run : (limit : ℕ) (rest : Bag) (mode : Mode) → Permits limit rest (Acquire mode)
    → IsModeRun limit rest (Acquire mode ∷ []) (one_more rest mode)
acquire_run limit rest mode ok = (ok, refl)

pub release_run : (limit : ℕ) (rest : Bag) (mode : Mode) → IsModeRun limit (one_more rest mode) (Release mode ∷ []) rest
release_run limit rest mode = (count-one_more rest mode, one_less-one_more rest mode)

pub bump_run : (limit : ℕ) (rest : Bag) (mode : Mode) → Permits limit rest (Acquire mode)
    → IsModeRun limit (one_more rest mode) (Release mode ∷ Acquire mode ∷ []) (one_more rest mode)
bump_run limit rest mode ok =
    IsModeRun-append limit (one_more rest mode) rest (one_more rest mode) (Release mode ∷ []) (Acquire mode ∷ [])
    (release_run limit rest mode) (acquire_run limit rest mode ok)

pub change_run : (limit : ℕ) (rest : Bag) (from to : Mode) → IsTrue (is_move from to) → IsTrue (may_become (one_more rest from) to)
    → IsModeRun limit (one_more rest from) (Change from to ∷ []) (one_more rest to)
change_run limit rest from to move sole =
    ((count-one_more rest from, move, sole), ap (λ (b : Bag). one_more b to) (one_less-one_more rest from))

pub upgraded_run : (limit : ℕ) (rest : Bag) → IsTrue (may_become (one_more rest Upgradable) Exclusive)
    → IsModeRun limit (one_more rest Upgradable) (Change Upgradable Exclusive ∷ Change Exclusive Upgradable ∷ []) (one_more rest Upgradable)
upgraded_run limit rest sole =
    IsModeRun-append limit (one_more rest Upgradable) (one_more rest Exclusive) (one_more rest Upgradable)
    (Change Upgradable Exclusive ∷ []) (Change Exclusive Upgradable ∷ [])
    (change_run limit rest Upgradable Exclusive refl sole) (change_run limit rest Exclusive Upgradable refl refl)

-- what was held and what was acquired are what is held at the end and what was released
pub run_balance : (limit : ℕ) (before after : Bag) (steps : List ModeStep) → IsModeRun limit before steps after
    → tokens before + acquisitions steps ≡ tokens after + releases steps
run_balance limit before after [] run = let same = ap tokens run in omega arith
run_balance limit before after (Acquire mode ∷ steps) run =
    let rest = run_balance limit (one_more before mode) after steps run.1 in
    let more = tokens-one_more before mode in
    omega arith
run_balance limit before after (Release mode ∷ steps) run =
    let rest = run_balance limit (one_less before mode) after steps run.1 in
    let more = tokens-one_more (one_less before mode) mode in
    let whole = ap tokens (one_more-one_less before mode run.0) in
    omega arith
run_balance limit before after (Change from to ∷ steps) run =
    let rest = run_balance limit (one_more (one_less before from) to) after steps run.1 in
    let more = tokens-one_more (one_less before from) to in
    let more_before = tokens-one_more (one_less before from) from in
    let whole = ap tokens (one_more-one_less before from run.0.0) in
    omega arith

-- the one token of a reentrant machine, by the number of levels

abbrev pub level_token : ℕ → Bag
level_token n = if n == 0 then empty_bag else one_more empty_bag Exclusive

no_level : (n : ℕ) → (n == 0) ≡ true → level_token n ≡ empty_bag
no_level n none = ap (λ (b : Bool). if b then empty_bag else one_more empty_bag Exclusive) none

some_level : (n : ℕ) → (n == 0) ≡ false → level_token n ≡ one_more empty_bag Exclusive
some_level n some = ap (λ (b : Bool). if b then empty_bag else one_more empty_bag Exclusive) some

pub one_level_more : (n k : ℕ) → k ≡ n + 1 → (k == 0) ≡ false
one_level_more n k more = ne_eqb k 0 (λ zero. omega arith)

-- the first level acquires the token
pub level_taken : (n k : ℕ) (none : Bool) → (n == 0) ≡ none → (k == 0) ≡ false
    → IsModeRun 1 (level_token n) (only_if none (Acquire Exclusive ∷ [])) (level_token k)
level_taken n k true first more =
    subst (λ (b : Bag). IsModeRun 1 b (Acquire Exclusive ∷ []) (level_token k)) (sym (no_level n first))
    (subst (λ (b : Bag). IsModeRun 1 empty_bag (Acquire Exclusive ∷ []) b) (sym (some_level k more))
    (acquire_run 1 empty_bag Exclusive refl))
level_taken n k false first more = some_level n first ∙ sym (some_level k more)

-- the last level releases the token
pub level_given_back : (n k : ℕ) (none : Bool) → (n == 0) ≡ none → (k == 0) ≡ false
    → IsModeRun 1 (level_token k) (only_if none (Release Exclusive ∷ [])) (level_token n)
level_given_back n k true last more =
    subst (λ (b : Bag). IsModeRun 1 (level_token k) (Release Exclusive ∷ []) b) (sym (no_level n last))
    (subst (λ (b : Bag). IsModeRun 1 b (Release Exclusive ∷ []) empty_bag) (sym (some_level k more)) (release_run 1 empty_bag Exclusive))
level_given_back n k false last more = some_level k more ∙ sym (some_level n last)

-- a sole level may release the token and acquire it again
pub level_bumped : (k : ℕ) (sole : Bool) → (k == 0) ≡ false
    → IsModeRun 1 (level_token k) (only_if sole (Release Exclusive ∷ Acquire Exclusive ∷ [])) (level_token k)
level_bumped k true more =
    subst (λ (b : Bag). IsModeRun 1 b (Release Exclusive ∷ Acquire Exclusive ∷ []) b) (sym (some_level k more))
    (bump_run 1 empty_bag Exclusive refl)
level_bumped k false more = refl
