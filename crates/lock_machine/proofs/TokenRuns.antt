-- The steps of the calls on the raw state are a run of the modes, which ends with the tokens of the held guards.
use Rattle.std.proofs.Common.{◌≡◌, ℕ, ◌+◌, Bool, true, false, ◌==◌, if◌then◌else◌, List, [], ◌∷◌, ◌++◌, length, IsTrue, Some, refl, ap, sym, ◌∙◌, subst, arith}
use Rattle.lock_modes.specs.declared.mode.Mode.{Mode}
use Rattle.lock_modes.specs.declared.mode.Mode.TheVariants.{Exclusive, Upgradable}
use Rattle.lock_modes.specs.declared.mode_step.ModeStep.{ModeStep}
use Rattle.lock_modes.specs.declared.mode_step.ModeStep.TheVariants.{Acquire, Release, Change}
use Rattle.lock_modes.specs.declared.bag.Bag.{Bag}
use Rattle.lock_modes.specs.declared.kind.Kind.{Kind}
use Rattle.lock_modes.specs.declared.kind.Kind.TheVariants.{Mutex, RwLock, Reentrant}
use Rattle.lock_machine.specs.declared.call.Call.{Call}
use Rattle.lock_machine.specs.declared.reply.Reply.{Reply}
use Rattle.lock_machine.specs.Operation.{Operation}
use Rattle.lock_modes.specs.Party.{id_of}
use Rattle.lock_modes.specs.Modes.{empty_bag, tokens, one_more, bag_of, is_move, may_become, AreCompatible}
use Rattle.lock_modes.specs.ModeRuns.{IsModeRun}
use Rattle.lock_modes.specs.Kind.{is_reentrant}
use Rattle.lock_machine.specs.Entries.{Entry, find, without, update, parked_entry, resumed_entry, in_mode, held_entries, held_bag, held_count, modes_of_entries}
use Rattle.lock_machine.specs.Register.{Register, empty_register, admits_party, tokens_of, token_limit, moves_token}
use Rattle.lock_machine.specs.Machine.{Machine, start}
use Rattle.lock_machine.specs.Calls.{with_mode}
use Rattle.lock_machine.specs.Legal.{AreLegallyHeld}
use Rattle.lock_machine.specs.Steps.{step, after_all}
use Rattle.lock_modes.proofs.ModeLemmas.{admits-released, IsModeRun-append}
use Rattle.lock_machine.proofs.Splices.{EntryMap, splice}
use Rattle.lock_machine.proofs.HeldEntries.{HasOneMore, held_bag-more, held_count-more, more_than_rest, more_than_parked, resumed_is_more, moved_is_more, abandoned_holds_same, issued_is_more}
use Rattle.lock_machine.proofs.Admissions.{admitted_mode, fitted_in}
use Rattle.lock_machine.specs.Sound.{IsModeOf, IsSound}
use Rattle.lock_machine.specs.TokenSteps.{only_if, token_steps, all_token_steps, acquisitions, releases, TokensAreThoseHeld, TokensAreGivenBackOnce}
use Rattle.lock_machine.proofs.Effects.{Effect, effect}
use Rattle.lock_machine.proofs.SoundRegisters.{out_mode, empty_sound}
use Rattle.lock_machine.proofs.RunsReached.{step_sound, step_limits}
use Rattle.lock_machine.proofs.TokenLevels.{acquire_run, release_run, bump_run, change_run, upgraded_run, run_balance, level_token, one_level_more, level_taken, level_given_back, level_bumped}

pub reentrant_mode : (kind : Kind) (mode : Mode) → IsModeOf kind mode → IsTrue (is_reentrant kind) → mode ≡ Exclusive
reentrant_mode Mutex mode h r = h
reentrant_mode RwLock mode h r = cc
reentrant_mode Reentrant mode h r = h

-- the tokens, by whether the machine is reentrant
abbrev tokens_in : Bool → EntryMap → Bag
tokens_in reentrant es = if reentrant then level_token (held_count es) else held_bag es

module _ (e : Entry) (more fewer : EntryMap) (one : HasOneMore e more fewer) where
  is_held : (held_count more == 0) ≡ false
  is_held = one_level_more (held_count fewer) (held_count more) (held_count-more e more fewer one)

  -- one less is held
  given_back_run : (limit : ℕ) (reentrant : Bool) → (IsTrue reentrant → e.mode ≡ Exclusive)
      → IsModeRun (if reentrant then 1 else limit) (tokens_in reentrant more)
      (only_if (if reentrant then held_count fewer == 0 else true) (Release e.mode ∷ []))
      (tokens_in reentrant fewer)
  given_back_run limit true mode =
      subst (λ (x : Mode). IsModeRun 1 (level_token (held_count more)) (only_if (held_count fewer == 0) (Release x ∷ []))
      (level_token (held_count fewer))) (sym (mode refl))
      (level_given_back (held_count fewer) (held_count more) (held_count fewer == 0) refl is_held)
  given_back_run limit false mode =
      subst (λ (b : Bag). IsModeRun limit b (Release e.mode ∷ []) (held_bag fewer)) (sym (held_bag-more e more fewer one))
      (release_run limit (held_bag fewer) e.mode)

  -- the held guards stay
  bumped_run : (limit : ℕ) (reentrant : Bool) → (IsTrue reentrant → e.mode ≡ Exclusive) → AreLegallyHeld reentrant limit more
      → IsModeRun (if reentrant then 1 else limit) (tokens_in reentrant more)
      (only_if (if reentrant then held_count more == 1 else true) (Release e.mode ∷ Acquire e.mode ∷ [])) (tokens_in reentrant more)
  bumped_run limit true mode legal =
      subst (λ (x : Mode). IsModeRun 1 (level_token (held_count more)) (only_if (held_count more == 1) (Release x ∷ Acquire x ∷ []))
      (level_token (held_count more)))
      (sym (mode refl)) (level_bumped (held_count more) (held_count more == 1) is_held)
  bumped_run limit false mode legal =
      let bag = held_bag-more e more fewer one in
      subst (λ (b : Bag). IsModeRun limit b (Release e.mode ∷ Acquire e.mode ∷ []) b) (sym bag)
      (bump_run limit (held_bag fewer) e.mode (admits-released limit (held_bag fewer) e.mode (subst (AreCompatible limit) bag legal)))

-- one more is held
taken_run : (r : Register) (party : ℕ) (e : Entry) (more : EntryMap) → HasOneMore e more r.entries
    → (IsTrue (is_reentrant r.kind) → e.mode ≡ Exclusive) → IsTrue (admits_party r party e.mode)
    → IsModeRun (token_limit r.kind r.limit) (tokens_of r) (only_if (moves_token r) (Acquire e.mode ∷ []))
    (tokens_of (record r { entries = more }))
taken_run r party e more one mode ok = by_kind (is_reentrant r.kind) refl mode
  where
    by_kind : (reentrant : Bool) → is_reentrant r.kind ≡ reentrant → (IsTrue reentrant → e.mode ≡ Exclusive)
        → IsModeRun (if reentrant then 1 else r.limit) (tokens_in reentrant r.entries)
        (only_if (if reentrant then held_count r.entries == 0 else true) (Acquire e.mode ∷ []))
        (tokens_in reentrant more)
    by_kind true nested mode =
        subst (λ (x : Mode). IsModeRun 1 (level_token (held_count r.entries)) (only_if (held_count r.entries == 0) (Acquire x ∷ []))
        (level_token (held_count more))) (sym (mode refl))
        (level_taken (held_count r.entries) (held_count more) (held_count r.entries == 0) refl (is_held e more r.entries one))
    by_kind false plain mode =
        subst (λ (b : Bag). IsModeRun r.limit (held_bag r.entries) (Acquire e.mode ∷ []) b) (sym (held_bag-more e more r.entries one))
        (acquire_run r.limit (held_bag r.entries) e.mode (admitted_mode r party e.mode plain (fitted_in r party e.mode ok)))

same_tokens : (reentrant : Bool) (es other : EntryMap) → held_entries other ≡ held_entries es
    → tokens_in reentrant es ≡ tokens_in reentrant other
same_tokens true es other same = ap (λ (hs : List Entry). level_token (length hs)) (sym same)
same_tokens false es other same = ap (λ (hs : List Entry). bag_of (modes_of_entries hs)) (sym same)

-- the steps of a call on the raw state lead from the tokens before it to those after it
abbrev Runs : {T : Type 0} → Machine T → List ModeStep → Machine T → Type 0
Runs m steps after = IsModeRun (token_limit m.kind m.limit) (tokens_of m.register) steps (tokens_of after.register)

module _ {T : Type 0} (m : Machine T) (sound : IsSound m.register) where
  module _ (guard : ℕ) (e : Entry) (found : find guard m.entries ≡ Some e) where
    mode_if : IsTrue (is_reentrant m.kind) → e.mode ≡ Exclusive
    mode_if = reentrant_mode m.kind e.mode (out_mode m.register guard e sound found)

    rest : IsTrue e.held → HasOneMore e m.entries (without guard m.entries)
    rest held = more_than_rest guard e m.entries (splice guard e m.entries found) held

    moved_run : (to : Mode) → IsTrue e.held → m.kind ≡ RwLock → IsTrue (is_move e.mode to) → IsTrue (may_become (held_bag m.entries) to)
        → Runs m (Change e.mode to ∷ []) (with_mode m guard to)
    moved_run to held kind move sole =
        let before = held_bag-more e m.entries (without guard m.entries) (rest held) in
        let after = held_bag-more (in_mode to e) (update guard (in_mode to) m.entries) (without guard m.entries)
        (moved_is_more guard e m.entries (splice guard e m.entries found) to held) in
        let run = change_run m.limit (held_bag (without guard m.entries)) e.mode to move
        (subst (λ (b : Bag). IsTrue (may_become b to)) before sole) in
        subst (λ (k : Kind). IsModeRun (token_limit k m.limit) (tokens_of (record m.register { kind = k })) (Change e.mode to ∷ [])
        (tokens_of (record m.register { kind = k; entries = update guard (in_mode to) m.entries }))) (sym kind)
        (subst (λ (b : Bag). IsModeRun m.limit b (Change e.mode to ∷ []) (held_bag (update guard (in_mode to) m.entries))) (sym before)
        (subst (λ (b : Bag). IsModeRun m.limit (one_more (held_bag (without guard m.entries)) e.mode) (Change e.mode to ∷ []) b)
        (sym after) run))

    with_upgraded_run : IsTrue e.held → m.kind ≡ RwLock → e.mode ≡ Upgradable → IsTrue (may_become (held_bag m.entries) Exclusive)
        → Runs m (Change Upgradable Exclusive ∷ Change Exclusive Upgradable ∷ []) m
    with_upgraded_run held kind mode sole =
        let left : Bag = held_bag (without guard m.entries) in
        let before : held_bag m.entries ≡ one_more left Upgradable =
        held_bag-more e m.entries (without guard m.entries) (rest held) ∙ ap (one_more left) mode in
        let run = upgraded_run m.limit left (subst (λ (b : Bag). IsTrue (may_become b Exclusive)) before sole) in
        subst (λ (k : Kind). IsModeRun (token_limit k m.limit) (tokens_of (record m.register { kind = k }))
        (Change Upgradable Exclusive ∷ Change Exclusive Upgradable ∷ []) (tokens_of (record m.register { kind = k })))
        (sym kind) (subst (λ (b : Bag). IsModeRun m.limit b (Change Upgradable Exclusive ∷ Change Exclusive Upgradable ∷ []) b)
        (sym before) run)

  module _ {O A : Type 0} where
    effect_run : {call : Call O} {reply : Reply A} {steps : List ModeStep} {after : Machine T} → Effect m call reply steps after
        → Runs m steps after
    effect_run (Effect.kept unnumbered) = refl
    effect_run (Effect.acquired party mode lets) =
        let e : Entry = record { party = id_of party; mode = mode; held = true } in
        taken_run m.register (id_of party) e (m.entries ++ (m.last + 1, e) ∷ []) (issued_is_more m.entries (m.last + 1) e refl)
        (reentrant_mode m.kind mode lets.mode_of_kind) lets.admission
    effect_run (Effect.unlocked guard e out) =
        given_back_run e m.entries (without guard m.entries) (rest guard e out.found out.held) m.limit (is_reentrant m.kind)
        (mode_if guard e out.found)
    effect_run (Effect.parks guard e out) =
        given_back_run e m.entries (update guard parked_entry m.entries)
        (more_than_parked guard e m.entries (splice guard e m.entries out.found) out.held)
        m.limit (is_reentrant m.kind) (mode_if guard e out.found)
    effect_run (Effect.resumes party guard e out own ok) =
        taken_run m.register (id_of party) (resumed_entry e) (update guard resumed_entry m.entries)
        (resumed_is_more guard e m.entries (splice guard e m.entries out.found) out.held)
        (mode_if guard e out.found) ok
    effect_run (Effect.abandoned guard e out) =
        same_tokens (is_reentrant m.kind) m.entries (without guard m.entries)
        (abandoned_holds_same guard e m.entries (splice guard e m.entries out.found) out.held)
    effect_run (Effect.bumped party guard e out) =
        bumped_run e m.entries (without guard m.entries) (rest guard e out.found out.held) m.limit (is_reentrant m.kind)
        (mode_if guard e out.found) sound.legal.held
    effect_run (Effect.moves guard e to out kind move sole) = moved_run guard e out.found to out.held kind move sole
    effect_run (Effect.announces party kind none) = refl
    effect_run (Effect.withdraws party own) = refl
    effect_run (Effect.written guard e answer value out kind mode) = refl
    effect_run (Effect.written_upgraded guard e answer value out kind mode sole) =
        with_upgraded_run guard e out.found out.held kind mode sole

start_empty : (kind : Kind) (places limit : ℕ) → tokens_of (empty_register kind places limit) ≡ empty_bag
start_empty Mutex places limit = refl
start_empty RwLock places limit = refl
start_empty Reentrant places limit = refl

module _ {O T A : Type 0} (meaning : O → Operation T A) where
  run_of_run : (m : Machine T) (calls : List (Call O)) → IsSound m.register → Runs m (all_token_steps meaning m calls) (after_all meaning m calls)
  run_of_run m [] sound = refl
  run_of_run m (call ∷ calls) sound =
      let next : Machine T = (step meaning m call).machine in
      let same = step_limits meaning m call in
      let rest = run_of_run next calls (step_sound meaning m call sound) in
      let rest_here = subst (λ (k : Kind). IsModeRun (token_limit k m.limit) (tokens_of next.register) (all_token_steps meaning next calls)
      (tokens_of (after_all meaning next calls).register))
      same.same_kind (subst (λ (n : ℕ). IsModeRun (token_limit next.kind n) (tokens_of next.register) (all_token_steps meaning next calls)
      (tokens_of (after_all meaning next calls).register))
      same.same_limit rest) in
      IsModeRun-append (token_limit m.kind m.limit) (tokens_of m.register) (tokens_of next.register)
      (tokens_of (after_all meaning next calls).register)
      (token_steps meaning m call)
      (all_token_steps meaning next calls) (effect_run m sound (effect meaning m call)) rest_here

  pub tokens_held : TokensAreThoseHeld meaning
  tokens_held kind value places limit calls lawful =
      let first : Machine T = start kind value places limit in
      subst (λ (b : Bag). IsModeRun (token_limit kind limit) b (all_token_steps meaning first calls)
      (tokens_of (after_all meaning first calls).register)) (start_empty kind places limit)
      (run_of_run first calls (empty_sound kind places limit lawful))

  pub tokens_once : TokensAreGivenBackOnce meaning
  tokens_once kind value places limit calls lawful =
      let first : Machine T = start kind value places limit in
      let last : Bag = tokens_of (after_all meaning first calls).register in
      let steps : List ModeStep = all_token_steps meaning first calls in
      let balance : tokens empty_bag + acquisitions steps ≡ tokens last + releases steps =
      run_balance (token_limit kind limit) empty_bag last steps (tokens_held kind value places limit calls lawful) in
      omega arith
