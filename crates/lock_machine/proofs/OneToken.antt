-- The one token of a reentrant machine.
use Rattle.std.proofs.Common.{◌≡◌, ℕ, ◌+◌, ◌<◌, Bool, true, false, not, ◌==◌, if◌then◌else◌, List, [], ◌∷◌, ◌++◌, length, Option, Some, None, IsTrue, refl, ap, sym, ◌∙◌, subst, arith}
use Rattle.std.proofs.lemmas.Bool.{ne_eqb}
use Rattle.lock_modes.specs.declared.mode.Mode.{Mode}
use Rattle.lock_modes.specs.declared.mode.Mode.TheVariants.{Exclusive}
use Rattle.lock_modes.specs.declared.mode_step.ModeStep.{ModeStep}
use Rattle.lock_modes.specs.declared.mode_step.ModeStep.TheVariants.{Acquire, Release}
use Rattle.lock_modes.specs.declared.kind.Kind.{Kind}
use Rattle.lock_modes.specs.declared.kind.Kind.TheVariants.{RwLock}
use Rattle.lock_machine.specs.declared.call.Call.{Call}
use Rattle.lock_machine.specs.declared.reply.Reply.{Reply}
use Rattle.lock_machine.specs.Operation.{Operation}
use Rattle.lock_modes.specs.Party.{id_of}
use Rattle.lock_modes.specs.Kind.{is_reentrant}
use Rattle.lock_machine.specs.Entries.{Entry, find, without, update, parked_entry, resumed_entry, held_count}
use Rattle.lock_machine.specs.Register.{bumps_token}
use Rattle.lock_machine.specs.Machine.{Machine}
use Rattle.lock_machine.specs.Calls.{is_locked}
use Rattle.lock_machine.specs.Steps.{step}
use Rattle.lock_machine.specs.Kept.{is_refusal}
use Rattle.lock_machine.specs.Sound.{IsSound}
use Rattle.lock_machine.specs.TokenSteps.{only_if, by_mode}
use Rattle.lock_machine.specs.Nesting.{is_bump, one_token_steps, NestedGuardsMakeOneToken, NestedBumpsKeepToken}
use Rattle.lock_machine.proofs.Splices.{splice}
use Rattle.lock_machine.proofs.HeldEntries.{held_count-more, more_than_rest, more_than_parked, resumed_is_more, abandoned_holds_same, issued_is_more}
use Rattle.lock_machine.proofs.Effects.{Effect, effect}
use Rattle.lock_machine.proofs.SoundRegisters.{out_mode}
use Rattle.lock_machine.proofs.TokenRuns.{reentrant_mode}
use Rattle.lock_machine.proofs.TokenLevels.{one_level_more}

same_lock : (locked : Bool) → [] ≡ one_token_steps locked locked
same_lock true = refl
same_lock false = refl

-- whether any guard is held, before and after one more is
taken : (reentrant : Bool) (n k : ℕ) (mode : Mode) → IsTrue reentrant → mode ≡ Exclusive → k ≡ n + 1
    → only_if (if reentrant then n == 0 else true) (Acquire mode ∷ []) ≡ one_token_steps (not (n == 0)) (not (k == 0))
taken true n k mode r exclusive more =
    subst (λ (x : Mode). only_if (n == 0) (Acquire x ∷ []) ≡ one_token_steps (not (n == 0)) (not (k == 0))) (sym exclusive)
    (subst (λ (b : Bool). only_if (n == 0) (Acquire Exclusive ∷ []) ≡ one_token_steps (not (n == 0)) (not b))
    (sym (one_level_more n k more)) (by_first (n == 0)))
  where
    by_first : (first : Bool) → only_if first (Acquire Exclusive ∷ []) ≡ one_token_steps (not first) true
    by_first true = refl
    by_first false = refl
taken false n k mode r exclusive more = cc

given_back : (reentrant : Bool) (n k : ℕ) (mode : Mode) → IsTrue reentrant → mode ≡ Exclusive → k ≡ n + 1
    → only_if (if reentrant then n == 0 else true) (Release mode ∷ []) ≡ one_token_steps (not (k == 0)) (not (n == 0))
given_back true n k mode r exclusive more =
    subst (λ (x : Mode). only_if (n == 0) (Release x ∷ []) ≡ one_token_steps (not (k == 0)) (not (n == 0))) (sym exclusive)
    (subst (λ (b : Bool). only_if (n == 0) (Release Exclusive ∷ []) ≡ one_token_steps (not b) (not (n == 0)))
    (sym (one_level_more n k more)) (by_last (n == 0)))
  where
    by_last : (last : Bool) → only_if last (Release Exclusive ∷ []) ≡ one_token_steps true (not last)
    by_last true = refl
    by_last false = refl
given_back false n k mode r exclusive more = cc

-- a reader-writer machine is not reentrant
no_levels : (kind : Kind) → kind ≡ RwLock → IsTrue (is_reentrant kind) → ⊥
no_levels kind rwlock r = let no : IsTrue false = subst (λ (k : Kind). IsTrue (is_reentrant k)) rwlock r in cc

module _ {O T A : Type 0} (m : Machine T) (sound : IsSound m.register) (r : IsTrue (is_reentrant m.kind)) where
  -- the token's steps of each effect
  token_effect : {call : Call O} {reply : Reply A} {steps : List ModeStep} {after : Machine T} → Effect m call reply steps after
      → is_bump call ≡ false
      → steps ≡ one_token_steps (is_locked m) (is_locked after)
  token_effect (Effect.kept unnumbered) plain = same_lock (is_locked m)
  token_effect (Effect.acquired party mode lets) plain =
      let e : Entry = record { party = id_of party; mode = mode; held = true } in
      let es : List (ℕ × Entry) = m.entries ++ (m.last + 1, e) ∷ [] in
      taken (is_reentrant m.kind) (held_count m.entries) (held_count es) mode r (reentrant_mode m.kind mode lets.mode_of_kind r)
      (held_count-more e es m.entries (issued_is_more m.entries (m.last + 1) e refl))
  token_effect (Effect.unlocked guard e out) plain =
      given_back (is_reentrant m.kind) (held_count (without guard m.entries)) (held_count m.entries) e.mode r
      (reentrant_mode m.kind e.mode (out_mode m.register guard e sound out.found) r)
      (held_count-more e m.entries (without guard m.entries)
      (more_than_rest guard e m.entries (splice guard e m.entries out.found) out.held))
  token_effect (Effect.parks guard e out) plain =
      given_back (is_reentrant m.kind) (held_count (update guard parked_entry m.entries)) (held_count m.entries) e.mode r
      (reentrant_mode m.kind e.mode (out_mode m.register guard e sound out.found) r)
      (held_count-more e m.entries (update guard parked_entry m.entries)
      (more_than_parked guard e m.entries (splice guard e m.entries out.found) out.held))
  token_effect (Effect.resumes party guard e out own ok) plain =
      taken (is_reentrant m.kind) (held_count m.entries) (held_count (update guard resumed_entry m.entries)) e.mode r
      (reentrant_mode m.kind e.mode (out_mode m.register guard e sound out.found) r)
      (held_count-more (resumed_entry e) (update guard resumed_entry m.entries) m.entries
      (resumed_is_more guard e m.entries (splice guard e m.entries out.found) out.held))
  token_effect (Effect.abandoned guard e out) plain =
      same_lock (is_locked m)
      ∙ ap (λ (hs : List Entry). one_token_steps (is_locked m) (not (length hs == 0)))
      (sym (abandoned_holds_same guard e m.entries (splice guard e m.entries out.found) out.held))
  token_effect (Effect.bumped party guard e out) plain = cc
  token_effect (Effect.moves guard e to out kind move sole) plain = absurd (no_levels m.kind kind r)
  token_effect (Effect.announces party kind none) plain = same_lock (is_locked m)
  token_effect (Effect.withdraws party own) plain = same_lock (is_locked m)
  token_effect (Effect.written guard e answer value out kind mode) plain = same_lock (is_locked m)
  token_effect (Effect.written_upgraded guard e answer value out kind mode sole) plain = absurd (no_levels m.kind kind r)

-- a bump without a token makes no step
no_bump : (reentrant : Bool) (n : ℕ) → IsTrue reentrant → 1 < n → (if reentrant then n == 1 else true) ≡ false
no_bump true n r nested = ne_eqb n 1 (λ sole. omega arith)
no_bump false n r nested = cc

nothing_asked : (done bumps : Bool) (o : Option Entry) → bumps ≡ false
    → only_if done (by_mode o (λ mode. only_if bumps (Release mode ∷ Acquire mode ∷ []))) ≡ []
nothing_asked true true o off = cc
nothing_asked true false None off = refl
nothing_asked true false (Some e) off = refl
nothing_asked false bumps o off = refl

module _ {O T A : Type 0} (meaning : O → Operation T A) where
  pub one_token : NestedGuardsMakeOneToken meaning
  one_token m call sound r plain = token_effect m sound r (effect meaning m call) plain

  pub nested_bump : NestedBumpsKeepToken meaning
  nested_bump m party guard r nested =
      nothing_asked (not (is_refusal (step meaning m (Call.Bump party guard)).reply)) (bumps_token m.register) (find guard m.entries)
      (no_bump (is_reentrant m.kind) (held_count m.entries) r nested)
