-- All that a call can do to a machine. Each law goes by these cases.
use Rattle.std.proofs.Common.{◌≡◌, ◌≢◌, ℕ, ◌+◌, ◌-◌, ◌^◌, Bool, true, false, not, ◌==◌, if◌then◌else◌, List, [], ◌∷◌, length, Option, Some, None, is_some, IsTrue, refl, sym, subst}
use Rattle.std.proofs.lemmas.Bool.{not-true, not-false, eqb-false}
use Rattle.lock_modes.specs.declared.mode.Mode.{Mode}
use Rattle.lock_modes.specs.declared.mode.Mode.TheVariants.{Shared, Exclusive, Upgradable}
use Rattle.lock_modes.specs.declared.mode_step.ModeStep.{ModeStep}
use Rattle.lock_modes.specs.declared.mode_step.ModeStep.TheVariants.{Acquire, Release, Change}
use Rattle.lock_modes.specs.declared.kind.Kind.TheVariants.{RwLock}
use Rattle.lock_machine.specs.declared.call.Call.{Call}
use Rattle.lock_machine.specs.declared.call.Form.{Form}
use Rattle.lock_machine.specs.declared.call.Form.TheVariants.{Block, Try, For, Until}
use Rattle.lock_machine.specs.declared.call.Way.{Way}
use Rattle.lock_machine.specs.declared.call.Want.{Want}
use Rattle.lock_modes.specs.declared.party.PartyId.{PartyId}
use Rattle.lock_machine.specs.declared.reply.Reply.{Reply}
use Rattle.lock_modes.specs.declared.fault.Fault.{Fault}
use Rattle.lock_modes.specs.declared.fault.Fault.TheVariants as fault
use Rattle.lock_machine.specs.Operation.{Operation}
use Rattle.lock_modes.specs.Party.{id_of}
use Rattle.lock_modes.specs.Modes.{is_move, may_become, is_shared, is_exclusive, is_upgradable}
use Rattle.lock_modes.specs.Kind.{is_reentrant, is_rwlock}
use Rattle.lock_machine.specs.Entries.{Entry, find, parked_entry, resumed_entry, held_bag}
use Rattle.lock_modes.specs.Bar.{has_announced}
use Rattle.lock_machine.specs.Register.{Register, admits_party, is_full_count, moves_token, bumps_token, with_guard, without_guard, with_change, with_bar, after_admission}
use Rattle.lock_machine.specs.Machine.{Machine, after_release, one_spent_more}
use Rattle.lock_machine.specs.Refusals.{Demand, mode_of, has_want, acquisition_refusal, announcement_refusal, withdrawal_refusal, held_guard, parked_guard, writing_guard, upgradable_guard, unshared_guard, exclusive_guard}
use Rattle.lock_machine.specs.Calls.{CallEffect, give, refuse, on_guard, with_register, with_mode, after_operation, park}
use Rattle.lock_machine.specs.Steps.{Response, response_of, response_in_form, done_reply, step}
use Rattle.lock_machine.proofs.SoundRegisters.{want_of_kind, rwlock_is}
use Rattle.lock_machine.specs.Kept.{is_refusal}
use Rattle.lock_machine.specs.Numbers.{numbers_of}
use Rattle.lock_machine.specs.Sound.{IsModeOf}
use Rattle.lock_machine.specs.TokenSteps.{only_if, by_mode, steps_back, raw_steps, token_steps}
use Rattle.lock_machine.proofs.CallEffects.{Meets, all_passed, both_passed, of_unless, of_guard, of_both}

-- an acquisition that gives a guard, and what it found
pub record LetsIn (r : Register) (party : ℕ) (mode : Mode) : Type 0 where
  pub mode_of_kind : IsModeOf r.kind mode
  pub room : length r.entries ≢ r.places
  pub admission : IsTrue (admits_party r party mode)

-- the guard is held or parked
pub record IsOut (r : Register) (guard : ℕ) (e : Entry) (is_held : Bool) : Type 0 where
  pub found : find guard r.entries ≡ Some e
  pub held : e.held ≡ is_held

-- from a machine: the call, its reply, its steps on the raw state, and the machine after it
pub data Effect {O T A : Type 0} (m : Machine T) : Call O → Reply A → List ModeStep → Machine T → Type 0 where
  kept : {call : Call O} {reply : Reply A} → numbers_of reply ≡ [] → Effect m call reply [] m
  acquired : {want : Want} {form : Form} (party : PartyId) (mode : Mode) → LetsIn m.register (id_of party) mode
      → Effect m (Call.Acquire want form party) (Reply.Guard (m.last + 1)) (only_if (moves_token m.register) (Acquire mode ∷ []))
      (with_register m (after_admission (with_guard m.register (id_of party) mode) mode))
  unlocked : {call : Call O} (guard : ℕ) (e : Entry) → IsOut m.register guard e true
      → Effect m call Reply.Done (only_if (moves_token (without_guard m.register guard)) (Release e.mode ∷ []))
      (after_release m (without_guard m.register guard))
  parks : {call : Call O} (guard : ℕ) (e : Entry) → IsOut m.register guard e true
      → Effect m call Reply.Done (only_if (moves_token (with_change m.register guard parked_entry)) (Release e.mode ∷ []))
      (after_release m (with_change m.register guard parked_entry))
  resumes : (party : PartyId) (guard : ℕ) (e : Entry) → IsOut m.register guard e false
      → (IsTrue (is_reentrant m.kind) → e.party ≡ id_of party)
      → IsTrue (admits_party m.register (id_of party) e.mode)
      → Effect m (Call.Resume party guard) Reply.Done (only_if (moves_token m.register) (Acquire e.mode ∷ []))
      (with_register m (after_admission (with_change m.register guard resumed_entry) e.mode))
  abandoned : {call : Call O} (guard : ℕ) (e : Entry) → IsOut m.register guard e false
      → Effect m call Reply.Done [] (with_register m (without_guard m.register guard))
  bumped : (party : PartyId) (guard : ℕ) (e : Entry) → IsOut m.register guard e true
      → Effect m (Call.Bump party guard) Reply.Done (only_if (bumps_token m.register) (Release e.mode ∷ Acquire e.mode ∷ []))
      (record m { spent = if bumps_token m.register then one_spent_more m.spent else m.spent })
  moves : {call : Call O} (guard : ℕ) (e : Entry) (to : Mode) → IsOut m.register guard e true → m.kind ≡ RwLock → IsTrue (is_move e.mode to)
      → IsTrue (may_become (held_bag m.entries) to) → Effect m call Reply.Done (Change e.mode to ∷ []) (with_mode m guard to)
  announces : (party : PartyId) → IsTrue (is_rwlock m.kind) → m.bar ≡ None
      → Effect m (Call.Announce party) Reply.Done [] (with_register m (with_bar m.register (Some (id_of party))))
  withdraws : (party : PartyId) → IsTrue (has_announced m.bar (id_of party))
      → Effect m (Call.Withdraw party) Reply.Done [] (with_register m (with_bar m.register None))
  written : {party : PartyId} {op : O} (guard : ℕ) (e : Entry) (answer : A) (value : T) → IsOut m.register guard e true
      → is_reentrant m.kind ≡ false → e.mode ≡ Exclusive
      → Effect m (Call.Change party guard op) (Reply.Answer answer) [] (record m { value = value })
  written_upgraded : {form : Form} {party : PartyId} {op : O} (guard : ℕ) (e : Entry) (answer : A) (value : T) → IsOut m.register guard e true
      → m.kind ≡ RwLock
      → e.mode ≡ Upgradable → IsTrue (may_become (held_bag m.entries) Exclusive)
      → Effect m (Call.WithUpgraded form party guard op) (Reply.Answer answer)
      (Change Upgradable Exclusive ∷ Change Exclusive Upgradable ∷ []) (record m { value = value })

upgradable_is : (mode : Mode) → IsTrue (is_upgradable mode) → mode ≡ Upgradable
upgradable_is Shared h = cc
upgradable_is Exclusive h = cc
upgradable_is Upgradable h = refl

pub exclusive_is : (mode : Mode) → IsTrue (is_exclusive mode) → mode ≡ Exclusive
exclusive_is Shared h = cc
exclusive_is Exclusive h = refl
exclusive_is Upgradable h = cc

no_bar_is : (bar : Option ℕ) → is_some bar ≡ false → bar ≡ None
no_bar_is None none = refl
no_bar_is (Some party) none = cc

shared_move : (mode : Mode) → not (is_shared mode) ≡ true → IsTrue (is_move mode Shared)
shared_move Shared h = cc
shared_move Exclusive h = refl
shared_move Upgradable h = refl

out_of : (r : Register) (demand : Demand) (party guard : ℕ) (e : Entry) → Meets r demand party guard e
    → IsOut r guard e demand.held
out_of r demand party guard e meets = record { found = meets.found; held = meets.held }

module _ (O T A : Type 0) where
  -- the effect of a call, by its response
  abbrev HasEffect : Machine T → Call O → Response A T → Type 0
  HasEffect m call t = Effect m call t.reply (only_if (not (is_refusal t.reply)) (raw_steps m call)) t.machine

  module _ (m : Machine T) (call : Call O) where
    -- the steps by the mode of a guard
    by_found : (guard : ℕ) (e : Entry) (next : Machine T) (steps : Mode → List ModeStep) → find guard m.entries ≡ Some e
        → Effect {A = A} m call Reply.Done (steps e.mode) next
        → Effect {A = A} m call Reply.Done (by_mode (find guard m.entries) steps) next
    by_found guard e next steps found h =
        subst (λ (o : Option Entry). Effect {A = A} m call Reply.Done (by_mode o steps) next) (sym found) h

    none_kept : {R : Type 0} (form : Form) (answered : R → Reply A) → HasEffect m call (response_in_form form answered (give None m))
    none_kept Block answered = kept refl
    none_kept Try answered = kept refl
    none_kept For answered = kept refl
    none_kept Until answered = kept refl

    refused_kept : {R : Type 0} (form : Form) (answered : R → Reply A) (f : Fault)
        → HasEffect m call (response_in_form form answered (refuse m f))
    refused_kept Block answered f = kept refl
    refused_kept Try answered f = kept refl
    refused_kept For answered f = kept refl
    refused_kept Until answered f = kept refl

    -- an answer is the same in each form
    some_given : {R : Type 0} (form : Form) (answered : R → Reply A) (x : R) (next : Machine T)
        → HasEffect m call (response_of answered (give x next)) → HasEffect m call (response_in_form form answered (give (Some x) next))
    some_given Block answered x next h = h
    some_given Try answered x next h = h
    some_given For answered x next h = h
    some_given Until answered x next h = h

    of_response : {R : Type 0} (answered : R → Reply A) (demand : Demand) (party guard : ℕ) (act : Entry → CallEffect R T)
        → ((e : Entry) → Meets m.register demand party guard e → HasEffect m call (response_of answered (act e)))
        → HasEffect m call (response_of answered (on_guard m demand party guard act))
    of_response answered demand party guard act acts =
        of_guard (λ turn. HasEffect m call (response_of answered turn)) m demand party guard act (λ f. kept refl) acts

    of_response_in_form : {R : Type 0} (form : Form) (answered : R → Reply A) (demand : Demand) (party guard : ℕ)
        (act : Entry → CallEffect (Option R) T)
        → ((e : Entry) → Meets m.register demand party guard e → HasEffect m call (response_in_form form answered (act e)))
        → HasEffect m call (response_in_form form answered (on_guard m demand party guard act))
    of_response_in_form form answered demand party guard act acts =
        of_guard (λ turn. HasEffect m call (response_in_form form answered turn)) m demand party guard act
        (refused_kept form answered) acts

module _ {O T A : Type 0} (meaning : O → Operation T A) (m : Machine T) where
  of_acquire : (want : Want) (form : Form) (party : PartyId)
      → HasEffect O T A m (Call.Acquire want form party) (step meaning m (Call.Acquire want form party))
  of_acquire want form party =
      let call : Call O = Call.Acquire want form party in
      of_unless (λ turn. HasEffect O T A m call (response_in_form form Reply.Guard turn)) m
      (acquisition_refusal m.register want (id_of party)) _ (refused_kept O T A m call form Reply.Guard)
      (λ passed.
      let all = all_passed (not (has_want m.kind want)) (length m.entries == m.places) (m.last == 2 ^ 64 - 1)
      (is_full_count m.register (id_of party))
      fault.WrongKind fault.NoPlace fault.NumbersSpent fault.FullCount passed in
      of_both (λ turn. HasEffect O T A m call (response_in_form form Reply.Guard turn))
      (admits_party m.register (id_of party) (mode_of want)) _ _
      (λ ok. some_given O T A m call form Reply.Guard _ _ (acquired party (mode_of want)
      (record {
        mode_of_kind = want_of_kind m.kind want (not-false (has_want m.kind want) all.first);
        room = eqb-false _ _ all.second;
        admission = ok;
      })))
      (λ no. none_kept O T A m call form Reply.Guard))

  of_unlock : (party : PartyId) (guard : ℕ) (way : Way)
      → HasEffect O T A m (Call.Unlock party guard way) (step meaning m (Call.Unlock party guard way))
  of_unlock party guard way =
      of_response O T A m (Call.Unlock party guard way) done_reply held_guard (id_of party) guard _
      (λ e meets. by_found O T A m (Call.Unlock party guard way) guard e (after_release m (without_guard m.register guard))
      (λ mode. only_if (moves_token (without_guard m.register guard)) (Release mode ∷ [])) meets.found
      (unlocked guard e (out_of m.register held_guard (id_of party) guard e meets)))

  -- both forms of parking do the same
  of_park : (call : Call O) (party guard : ℕ) → raw_steps m call ≡ steps_back m.register guard (with_change m.register guard parked_entry)
      → HasEffect O T A m call (response_of done_reply (park m party guard))
  of_park call party guard asked =
      of_response O T A m call done_reply held_guard party guard _
      (λ e meets. subst (λ steps. Effect {A = A} m call Reply.Done steps (after_release m (with_change m.register guard parked_entry))) (sym asked)
      (by_found O T A m call guard e (after_release m (with_change m.register guard parked_entry))
      (λ mode. only_if (moves_token (with_change m.register guard parked_entry)) (Release mode ∷ [])) meets.found
      (parks guard e (out_of m.register held_guard party guard e meets))))

  of_resume : (party : PartyId) (guard : ℕ) → HasEffect O T A m (Call.Resume party guard) (step meaning m (Call.Resume party guard))
  of_resume party guard =
      of_response O T A m (Call.Resume party guard) done_reply parked_guard (id_of party) guard _
      (λ e meets.
      of_both (λ turn. HasEffect O T A m (Call.Resume party guard) (response_of done_reply turn))
      (is_full_count m.register (id_of party)) _ _ (λ full. kept refl)
      (λ room. of_both (λ turn. HasEffect O T A m (Call.Resume party guard) (response_of done_reply turn))
      (admits_party m.register (id_of party) e.mode) _ _
      (λ ok. by_found O T A m (Call.Resume party guard) guard e
      (with_register m (after_admission (with_change m.register guard resumed_entry) e.mode))
      (λ mode. only_if (moves_token m.register) (Acquire mode ∷ [])) meets.found
      (resumes party guard e (out_of m.register parked_guard (id_of party) guard e meets) meets.own ok))
      (λ no. kept refl)))

  of_abandon : (party : PartyId) (guard : ℕ) → HasEffect O T A m (Call.Abandon party guard) (step meaning m (Call.Abandon party guard))
  of_abandon party guard =
      of_response O T A m (Call.Abandon party guard) done_reply parked_guard (id_of party) guard _
      (λ e meets. abandoned guard e (out_of m.register parked_guard (id_of party) guard e meets))

  of_bump : (party : PartyId) (guard : ℕ) → HasEffect O T A m (Call.Bump party guard) (step meaning m (Call.Bump party guard))
  of_bump party guard =
      let after : Machine T = record m { spent = if bumps_token m.register then one_spent_more m.spent else m.spent } in
      of_response O T A m (Call.Bump party guard) done_reply held_guard (id_of party) guard _
      (λ e meets. by_found O T A m (Call.Bump party guard) guard e after
      (λ mode. only_if (bumps_token m.register) (Release mode ∷ Acquire mode ∷ [])) meets.found
      (bumped party guard e (out_of m.register held_guard (id_of party) guard e meets)))

  of_upgrade : (form : Form) (party : PartyId) (guard : ℕ)
      → HasEffect O T A m (Call.Upgrade form party guard) (step meaning m (Call.Upgrade form party guard))
  of_upgrade form party guard =
      let call : Call O = Call.Upgrade form party guard in
      of_response_in_form O T A m call form done_reply upgradable_guard (id_of party) guard _
      (λ e meets.
      let mode = upgradable_is e.mode meets.in_mode in
      of_both (λ turn. HasEffect O T A m call (response_in_form form done_reply turn)) (may_become (held_bag m.entries) Exclusive) _ _
      (λ sole. some_given O T A m call form done_reply tt (with_mode m guard Exclusive)
      (subst (λ (x : Mode). Effect {A = A} m call Reply.Done (Change x Exclusive ∷ []) (with_mode m guard Exclusive)) mode
      (moves guard e Exclusive (out_of m.register upgradable_guard (id_of party) guard e meets) (rwlock_is m.kind meets.on_kind)
      (subst (λ (x : Mode). IsTrue (is_move x Exclusive)) (sym mode) refl) sole)))
      (λ beside. none_kept O T A m call form done_reply))

  of_downgrade : (party : PartyId) (guard : ℕ)
      → HasEffect O T A m (Call.Downgrade party guard) (step meaning m (Call.Downgrade party guard))
  of_downgrade party guard =
      of_response O T A m (Call.Downgrade party guard) done_reply unshared_guard (id_of party) guard _
      (λ e meets. by_found O T A m (Call.Downgrade party guard) guard e (with_mode m guard Shared) (λ mode. Change mode Shared ∷ []) meets.found
      (moves guard e Shared (out_of m.register unshared_guard (id_of party) guard e meets) (rwlock_is m.kind meets.on_kind)
      (shared_move e.mode meets.in_mode) refl))

  of_downgrade_to_upgradable : (party : PartyId) (guard : ℕ)
      → HasEffect O T A m (Call.DowngradeToUpgradable party guard) (step meaning m (Call.DowngradeToUpgradable party guard))
  of_downgrade_to_upgradable party guard =
      let call : Call O = Call.DowngradeToUpgradable party guard in
      of_response O T A m call done_reply exclusive_guard (id_of party) guard _
      (λ e meets.
      let mode = exclusive_is e.mode meets.in_mode in
      subst (λ (x : Mode). Effect {A = A} m call Reply.Done (Change x Upgradable ∷ []) (with_mode m guard Upgradable)) mode
      (moves guard e Upgradable (out_of m.register exclusive_guard (id_of party) guard e meets) (rwlock_is m.kind meets.on_kind)
      (subst (λ (x : Mode). IsTrue (is_move x Upgradable)) (sym mode) refl) refl))

  of_with_upgraded : (form : Form) (party : PartyId) (guard : ℕ) (op : O)
      → HasEffect O T A m (Call.WithUpgraded form party guard op) (step meaning m (Call.WithUpgraded form party guard op))
  of_with_upgraded form party guard op =
      let call : Call O = Call.WithUpgraded form party guard op in
      of_response_in_form O T A m call form Reply.Answer upgradable_guard (id_of party) guard _
      (λ e meets.
      of_both (λ turn. HasEffect O T A m call (response_in_form form Reply.Answer turn)) ((meaning op).fits m.value) _ _
      (λ fits. of_both (λ turn. HasEffect O T A m call (response_in_form form Reply.Answer turn))
      (may_become (held_bag m.entries) Exclusive) _ _
      (λ sole. some_given O T A m call form Reply.Answer ((meaning op).change_answer m.value) (after_operation m (meaning op))
      (written_upgraded guard e ((meaning op).change_answer m.value) ((meaning op).after m.value)
      (out_of m.register upgradable_guard (id_of party) guard e meets)
      (rwlock_is m.kind meets.on_kind) (upgradable_is e.mode meets.in_mode) sole))
      (λ beside. none_kept O T A m call form Reply.Answer))
      (λ unfit. refused_kept O T A m call form Reply.Answer fault.NoFocus))

  of_get : (party : PartyId) (guard : ℕ) (op : O) → HasEffect O T A m (Call.Get party guard op) (step meaning m (Call.Get party guard op))
  of_get party guard op =
      of_response O T A m (Call.Get party guard op) Reply.Answer held_guard (id_of party) guard _
      (λ e meets. of_both (λ turn. HasEffect O T A m (Call.Get party guard op) (response_of Reply.Answer turn)) ((meaning op).fits m.value) _ _
      (λ fits. kept refl) (λ unfit. kept refl))

  of_change : (party : PartyId) (guard : ℕ) (op : O)
      → HasEffect O T A m (Call.Change party guard op) (step meaning m (Call.Change party guard op))
  of_change party guard op =
      of_response O T A m (Call.Change party guard op) Reply.Answer writing_guard (id_of party) guard _
      (λ e meets. of_both (λ turn. HasEffect O T A m (Call.Change party guard op) (response_of Reply.Answer turn)) ((meaning op).fits m.value) _ _
      (λ fits. written guard e ((meaning op).change_answer m.value) ((meaning op).after m.value)
      (out_of m.register writing_guard (id_of party) guard e meets)
      (not-true (is_reentrant m.kind) meets.on_kind) (exclusive_is e.mode meets.in_mode))
      (λ unfit. kept refl))

  of_is_locked_exclusive : HasEffect O T A m Call.IsLockedExclusive (step meaning m Call.IsLockedExclusive)
  of_is_locked_exclusive =
      of_both (λ turn. HasEffect O T A m Call.IsLockedExclusive (response_of Reply.Bool turn)) (is_rwlock m.kind) _ _ (λ has. kept refl)
      (λ lacks. kept refl)

  of_is_owned_by : (party : PartyId) → HasEffect O T A m (Call.IsOwnedBy party) (step meaning m (Call.IsOwnedBy party))
  of_is_owned_by party =
      of_both (λ turn. HasEffect O T A m (Call.IsOwnedBy party) (response_of Reply.Bool turn)) (is_reentrant m.kind) _ _ (λ has. kept refl)
      (λ lacks. kept refl)

  of_announce : (party : PartyId) → HasEffect O T A m (Call.Announce party) (step meaning m (Call.Announce party))
  of_announce party =
      of_unless (λ turn. HasEffect O T A m (Call.Announce party) (response_of done_reply turn)) m
      (announcement_refusal m.register) _ (λ f. kept refl)
      (λ passed.
      let both = both_passed (not (is_rwlock m.kind)) (is_some m.bar) fault.WrongKind fault.Barred passed in
      announces party (not-false (is_rwlock m.kind) both.0) (no_bar_is m.bar both.1))

  of_withdraw : (party : PartyId) → HasEffect O T A m (Call.Withdraw party) (step meaning m (Call.Withdraw party))
  of_withdraw party =
      of_unless (λ turn. HasEffect O T A m (Call.Withdraw party) (response_of done_reply turn)) m
      (withdrawal_refusal m.register (id_of party)) _ (λ f. kept refl)
      (λ passed.
      let own : Bool = has_announced m.bar (id_of party) in
      withdraws party (not-false own (both_passed (not (is_rwlock m.kind)) (not own) fault.WrongKind fault.NotAnnounced passed).1))

  of_is_barred : HasEffect O T A m Call.IsBarred (step meaning m Call.IsBarred)
  of_is_barred =
      of_both (λ turn. HasEffect O T A m Call.IsBarred (response_of Reply.Bool turn)) (is_rwlock m.kind) _ _ (λ has. kept refl)
      (λ lacks. kept refl)

  -- what each call does is one of the effects
  pub effect : (call : Call O) → Effect m call (step meaning m call).reply (token_steps meaning m call) (step meaning m call).machine
  effect (Call.Acquire want form party) = of_acquire want form party
  effect (Call.Unlock party guard way) = of_unlock party guard way
  effect (Call.Park party guard) = of_park (Call.Park party guard) (id_of party) guard refl
  effect (Call.ParkFair party guard) = of_park (Call.ParkFair party guard) (id_of party) guard refl
  effect (Call.Resume party guard) = of_resume party guard
  effect (Call.Abandon party guard) = of_abandon party guard
  effect (Call.Bump party guard) = of_bump party guard
  effect (Call.Upgrade form party guard) = of_upgrade form party guard
  effect (Call.Downgrade party guard) = of_downgrade party guard
  effect (Call.DowngradeToUpgradable party guard) = of_downgrade_to_upgradable party guard
  effect (Call.WithUpgraded form party guard op) = of_with_upgraded form party guard op
  effect (Call.Get party guard op) = of_get party guard op
  effect (Call.Change party guard op) = of_change party guard op
  effect Call.IsLocked = kept refl
  effect Call.IsLockedExclusive = of_is_locked_exclusive
  effect (Call.IsOwnedBy party) = of_is_owned_by party
  effect (Call.Announce party) = of_announce party
  effect (Call.Withdraw party) = of_withdraw party
  effect Call.IsBarred = of_is_barred
  effect Call.Spent = kept refl
