-- A bar keeps other parties out, and stays until its party acquires or withdraws.
use Rattle.std.proofs.Common.{◌≡◌, ℕ, Bool, true, false, not, ◌&&◌, ◌==◌, List, Option, Some, IsTrue, refl, ap, sym, ◌∙◌, subst, eqb-true}
use Rattle.std.proofs.lemmas.Bool.{and_parts, eqb-false}
use Rattle.lock_modes.specs.declared.mode.Mode.{Mode}
use Rattle.lock_modes.specs.declared.mode_step.ModeStep.{ModeStep}
use Rattle.lock_machine.specs.declared.call.Call.{Call}
use Rattle.lock_modes.specs.declared.party.PartyId.{PartyId}
use Rattle.lock_machine.specs.declared.reply.Reply.{Reply}
use Rattle.lock_machine.specs.Operation.{Operation}
use Rattle.lock_modes.specs.Party.{id_of}
use Rattle.lock_modes.specs.Modes.{is_exclusive}
use Rattle.lock_modes.specs.Bar.{bar_lets_pass, has_announced, bar_after}
use Rattle.lock_machine.specs.Register.{admits_party}
use Rattle.lock_machine.specs.Machine.{Machine}
use Rattle.lock_machine.specs.Steps.{step}
use Rattle.lock_machine.proofs.Admissions.{passed_bar}
use Rattle.lock_machine.specs.Kept.{is_refusal}
use Rattle.lock_machine.specs.Barring.{may_end_bar, BarsPersist, BarsKeepOthersOut}
use Rattle.lock_machine.proofs.Effects.{Effect, effect, exclusive_is}
use Rattle.lock_machine.proofs.KeptRefusals.{refusals_keep}

pub keep_others_out : BarsKeepOthersOut
keep_others_out r announced party mode stands ok =
    let passed = subst (λ (bar : Option ℕ). IsTrue (bar_lets_pass bar party mode)) stands (passed_bar r party mode ok) in
    let two = and_parts (is_exclusive mode) (announced == party) passed in
    (sym (eqb-true announced party two.1), exclusive_is mode two.0)

-- no other party is admitted
still : {T : Type 0} (m : Machine T) (party : ℕ) → m.bar ≡ Some party → (caller : PartyId) (mode : Mode)
    → IsTrue (admits_party m.register (id_of caller) mode) → (id_of caller == party) ≡ false
    → bar_after m.bar mode ≡ Some party
still m party stands caller mode ok other =
    absurd (eqb-false (id_of caller) party other (keep_others_out m.register party (id_of caller) mode stands ok).0)

module _ {O T A : Type 0} (m : Machine T) (party : ℕ) (stands : m.bar ≡ Some party) where
  stays : {call : Call O} {reply : Reply A} {steps : List ModeStep} {after : Machine T} → Effect m call reply steps after
      → may_end_bar party call ≡ false
      → after.bar ≡ Some party
  stays (Effect.acquired caller mode lets) other = still m party stands caller mode lets.admission other
  stays (Effect.resumes caller guard e out own ok) other = still m party stands caller e.mode ok other
  stays (Effect.announces caller kind none) other = let clash = sym none ∙ stands in cc
  stays (Effect.withdraws caller own) other =
      let same = subst (λ (bar : Option ℕ). IsTrue (has_announced bar (id_of caller))) stands own in
      absurd (eqb-false (id_of caller) party other (sym (eqb-true party (id_of caller) same)))
  stays any other = stands

pub bars_stand : {O T A : Type 0} (meaning : O → Operation T A) → BarsPersist meaning
bars_stand {O} {T} {A} meaning m call party stands other = by_reply (is_refusal (step meaning m call).reply) refl
  where
    by_reply : (refused : Bool) → is_refusal (step meaning m call).reply ≡ refused
        → (step meaning m call).machine.bar ≡ Some party
    by_reply true is = ap (λ (after : Machine T). after.bar) (refusals_keep meaning m call is) ∙ stands
    by_reply false is =
        stays m party stands (effect meaning m call)
        (subst (λ (refused : Bool). (not refused && may_end_bar party call) ≡ false) is other)
