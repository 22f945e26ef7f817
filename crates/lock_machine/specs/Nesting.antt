-- The levels of a reentrant machine, and its one token.
use Rattle.std.specs.Prelude.{◌≡◌, ℕ, ◌<◌, Bool, true, false, List, [], ◌∷◌, IsTrue}
use Rattle.lock_modes.specs.declared.mode.Mode.TheVariants.{Exclusive}
use Rattle.lock_modes.specs.declared.mode_step.ModeStep.{ModeStep}
use Rattle.lock_modes.specs.declared.mode_step.ModeStep.TheVariants.{Acquire, Release}
use Rattle.lock_machine.specs.declared.call.Call.{Call}
use Rattle.lock_modes.specs.declared.party.PartyId.{PartyId}
use Rattle.lock_machine.specs.Operation.{Operation}
use Rattle.lock_modes.specs.Kind.{is_reentrant}
use Rattle.lock_machine.specs.Entries.{held_count}
use Rattle.lock_machine.specs.Machine.{Machine}
use Rattle.lock_machine.specs.Calls.{is_locked}
use Rattle.lock_machine.specs.Steps.{step}
use Rattle.lock_machine.specs.Sound.{IsSound}
use Rattle.lock_machine.specs.TokenSteps.{token_steps}

abbrev pub is_bump : {O : Type 0} → Call O → Bool
is_bump (Call.Bump party guard) = true
is_bump _ = false

-- the steps on the one token, by whether any guard is held before and after
abbrev pub one_token_steps : Bool → Bool → List ModeStep
one_token_steps false false = []
one_token_steps false true = Acquire Exclusive ∷ []
one_token_steps true false = Release Exclusive ∷ []
one_token_steps true true = []

module _ {O T A : Type 0} (meaning : O → Operation T A) where
  -- on a reentrant machine the first held guard acquires the token, and the last one releases it, whichever it is
  abbrev pub NestedGuardsMakeOneToken : Type 0
  NestedGuardsMakeOneToken =
      (m : Machine T) (call : Call O) → IsSound m.register → IsTrue (is_reentrant m.kind) → is_bump call ≡ false
      → token_steps meaning m call ≡ one_token_steps (is_locked m) (is_locked (step meaning m call).machine)

  -- and a bump with another held guard keeps the token
  abbrev pub NestedBumpsKeepToken : Type 0
  NestedBumpsKeepToken =
      (m : Machine T) (party : PartyId) (guard : ℕ) → IsTrue (is_reentrant m.kind) → 1 < held_count m.entries
      → token_steps meaning m (Call.Bump party guard) ≡ []
