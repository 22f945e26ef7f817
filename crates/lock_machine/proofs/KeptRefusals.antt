-- A refusal leaves the machine.
use Rattle.std.proofs.Common.{◌≡◌, ℕ, List, IsTrue, refl, ap}
use Rattle.lock_modes.specs.declared.mode_step.ModeStep.{ModeStep}
use Rattle.lock_machine.specs.declared.call.Call.{Call}
use Rattle.lock_machine.specs.declared.reply.Reply.{Reply}
use Rattle.lock_machine.specs.Operation.{Operation}
use Rattle.lock_machine.specs.Entries.{find}
use Rattle.lock_machine.specs.Machine.{Machine}
use Rattle.lock_machine.specs.Kept.{is_refusal, KeepsGuard, RefusalsKeepMachine, RefusedUpgradesKeepGuard}
use Rattle.lock_machine.proofs.Effects.{Effect, effect}

machine_kept : {O T A : Type 0} {m after : Machine T} {call : Call O} {reply : Reply A} {steps : List ModeStep}
    → Effect m call reply steps after
    → IsTrue (is_refusal reply) → after ≡ m
machine_kept (Effect.kept unnumbered) h = refl
machine_kept other h = cc

guard_kept : {T : Type 0} (old new : Machine T) (guard : ℕ) → new ≡ old → KeepsGuard old new guard
guard_kept old new guard same = record { same_guard = ap (λ (m : _). find guard m.entries) same; same_value = ap (λ (m : _). m.value) same }

module _ {O T A : Type 0} (meaning : O → Operation T A) where
  pub refusals_keep : RefusalsKeepMachine meaning
  refusals_keep m call refused = machine_kept (effect meaning m call) refused

  pub upgrades_keep : RefusedUpgradesKeepGuard meaning
  upgrades_keep m form party guard op = (
    (λ refused. guard_kept m _ guard (refusals_keep m (Call.Upgrade form party guard) refused)),
    (λ refused. guard_kept m _ guard (refusals_keep m (Call.WithUpgraded form party guard op) refused)),
  )
