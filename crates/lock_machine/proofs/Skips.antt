-- Skipping to a higher number.
use Rattle.std.proofs.Common.{◌≡◌, ℕ, ◌-◌, ◌<◌, ◌≤◌, not, ◌==◌, nat_le, length, None, arith}
use Rattle.std.proofs.lemmas.Bool.{leb-false}
use Rattle.lock_modes.specs.declared.fault.Fault.TheVariants as fault
use Rattle.lock_machine.specs.Register.{Register}
use Rattle.lock_machine.specs.Sound.{IsSound}
use Rattle.lock_machine.specs.Refusals.{skip_refusal}
use Rattle.lock_machine.specs.Calls.{give, with_register}
use Rattle.lock_machine.proofs.SoundRegisters.{raised_sound}
use Rattle.lock_machine.specs.SoundRuns.{SkipsKeepSound}
use Rattle.lock_machine.specs.Numbers.{SkipsGoForward}
use Rattle.lock_machine.proofs.CallEffects.{of_unless, both_passed}

-- a skip that is not refused goes above the last number
goes_on : (r : Register) (next : ℕ) → skip_refusal r next ≡ None → r.last < next
goes_on r next none =
    leb-false next r.last (both_passed (not (length r.entries == 0)) (nat_le next r.last) fault.GuardsOut fault.BadLimits none).1

module _ {T : Type 0} where
  pub skip_forward : SkipsGoForward T
  skip_forward m next =
      of_unless (λ turn. m.last ≤ turn.machine.last) m (skip_refusal m.register next)
      (give tt (with_register m (record m.register { last = next - 1 }))) (λ f. omega arith)
      (λ none. let above = goes_on m.register next none in omega arith)

  pub skip_sound : SkipsKeepSound T
  skip_sound m next sound =
      of_unless (λ turn. IsSound turn.machine.register) m (skip_refusal m.register next)
      (give tt (with_register m (record m.register { last = next - 1 }))) (λ f. sound)
      (λ none. let above = goes_on m.register next none in raised_sound m.register (next - 1) (omega arith) sound)
