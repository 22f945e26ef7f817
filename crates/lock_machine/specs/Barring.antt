-- What the bar keeps out, and what clears it.
use Rattle.std.specs.Prelude.{◌≡◌, ℕ, Bool, false, not, ◌&&◌, ◌==◌, Some, IsTrue}
use Rattle.lock_modes.specs.declared.mode.Mode.{Mode}
use Rattle.lock_modes.specs.declared.mode.Mode.TheVariants.{Exclusive}
use Rattle.lock_machine.specs.declared.call.Call.{Call}
use Rattle.lock_machine.specs.Operation.{Operation}
use Rattle.lock_modes.specs.Party.{id_of}
use Rattle.lock_machine.specs.Register.{Register, admits_party}
use Rattle.lock_machine.specs.Machine.{Machine}
use Rattle.lock_machine.specs.Steps.{step}
use Rattle.lock_machine.specs.Kept.{is_refusal}

-- the calls that may clear the party's bar: its own, that acquire or withdraw
abbrev pub may_end_bar : {O : Type 0} → ℕ → Call O → Bool
may_end_bar party (Call.Acquire _ _ caller) = id_of caller == party
may_end_bar party (Call.Resume caller guard) = id_of caller == party
may_end_bar party (Call.Withdraw caller) = id_of caller == party
may_end_bar party _ = false

-- the bar stays, whatever is called, until its party acquires or withdraws: by a call of its own that is not refused
abbrev pub BarsPersist : {O T A : Type 0} → (O → Operation T A) → Type 0
BarsPersist {O} {T} meaning =
    (m : Machine T) (call : Call O) (party : ℕ) → m.bar ≡ Some party
    → (not (is_refusal (step meaning m call).reply) && may_end_bar party call) ≡ false
    → (step meaning m call).machine.bar ≡ Some party

-- under the bar only its party is admitted, and only exclusively
abbrev pub BarsKeepOthersOut : Type 0
BarsKeepOthersOut =
    (r : Register) (announced party : ℕ) (mode : Mode) → r.bar ≡ Some announced → IsTrue (admits_party r party mode)
    → (party ≡ announced) × (mode ≡ Exclusive)
